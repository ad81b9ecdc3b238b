use Rattle.std.proofs.Common.{◌≡◌, ◌++◌, length}
use Rattle.attr_codec.specs.Path.{numbers_in}
use Rattle.attr_codec.proofs.communities.read_numbers.Given as goal

abbrev pub invariant-loop-community : goal.invariant-loop-community
invariant-loop-community l = l.list.items ++ numbers_in 4 l.left ≡ numbers_in 4 l.value

abbrev pub decreases-loop-community : goal.decreases-loop-community
decreases-loop-community l = length l.left
