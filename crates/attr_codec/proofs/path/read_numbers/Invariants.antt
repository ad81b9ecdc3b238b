use Rattle.std.proofs.Common.{◌≡◌, ◌++◌, length}
use Rattle.attr_codec.specs.Path.{as_size, numbers_in}
use Rattle.attr_codec.proofs.path.read_numbers.Given as goal

abbrev pub invariant-loop-number : goal.invariant-loop-number
invariant-loop-number l = l.numbers ++ numbers_in (as_size l.as4) l.left ≡ numbers_in (as_size l.as4) l.bytes

abbrev pub decreases-loop-number : goal.decreases-loop-number
decreases-loop-number l = length l.left
