use Rattle.std.proofs.Common.{◌≡◌, ◌++◌, length}
use Rattle.attr_codec.specs.Large.{larges_of}
use Rattle.attr_codec.proofs.communities.read_triples.Given as goal

abbrev pub invariant-loop-large : goal.invariant-loop-large
invariant-loop-large l = l.list.items ++ larges_of l.left ≡ larges_of l.value

abbrev pub decreases-loop-large : goal.decreases-loop-large
decreases-loop-large l = length l.left
