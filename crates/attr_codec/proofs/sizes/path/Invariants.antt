use Rattle.std.proofs.Common.{◌≡◌, length, take}
use Rattle.attr_codec.specs.Path.{path_bytes}
use Rattle.attr_codec.specs.Size.{capped}
use Rattle.attr_codec.proofs.sizes.path.Given as goal

abbrev pub invariant-loop-it : goal.invariant-loop-it
invariant-loop-it l = l.total ≡ capped (length (path_bytes l.as4 (take l.it-index l.path)))
