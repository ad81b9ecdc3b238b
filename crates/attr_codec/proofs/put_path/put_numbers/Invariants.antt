use Rattle.std.proofs.Common.{◌≡◌, ◌++◌, take, flat_map}
use Rattle.attr_codec.specs.Path.{as_bytes}
use Rattle.attr_codec.proofs.put_path.put_numbers.Given as goal

abbrev pub invariant-loop-number : goal.invariant-loop-number
invariant-loop-number l = l.out ≡ l.fn.out ++ flat_map (as_bytes l.as4) (take l.number-index l.numbers)
