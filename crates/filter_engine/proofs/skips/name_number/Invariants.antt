use Rattle.std.proofs.Common.{◌≡◌, ◌+◌, ◌*◌, ◌%◌, ◌<◌, drop}
use Rattle.std.specs.List.{fold}
use Rattle.filter_engine.specs.Skips.{name_number}
use Rattle.filter_engine.proofs.skips.name_number.Given as goal

abbrev pub invariant-loop-byte : goal.invariant-loop-byte
invariant-loop-byte l = record {
  within : l.number < 4294967291;
  rest : fold (λ number byte. (number * 31 + byte) % 4294967291) l.number (drop l.byte-index l.name) ≡ name_number l.name;
}
