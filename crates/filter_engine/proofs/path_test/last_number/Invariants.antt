use Rattle.std.proofs.Common.{◌≡◌, drop}
use Rattle.std.specs.Option.{option_or}
use Rattle.filter_engine.specs.Conditions.{path_numbers}
use Rattle.filter_engine.specs.Wanted.{last_of}
use Rattle.filter_engine.proofs.path_test.last_number.Given as goal

abbrev pub invariant-loop-segment : goal.invariant-loop-segment
invariant-loop-segment l = option_or (last_of (path_numbers (drop l.segment-index l.path))) l.last ≡ last_of (path_numbers l.path)
