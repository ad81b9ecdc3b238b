-- Answers on next hops: valid or not.
use Rattle.std.specs.Prelude.{Bool, true, false, not}

abbrev pub differ : Bool → Bool → Bool
differ true b = not b
differ false b = b
