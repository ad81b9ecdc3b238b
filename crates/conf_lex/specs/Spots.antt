-- Where a reader stands in a text.
use Rattle.std.specs.Prelude.{◌+◌, ◌≤◌, length}
use Rattle.conf_lex.specs.declared.reader.Spot.{Spot}

-- A text has no more than 2^27 bytes, and a quoted text in it fewer than it has bytes and an end. There are no more
-- lines than bytes and one.
pub record IsInRange (spot : Spot) : Type 0 where
  pub short : spot.place + length spot.rest.now ≤ 134217729
  pub numbered : spot.line ≤ spot.place + 1
