use Rattle.std.proofs.Common.{◌≡◌, ◌-◌, length}
use Rattle.conf_tree.specs.NeighbourReading.{options_at}
use Rattle.conf_parser.specs.Fronts.{behind_front}
use Rattle.conf_parser.proofs.cursor.Cursor.options.Given as goal

-- what was read and what the rest gives are what the whole list gives
abbrev pub invariant-loop : goal.invariant-loop
invariant-loop l =
    behind_front l.options (options_at (length l.initial.self - l.counter) l.self)
    ≡ options_at (length l.initial.self) l.initial.self
