use Rattle.std.proofs.Common.{◌≡◌, ◌-◌, length}
use Rattle.conf_tree.specs.RuleReading.{conditions_at}
use Rattle.conf_parser.specs.Fronts.{behind_front}
use Rattle.conf_parser.proofs.cursor.Cursor.conditions.Given as goal

-- what was read and what the rest gives are what the whole list gives
abbrev pub invariant-loop : goal.invariant-loop
invariant-loop l =
    behind_front l.conditions (conditions_at l.lists l.room (length l.initial.self - l.counter) l.self)
    ≡ conditions_at l.fn.lists 16 (length l.initial.self) l.initial.self
