use Rattle.std.proofs.Common.{◌≡◌, ◌-◌, length}
use Rattle.conf_tree.specs.StatementReading.{statements_at, all_room}
use Rattle.conf_parser.specs.Fronts.{behind_statements}
use Rattle.conf_parser.proofs.statements.statements_of.Given as goal

-- what was read and what the rest gives are what the whole text gives
abbrev pub invariant-loop : goal.invariant-loop
invariant-loop l =
    behind_statements l.statements (statements_at l.room (length l.tokens - l.counter) l.rest)
    ≡ statements_at all_room (length l.tokens) l.tokens
