use Rattle.std.proofs.Common.{◌≡◌, ◌-◌, length}
use Rattle.conf_tree.specs.NeighbourReading.{group_members_at}
use Rattle.conf_parser.specs.Fronts.{behind_both}
use Rattle.conf_parser.proofs.cursor.Cursor.group_members.Given as goal

-- what was read and what the rest gives are what the whole list gives
abbrev pub invariant-loop : goal.invariant-loop
invariant-loop l =
    behind_both l.options l.neighbours (group_members_at l.room (length l.initial.self - l.counter) l.self)
    ≡ group_members_at l.fn.room (length l.initial.self) l.initial.self
