use Rattle.std.proofs.Common.{◌≡◌, ◌-◌, length}
use Rattle.conf_tree.specs.Reading.{members_at}
use Rattle.conf_parser.specs.Fronts.{behind_front}
use Rattle.conf_parser.proofs.cursor.Cursor.members.Given as goal

-- what was read and what the rest gives are what the whole list gives
abbrev pub invariant-loop : goal.invariant-loop
invariant-loop g l =
    behind_front l.members (members_at (g.M.ReadMember.member l.reader) l.room (length l.initial.self - l.counter) l.self)
    ≡ behind_front l.fn.front (members_at (g.M.ReadMember.member l.reader) l.fn.room (length l.initial.self) l.initial.self)
