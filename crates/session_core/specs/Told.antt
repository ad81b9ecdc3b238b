-- Which lines a call reports, and what it makes of the time and of the numbers of sessions.
use Rattle.std.specs.Prelude.{ℕ, Bool, true, false, ◌||◌}
use Rattle.core_msgs.specs.declared.answer.Line.{Line}
use Rattle.core_msgs.specs.declared.answer.Line.TheVariants as line
use Rattle.core_msgs.specs.declared.row.Row.{Row}
use Rattle.core_msgs.specs.declared.row.Row.TheVariants as row
use Rattle.core_msgs.specs.declared.control.CtlCommand.{CtlCommand}
use Rattle.core_msgs.specs.declared.control.CtlCommand.TheVariants as ctl
use Rattle.peer_session.specs.Reported.{is_session_line, is_sent_line}
use Rattle.session_core.specs.History.{Call, Lost, Heard, Told, Wrote, Took, Applied, Commanded, Stopped}

-- a configuration was taken up
abbrev pub is_applied_line : Line → Bool
is_applied_line (line.AppliedSession generation) = true
is_applied_line _ = false

-- what a frame or a configuration may bring
abbrev pub is_taken_line : Line → Bool
is_taken_line l = is_session_line l || is_applied_line l

-- the rows that the session core shows by itself
abbrev pub is_own_row : CtlCommand → Row → Bool
is_own_row ctl.ShowSummary (row.Summary peer asn state) = true
is_own_row (ctl.ShowNeighbour at) (row.Neighbour peer asn state hold outbox) = true
is_own_row ctl.ShowSets (row.Set kind name count) = true
is_own_row ctl.ShowSets (row.RoaSet count) = true
is_own_row _ _ = false

abbrev pub is_command_line : CtlCommand → Line → Bool
is_command_line (ctl.Neighbour at action) l = is_session_line l
is_command_line c (line.Row shown) = is_own_row c shown
is_command_line c _ = false

-- whether the call may report the line
abbrev pub may_report : Call → Line → Bool
may_report (Lost at) l = is_session_line l
may_report (Heard at piece) l = is_session_line l
may_report (Told now) l = is_session_line l
may_report (Wrote at most) l = is_sent_line l
may_report (Took frame) l = is_taken_line l
may_report (Applied conf generation) l = is_taken_line l
may_report (Commanded command) l = is_command_line command l
may_report Stopped l = is_session_line l
may_report _ l = false

-- The time behind a call is the one that was told, if it told one.
abbrev pub moment_behind : Call → ℕ → ℕ
moment_behind (Told now) before = now
moment_behind _ before = before

-- how many sessions a call may bring up
abbrev pub most_ups : Call → ℕ
most_ups (Heard at piece) = 1
most_ups _ = 0
