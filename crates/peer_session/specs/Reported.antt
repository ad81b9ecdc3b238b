-- Which lines a neighbour reports.
use Rattle.std.specs.Prelude.{Bool, true, false}
use Rattle.core_msgs.specs.declared.answer.Line.{Line}
use Rattle.core_msgs.specs.declared.answer.Line.TheVariants as line

-- what is told of a connection and its session
abbrev pub is_session_line : Line → Bool
is_session_line (line.Up peer) = true
is_session_line (line.Down peer code sub) = true
is_session_line (line.DownMaxPrefix peer held most) = true
is_session_line (line.DownLost peer) = true
is_session_line (line.DownReceived peer code sub) = true
is_session_line (line.Last peer bytes) = true
is_session_line (line.Connect peer) = true
is_session_line _ = false

-- what is told of bytes that are sent
abbrev pub is_sent_line : Line → Bool
is_sent_line (line.Sent peer bytes) = true
is_sent_line _ = false
