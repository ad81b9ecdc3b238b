-- A neighbour with its session, as contracts see it.
use Rattle.std.specs.Prelude.{◌≡◌, ℕ, Bool, false, if◌then◌else◌, List, [], ◌++◌, Option, None}
use Rattle.net_base.specs.declared.addr.Addr.{Addr}
use Rattle.session_fsm.specs.declared.peer.Peer.{Peer}
use Rattle.session_fsm.specs.Table.{has_connection_in, is_up}
use Rattle.bgp_wire.specs.declared.open.OpenFacts.{OpenFacts}
use Rattle.bgp_wire.specs.Message.{Message}
use Rattle.peer_io.specs.Queue.{Queue, nothing_waits}
use Rattle.peer_io.specs.Sending.{with_message}
use Rattle.core_msgs.specs.declared.answer.Line.{Line}
use Rattle.core_msgs.specs.declared.frame.Frame.{Frame}
use Rattle.core_msgs.specs.declared.frame.Done.{Done}
use Rattle.core_msgs.specs.declared.parts.Core.{Core}
use Rattle.peer_session.specs.declared.neighbour.Settings.{Settings}

pub record Neighbour : Type 0 where
  pub peer : Addr
  pub settings : Settings
  -- the state of its session
  pub fsm : Peer
  -- what came of its connection and isn't handled
  pub held : List ℕ
  -- what waits to be sent
  pub outbox : Queue
  -- what the OPEN of its connection said, once it was acceptable
  pub facts : Option OpenFacts
  -- the number of its last session that came up, 0 before the first
  pub number : ℕ
  pub stalled : Bool

abbrev pub is_connected : Neighbour → Bool
is_connected n = has_connection_in n.fsm.state

abbrev pub is_established : Neighbour → Bool
is_established n = is_up n.fsm.state

-- A neighbour, with the lines that were reported and the frames that were written so far.
pub record Course : Type 0 where
  pub neighbour : Neighbour
  pub lines : List Line
  pub frames : List (Core × Frame)

abbrev pub course : Neighbour → Done → Course
course n done = record { neighbour = n; lines = done.lines; frames = done.frames }

-- A call does this.
abbrev pub Does : (Course → Course) → Neighbour → Neighbour → Done → Done → Type 0
Does step old new before behind = course new behind ≡ step (course old before)

-- All is as it was.
abbrev pub stays : Course → Course
stays c = c

abbrev pub reports : List Line → Course → Course
reports more c = record c { lines = c.lines ++ more }

abbrev pub tells : List (Core × Frame) → Course → Course
tells more c = record c { frames = c.frames ++ more }

-- A message is put into the outbox, where it is to be sent.
abbrev pub sends_where : Bool → Message → Neighbour → Neighbour
sends_where wanted m n = if wanted then record n { outbox = with_message m n.outbox } else n

-- Nothing of the connection is left.
abbrev pub without_connection : Neighbour → Neighbour
without_connection n = record n { held = []; outbox = nothing_waits; facts = None; stalled = false }
