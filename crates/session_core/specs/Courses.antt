-- All neighbours, with what is reported and written in a call.
use Rattle.std.specs.Prelude.{◌≡◌, ℕ, List, [], fold, Option, Some, None}
use Rattle.std.specs.Map.{keys_of, set_value}
use Rattle.net_base.specs.declared.addr.Addr.{Addr}
use Rattle.core_msgs.specs.declared.answer.Line.{Line}
use Rattle.core_msgs.specs.declared.frame.Done.{Done}
use Rattle.core_msgs.specs.declared.frame.Frame.{Frame}
use Rattle.core_msgs.specs.declared.parts.Core.{Core}
use Rattle.peer_session.specs.Neighbour.{Course, Neighbour}
use Rattle.peer_session.specs.Steps.{Handles, feeds}
use Rattle.session_core.specs.Sessions.{Peers, is_peer, peer_at}

-- All neighbours, with the lines that were reported and the frames that were written so far.
pub record Courses : Type 0 where
  pub peers : Peers
  pub lines : List Line
  pub frames : List (Core × Frame)

abbrev pub courses : Peers → Done → Courses
courses peers done = record { peers = peers; lines = done.lines; frames = done.frames }

-- nothing was reported or written yet
abbrev pub begun : Peers → Courses
begun peers = record { peers = peers; lines = []; frames = [] }

-- the course of one of them
abbrev pub course_of : Neighbour → Courses → Course
course_of n c = record { neighbour = n; lines = c.lines; frames = c.frames }

-- One of them is now this far, and all others are as they were.
abbrev pub with_course : Addr → Course → Courses → Courses
with_course peer one c = record { peers = set_value (is_peer peer) c.peers one.neighbour; lines = one.lines; frames = one.frames }

abbrev pub at_found : Addr → (Course → Course) → Option Neighbour → Courses → Courses
at_found peer f None c = c
at_found peer f (Some n) c = with_course peer (f (course_of n c)) c

-- One neighbour does this, if it is there, and all others stay as they are.
abbrev pub at_neighbour : Addr → (Course → Course) → Courses → Courses
at_neighbour peer f c = at_found peer f (peer_at peer c.peers) c

-- These neighbours do this, one behind the other.
abbrev pub in_turn : (Course → Course) → List Addr → Courses → Courses
in_turn f addresses c = fold (λ c peer. at_neighbour peer f c) c addresses

-- All neighbours do this, by address.
abbrev pub for_all : (Course → Course) → Courses → Courses
for_all f c = in_turn f (keys_of c.peers) c

-- One neighbour handles bytes that came, and all others stay as they are.
pub record HandlesAt (peer : Addr) (piece : List ℕ) (number now : ℕ) (old new : Courses) : Type 0 where
  pub neighbour : Neighbour
  pub is_there : peer_at peer old.peers ≡ Some neighbour
  pub behind : Course
  pub handles : Handles number now (feeds piece (course_of neighbour old)) behind
  pub gives : new ≡ with_course peer behind old
