-- What a connection sends: whole messages, one behind the other.
use Rattle.std.specs.Prelude.{◌≡◌, ℕ, ◌+◌, ◌-◌, ◌==◌, if◌then◌else◌, List, [], ◌∷◌, ◌++◌, length, map, flat_map}
use Rattle.std.specs.List.{AllByRecursion}
use Rattle.bgp_wire.specs.Message.{Message, IsMessage, message_bytes}
use Rattle.peer_io.specs.declared.outbox.Waiting.{Waiting}
use Rattle.peer_io.specs.Queue.{Queue, unsent, begun_of, ended}

abbrev pub mark : Message → Waiting
mark m = record { size = 19 + length m.body; is_update = m.kind == 2 }

abbrev pub marks : List Message → List Waiting
marks ms = map mark ms

-- The bytes that were sent, followed by those that wait, are these messages, and those wait that aren't sent whole.
pub record Sends (q : Queue) (sent : List ℕ) (ms : List Message) : Type 0 where
  pub whole : sent ++ q.bytes ≡ flat_map message_bytes ms
  pub each : AllByRecursion IsMessage ms
  pub waiting : q.waiting ≡ unsent (length sent) (marks ms)
  pub begun : q.begun ≡ begun_of (length sent) (marks ms)

-- how many of the UPDATEs among these messages have their last byte among those that were sent
abbrev pub updates_sent : List ℕ → List Message → ℕ
updates_sent sent ms = ended (length sent) (marks ms)

-- the queue with a message more at its end
abbrev pub with_message : Message → Queue → Queue
with_message m q = record q { bytes = q.bytes ++ message_bytes m; waiting = q.waiting ++ mark m ∷ [] }

-- A message is put behind the others, and is then the last that the connection sends.
pub record Pushes (m : Message) (old new : Queue) : Type 0 where
  pub state : new ≡ with_message m old
  pub sends : (sent : List ℕ) (ms : List Message) → Sends old sent ms → Sends new sent (ms ++ m ∷ [])

-- of messages one behind the other, those of which a byte stands within the first n bytes
abbrev pub started : ℕ → List Message → List Message
started n [] = []
started n (m ∷ ms) = if n == 0 then [] else m ∷ started (n - (19 + length m.body)) ms
