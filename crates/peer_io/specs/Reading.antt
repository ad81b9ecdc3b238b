-- What came of a connection: whole messages, and bytes that are no whole message yet.
use Rattle.std.specs.Prelude.{◌≡◌, ℕ, ◌≤◌, List, ◌∷◌, [], ◌++◌, length, take, drop, flat_map}
use Rattle.std.specs.List.{AllByRecursion}
use Rattle.bgp_wire.specs.Message.{IsGood, Message, IsMessage, header_of, message_bytes, AreBytes}

-- The bytes that came are these messages, followed by what is held.
pub record CameAs (bytes : List ℕ) (given : List Message) (held : List ℕ) : Type 0 where
  pub are : AreBytes bytes
  pub whole : bytes ≡ flat_map message_bytes given ++ held
  pub each : AllByRecursion IsMessage given

-- a message of this type, cut off with so many bytes
abbrev pub message_in : ℕ → ℕ → List ℕ → Message
message_in kind size bytes = record { kind = kind; body = drop 19 (take size bytes) }

-- a good header of this length stands in front
pub record IsJudged (bytes : List ℕ) (size : ℕ) : Type 0 where
  pub there : 19 ≤ length bytes
  pub good : IsGood (header_of bytes)
  pub says : size ≡ (header_of bytes).size
