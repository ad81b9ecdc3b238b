-- The messages in a string of bytes (RFC 4271, section 4; RFC 2918, section 3).
use Rattle.std.specs.Prelude.{◌≡◌, ℕ, zero, suc, ◌+◌, ◌<◌, ◌≤◌, Bool, not, ◌||◌, ◌==◌, nat_lt, nat_le, if◌then◌else◌, ◌⊎◌, List, [], ◌∷◌, ◌++◌, length, take, drop, slice_index, replicate, Option, Some, None}
use Rattle.std.specs.List.{list_all, flat_map, AllByRecursion}
use Rattle.byteorder.specs.Endian.{big_bytes, big_number}
use Rattle.bgp_wire.specs.declared.notify.Notify.{Notify}
use Rattle.bgp_wire.specs.declared.front.Cut.{Cut}
use Rattle.bgp_wire.specs.declared.front.Cut.TheVariants as cuts

-- The first row of a table of faults that holds.
abbrev pub first_row : List (Bool × Notify) → Option Notify
first_row [] = None
first_row (row ∷ rows) = if row.0 then Some row.1 else first_row rows

abbrev pub notify : ℕ → ℕ → Notify
notify code sub = record { code = code; sub = sub }

-- The 19 bytes of a header: the marker of 16 bytes, the length of the whole message, its type.
pub record Header : Type 0 where
  pub marker : List ℕ
  pub size : ℕ
  pub kind : ℕ

abbrev pub header_of : List ℕ → Header
header_of bytes = record { marker = take 16 bytes; size = big_number 2 (drop 16 bytes); kind = slice_index bytes 18 }

abbrev pub is_all_ones : List ℕ → Bool
is_all_ones bytes = list_all (λ b. b == 255) bytes

-- Whether a message of this type may have this length: OPEN, UPDATE, NOTIFICATION, KEEPALIVE, ROUTE-REFRESH.
abbrev pub fits_kind : ℕ → ℕ → Bool
fits_kind kind size =
    if kind == 1 then nat_le 29 size
    else if kind == 2 then nat_le 23 size
    else if kind == 3 then nat_le 21 size
    else if kind == 4 then size == 19
    else size == 23

-- How a header is judged (RFC 4271, section 6.1).
abbrev pub header_rows : Header → List (Bool × Notify)
header_rows h =
    (not (is_all_ones h.marker), notify 1 1)
    ∷ (nat_lt h.size 19 || nat_lt 4096 h.size, notify 1 2)
    ∷ (nat_lt h.kind 1 || nat_lt 5 h.kind, notify 1 3)
    ∷ (not (fits_kind h.kind h.size), notify 1 2)
    ∷ []

abbrev pub header_fault : Header → Option Notify
header_fault h = first_row (header_rows h)

-- No row holds.
abbrev pub IsGood : Header → Type 0
IsGood h = header_fault h ≡ None

-- No whole message, and no fault so far.
abbrev pub IsUnfinished : List ℕ → Type 0
IsUnfinished bytes = (length bytes < 19) ⊎ (IsGood (header_of bytes) × (length bytes < (header_of bytes).size))

-- A whole message of this type and length stands in front.
pub record BeginsMessage (bytes : List ℕ) (its_kind its_size : ℕ) : Type 0 where
  pub header : 19 ≤ length bytes
  pub good : IsGood (header_of bytes)
  pub kind : its_kind ≡ (header_of bytes).kind
  pub size : its_size ≡ (header_of bytes).size
  pub whole : its_size ≤ length bytes

-- A header with this fault stands in front.
abbrev pub BeginsFault : List ℕ → Notify → Type 0
BeginsFault bytes fault = (19 ≤ length bytes) × (header_fault (header_of bytes) ≡ Some fault)

-- A message: its type, and the body behind its header.
pub record Message : Type 0 where
  pub kind : ℕ
  pub body : List ℕ

-- A header as bytes.
abbrev pub message_header : ℕ → ℕ → List ℕ
message_header kind size = (replicate 16 255 ++ big_bytes 2 size) ++ (kind ∷ [])

-- A message as bytes.
abbrev pub message_bytes : Message → List ℕ
message_bytes m = message_header m.kind (19 + length m.body) ++ m.body

-- The header of a message is good, so its length is at most 4096.
abbrev pub IsMessage : Message → Type 0
IsMessage m = IsGood (record { marker = replicate 16 255; size = 19 + length m.body; kind = m.kind })

-- Whole messages from the front, and the rest, with the fault of the header if one stands in a message's place.
pub record Messages : Type 0 where
  pub whole : List Message
  pub rest : List ℕ
  pub fault : Option Notify

-- The rest holds no whole message.
abbrev pub EndsSo : List ℕ → Option Notify → Type 0
EndsSo rest None = IsUnfinished rest
EndsSo rest (Some fault) = BeginsFault rest fault

-- The bytes are these messages and this rest.
pub record Splits (bytes : List ℕ) (ms : Messages) : Type 0 where
  pub all : bytes ≡ flat_map message_bytes ms.whole ++ ms.rest
  pub each : AllByRecursion IsMessage ms.whole
  pub ending : EndsSo ms.rest ms.fault

-- What stands in front, as `Cut` says it.
abbrev pub cut_by : Option Notify → Header → ℕ → Cut
cut_by (Some fault) h held = cuts.Notify fault
cut_by None h held = if nat_lt held h.size then cuts.More else cuts.Message h.kind h.size

abbrev pub cut_of : List ℕ → Cut
cut_of bytes = if nat_lt (length bytes) 19 then cuts.More else cut_by (header_fault (header_of bytes)) (header_of bytes) (length bytes)

-- The messages, where the first is cut off so and `next` gives those behind it.
abbrev pub messages_by : (List ℕ → Messages) → Cut → List ℕ → Messages
messages_by next cuts.More bytes = record { whole = []; rest = bytes; fault = None }
messages_by next (cuts.Message kind size) bytes =
    let others = next (drop size bytes) in
    record others { whole = record { kind = kind; body = drop 19 (take size bytes) } ∷ others.whole }
messages_by next (cuts.Notify fault) bytes = record { whole = []; rest = bytes; fault = Some fault }

unfoldable pub messages_in : ℕ → List ℕ → Messages
messages_in zero bytes = record { whole = []; rest = bytes; fault = None }
messages_in (suc n) bytes = messages_by (messages_in n) (cut_of bytes) bytes

-- The messages of a string of bytes.
unfoldable pub messages : List ℕ → Messages
messages bytes = messages_in (length bytes) bytes

-- The messages, where the first is cut off so.
abbrev pub after_cut : Cut → List ℕ → Messages
after_cut c bytes = messages_by messages c bytes

-- Some messages, and those of the bytes behind them.
abbrev pub behind : List Message → Messages → Messages
behind ms others = record others { whole = ms ++ others.whole }

-- Each is a byte.
abbrev pub AreBytes : List ℕ → Type 0
AreBytes bytes = (i : ℕ) → slice_index bytes i < 256
