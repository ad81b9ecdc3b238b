-- Frames between the cores, as they stand in bytes.
use Rattle.std.specs.Prelude.{◌≡◌, ℕ, zero, suc, ◌+◌, ◌<◌, ◌≤◌, ◌^◌, ◌||◌, nat_lt, if◌then◌else◌, List, [], ◌∷◌, ◌++◌, length, take, drop, Option, Some, None, Result, Ok, Err}
use Rattle.byteorder.specs.Endian.{little_bytes, little_number}
use Rattle.imsg_wire.specs.declared.header.Header.{Header}
use Rattle.imsg_wire.specs.declared.raw.Raw.{Raw}
use Rattle.imsg_wire.specs.declared.raw.ImsgFault.{ImsgFault}
use Rattle.imsg_wire.specs.declared.raw.ImsgFault.TheVariants as faults

-- A header has 16 bytes: the kind in four, the length of the whole frame in two, flags of two that nobody looks
-- at, the session in four and who wrote it in four; of each number the lowest byte first.
unfoldable pub header_of : List ℕ → Header
header_of bytes = record {
  kind = little_number 4 bytes;
  size = little_number 2 (drop 4 bytes);
  peer = little_number 4 (drop 8 bytes);
  pid = little_number 4 (drop 12 bytes);
}

abbrev pub frame_header : Header → List ℕ
frame_header h =
    (((little_bytes 4 h.kind ++ little_bytes 2 h.size) ++ little_bytes 2 0) ++ little_bytes 4 h.peer) ++ little_bytes 4 h.pid

-- A frame as bytes.
unfoldable pub frame_bytes : Raw → List ℕ
frame_bytes raw =
    frame_header (record { kind = raw.kind; size = 16 + length raw.payload; peer = raw.peer; pid = raw.pid }) ++ raw.payload

-- The new bytes begin with the old ones.
abbrev pub Keeps : List ℕ → List ℕ → Type 0
Keeps old new = take (length old) new ≡ old

-- Its numbers have four bytes, and its payload at most 16368.
pub record IsFrame (raw : Raw) : Type 0 where
  pub kind : raw.kind < 2 ^ 32
  pub peer : raw.peer < 2 ^ 32
  pub pid : raw.pid < 2 ^ 32
  pub payload : length raw.payload ≤ 16368

-- What stands at the front of some bytes: no whole frame yet, a frame and the bytes behind it, or a header with a
-- length that no frame has.
pub data Front : Type 0 where
  More : Front
  Whole : (raw : Raw) → (rest : List ℕ) → Front
  Bad : (size : ℕ) → Front

-- The header at the front, where it is whole.
abbrev pub header_at : List ℕ → Option Header
header_at bytes = if nat_lt (length bytes) 16 then None else Some (header_of bytes)

abbrev pub frame_behind : Header → List ℕ → Raw
frame_behind h bytes = record { kind = h.kind; peer = h.peer; pid = h.pid; payload = drop 16 (take h.size bytes) }

abbrev pub front_by : Option Header → List ℕ → Front
front_by None bytes = More
front_by (Some h) bytes =
    if nat_lt h.size 16 || nat_lt 16384 h.size then Bad h.size
    else if nat_lt (length bytes) h.size then More
    else Whole (frame_behind h bytes) (drop h.size bytes)

unfoldable pub front_of : List ℕ → Front
front_of bytes = front_by (header_at bytes) bytes

-- Whole frames from the front, and the rest, with the length of its header where no frame has that.
pub record Frames : Type 0 where
  pub whole : List Raw
  pub rest : List ℕ
  pub bad : Option ℕ

-- Some frames, and those of the bytes behind them.
abbrev pub behind : List Raw → Frames → Frames
behind raws others = record others { whole = raws ++ others.whole }

-- The frames of some bytes with this at their front, where `next` gives those of the bytes behind it.
abbrev pub frames_by : (List ℕ → Frames) → Front → List ℕ → Frames
frames_by next More bytes = record { whole = []; rest = bytes; bad = None }
frames_by next (Whole raw rest) bytes = behind (raw ∷ []) (next rest)
frames_by next (Bad size) bytes = record { whole = []; rest = bytes; bad = Some size }

unfoldable pub frames_in : ℕ → List ℕ → Frames
frames_in zero bytes = record { whole = []; rest = bytes; bad = None }
frames_in (suc n) bytes = frames_by (frames_in n) (front_of bytes) bytes

-- The frames of a string of bytes.
unfoldable pub frames : List ℕ → Frames
frames bytes = frames_in (length bytes) bytes

-- What a reader with the bytes `old` may answer, and the bytes that it then has. Memory is wanted for a frame alone.
abbrev pub Takes : List ℕ → List ℕ → Result (Option Raw) ImsgFault → Type 0
Takes old new (Ok (Some raw)) = front_of old ≡ Whole raw new
Takes old new (Ok None) = (front_of old ≡ More) × (new ≡ old)
Takes old new (Err (faults.BadLength size)) = (front_of old ≡ Bad size) × (new ≡ old)
Takes old new (Err faults.NoMemory) = ((raw : Raw) × ((rest : List ℕ) × (front_of old ≡ Whole raw rest))) × (new ≡ old)

-- What a reader finds at the front: the header of a whole frame, or none, or a bad length.
abbrev pub Judges : List ℕ → Result (Option Header) ImsgFault → Type 0
Judges bytes (Ok (Some h)) =
    (front_of bytes ≡ Whole (frame_behind h bytes) (drop h.size bytes)) × (16 ≤ h.size) × (h.size ≤ length bytes)
Judges bytes (Ok None) = front_of bytes ≡ More
Judges bytes (Err (faults.BadLength size)) = front_of bytes ≡ Bad size
Judges bytes (Err faults.NoMemory) = ⊥

-- The frame of an answer, if it has one.
abbrev pub given : Result (Option Raw) ImsgFault → List Raw
given (Ok (Some raw)) = raw ∷ []
given (Ok None) = []
given (Err fault) = []
