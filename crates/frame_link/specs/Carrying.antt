-- The frames that a link carries.
use Rattle.std.specs.Prelude.{◌≡◌, ℕ, List, [], ◌∷◌, ◌++◌, map, take, drop, Option, Some, None, Result, Ok, Err, IfOk, IsErr}
use Rattle.std.specs.List.{All}
use Rattle.core_msgs.specs.declared.frame.Frame.{Frame}
use Rattle.imsg_wire.specs.declared.link.Link.{Link}
use Rattle.imsg_wire.specs.declared.raw.Raw.{Raw}
use Rattle.imsg_wire.specs.declared.raw.ImsgFault.{ImsgFault}
use Rattle.imsg_wire.specs.declared.raw.ImsgFault.TheVariants as faults
use Rattle.imsg_wire.specs.Frame.{More, Whole, front_of}
use Rattle.imsg_wire.specs.Holding.{Holds}
use Rattle.frame_codec.specs.Grammar.{Fits, raw_of}

-- Who writes, the bytes that its reader has, and those that are still to come.
pub record LinkState : Type 0 where
  pub writer : ℕ
  pub reader : List ℕ
  pub coming : List ℕ

abbrev pub bytes_of : LinkState → Link
bytes_of s = record { reader = s.reader; coming = s.coming }

-- the frames as the writer writes them
abbrev pub written_by : ℕ → List Frame → List Raw
written_by writer fs = map (λ f. raw_of f writer) fs

-- The link carries these frames: the bytes that its reader has, followed by those that are still to come, are theirs.
pub record Carries (s : LinkState) (fs : List Frame) : Type 0 where
  pub holds : Holds (bytes_of s) (written_by s.writer fs)
  pub each : All Fits fs

-- no whole frame is in the reader
abbrev pub IsPartial : LinkState → Type 0
IsPartial s = front_of s.reader ≡ More

-- What is given is the whole frame in front of the bytes that the reader then has.
abbrev pub TakesFront : {A : Type 0} → List ℕ → List ℕ → Result (Option Frame) A → Type 0
TakesFront old new (Ok (Some frame)) = (raw : Raw) × (front_of old ≡ Whole raw new)
TakesFront old new (Ok None) = Unit {0}
TakesFront old new (Err fault) = Unit {0}

-- bytes move to the reader
abbrev pub moved : ℕ → LinkState → LinkState
moved n s = record s { reader = s.reader ++ take n s.coming; coming = drop n s.coming }

-- What may come of what a link gives: of the bytes of a frame that frame.
abbrev pub ReadsGiven : {A : Type 0} → Result (Option Raw) ImsgFault → Result (Option Frame) A → Type 0
ReadsGiven (Ok (Some raw)) result = (frame : Frame) (writer : ℕ) → Fits frame → raw_of frame writer ≡ raw → IfOk result (λ given. given ≡ Some frame)
ReadsGiven (Ok None) result = result ≡ Ok None
ReadsGiven (Err faults.NoMemory) result = IsErr result
ReadsGiven (Err (faults.BadLength size)) result = result ≡ Ok None

-- What a link that carries these frames gives: the first of them, which it then carries no more, or none, where its reader has no
-- whole one.
abbrev pub GivesFirst : {A : Type 0} → LinkState → LinkState → List Frame → Result (Option Frame) A → Type 0
GivesFirst old new fs (Ok (Some frame)) = (others : List Frame) × ((fs ≡ frame ∷ others) × Carries new others × Fits frame)
GivesFirst old new fs (Ok None) = (new ≡ old) × IsPartial old
GivesFirst old new fs (Err fault) = Unit {0}

-- What it gives where the first frame is completed: that one, behind which its reader has nothing, or none, where it carries none.
abbrev pub CompletesFirst : {A : Type 0} → LinkState → LinkState → List Frame → Result (Option Frame) A → Type 0
CompletesFirst old new fs (Ok (Some frame)) = (others : List Frame) × ((fs ≡ frame ∷ others) × Carries new others × Fits frame × (new.reader ≡ []))
CompletesFirst old new fs (Ok None) = (new ≡ old) × (fs ≡ [])
CompletesFirst old new fs (Err fault) = Unit {0}
