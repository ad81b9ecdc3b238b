-- What a link and its reader hold together.
use Rattle.std.specs.Prelude.{◌≡◌, ℕ, ◌+◌, ◌*◌, ◌-◌, length, get_or, List, [], ◌∷◌, ◌++◌, flat_map, Option, Some, None, Result, Ok, Err}
use Rattle.std.specs.List.{All}
use Rattle.imsg_wire.specs.declared.link.Link.{Link}
use Rattle.imsg_wire.specs.declared.raw.Raw.{Raw}
use Rattle.imsg_wire.specs.declared.raw.ImsgFault.{ImsgFault}
use Rattle.imsg_wire.specs.declared.raw.ImsgFault.TheVariants as faults
use Rattle.imsg_wire.specs.Frame.{frame_bytes, IsFrame}

-- The link with a frame more at its end.
abbrev pub with_frame : Link → Raw → Link
with_frame link raw = record link { coming = link.coming ++ frame_bytes raw }

-- The bytes that its reader has, followed by those that are still to come, are these frames one behind the other.
pub record Holds (link : Link) (raws : List Raw) : Type 0 where
  pub whole : link.reader ++ link.coming ≡ flat_map frame_bytes raws
  pub each : All IsFrame raws

-- the length that the header at the front of some bytes says
abbrev pub size_in : List ℕ → ℕ
size_in bytes = get_or bytes 4 0 + 256 * get_or bytes 5 0

-- how many bytes are missing for the frame at the front
abbrev pub missing_of : Link → ℕ
missing_of link = size_in (link.reader ++ link.coming) - length link.reader

-- What the next answer of a link that holds these frames can be: the first of them, which it then holds no more;
-- no frame, which with nothing still to come says that it holds none; or want of memory.
abbrev pub GivesFirst : Link → Link → List Raw → Result (Option Raw) ImsgFault → Type 0
GivesFirst old new raws (Ok (Some raw)) = (others : List Raw) × ((raws ≡ raw ∷ others) × Holds new others)
GivesFirst old new raws (Ok None) = (new ≡ old) × (old.coming ≡ [] → raws ≡ [])
GivesFirst old new raws (Err (faults.BadLength size)) = ⊥
GivesFirst old new raws (Err faults.NoMemory) = new ≡ old
