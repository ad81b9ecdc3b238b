-- The frames between the cores: what each has behind its header.
use Rattle.std.specs.Prelude.{◌≡◌, ℕ, ◌+◌, ◌/◌, ◌%◌, ◌≤◌, ◌<◌, ◌^◌, ◌==◌, nat_lt, nat_le, ◌&&◌, if◌then◌else◌, Bool, true, List, [], ◌∷◌, ◌++◌, length, Option, Some, None}
use Rattle.std.specs.Str.{is_utf8}
use Rattle.std.specs.List.{All}
use Rattle.byteorder.specs.Endian.{big_bytes}
use Rattle.wire_buf.specs.Field.{◌>>=◌, number_at, bytes_at}
use Rattle.net_base.specs.Order.{same_family}
use Rattle.net_base.specs.declared.addr.Addr.{Addr}
use Rattle.net_base.specs.declared.addr.Family.{Family}
use Rattle.net_base.specs.declared.prefix.Prefix.{Prefix}
use Rattle.attr_model.specs.declared.attrs.Attrs.{Attrs}
use Rattle.attr_model.specs.Valid.{IsValid}
use Rattle.attr_codec.specs.Prefixes.{prefix_bytes, IsOf}
use Rattle.attr_codec.specs.Frame.{frame_attrs_bytes, frame_attrs_of}
use Rattle.imsg_wire.specs.declared.raw.Raw.{Raw}
use Rattle.core_msgs.specs.declared.frame.Agreed.{Agreed}
use Rattle.core_msgs.specs.declared.frame.Frame.{Frame}
use Rattle.core_msgs.specs.declared.frame.Frame.TheVariants as frames
use Rattle.frame_codec.specs.declared.kind.Kind.{Kind}
use Rattle.frame_codec.specs.declared.kind.Kind.TheVariants.{Begin, Piece, Commit, Ack, Up, Down, Routes, Credit, Refresh, Close, Track, Untrack, Nexthop, FibSet, FibDel, Couple, CtlWords, CtlText, CtlEnd}
use Rattle.frame_codec.specs.Fields.{both, mapped, whole, truth_byte, truth_at, family_byte, family_at, addr_bytes, addr_at, exact_prefix_at, prefixes_bytes, prefixes_at}

-- The number of a kind in a header.
abbrev pub number_of : Kind → ℕ
number_of Begin = 1
number_of Piece = 2
number_of Commit = 3
number_of Ack = 4
number_of Up = 5
number_of Down = 6
number_of Routes = 7
number_of Credit = 8
number_of Refresh = 9
number_of Close = 10
number_of Track = 11
number_of Untrack = 12
number_of Nexthop = 13
number_of FibSet = 14
number_of FibDel = 15
number_of Couple = 16
number_of CtlWords = 17
number_of CtlText = 18
number_of CtlEnd = 19

abbrev pub kind_numbered : ℕ → Option Kind
kind_numbered n =
    if n == 1 then Some Begin
    else if n == 2 then Some Piece
    else if n == 3 then Some Commit
    else if n == 4 then Some Ack
    else if n == 5 then Some Up
    else if n == 6 then Some Down
    else if n == 7 then Some Routes
    else if n == 8 then Some Credit
    else if n == 9 then Some Refresh
    else if n == 10 then Some Close
    else if n == 11 then Some Track
    else if n == 12 then Some Untrack
    else if n == 13 then Some Nexthop
    else if n == 14 then Some FibSet
    else if n == 15 then Some FibDel
    else if n == 16 then Some Couple
    else if n == 17 then Some CtlWords
    else if n == 18 then Some CtlText
    else if n == 19 then Some CtlEnd
    else None

abbrev pub kind_of : Frame → Kind
kind_of (frames.Begin generation size) = Begin
kind_of (frames.Piece bytes) = Piece
kind_of (frames.Commit generation) = Commit
kind_of (frames.Ack generation) = Ack
kind_of (frames.Up session peer asn id agreed) = Up
kind_of (frames.Down session) = Down
kind_of (frames.Routes session family withdrawn announced) = Routes
kind_of (frames.Credit session messages) = Credit
kind_of (frames.Refresh session family) = Refresh
kind_of (frames.Close session code sub held most) = Close
kind_of (frames.Track hop) = Track
kind_of (frames.Untrack hop) = Untrack
kind_of (frames.Nexthop hop valid) = Nexthop
kind_of (frames.FibSet table prefix hop) = FibSet
kind_of (frames.FibDel table prefix) = FibDel
kind_of (frames.Couple table on) = Couple
kind_of (frames.CtlWords text) = CtlWords
kind_of (frames.CtlText text) = CtlText
kind_of (frames.CtlEnd status) = CtlEnd

-- The session that it speaks of; 0 stands for none.
abbrev pub session_of : Frame → ℕ
session_of (frames.Begin generation size) = 0
session_of (frames.Piece bytes) = 0
session_of (frames.Commit generation) = 0
session_of (frames.Ack generation) = 0
session_of (frames.Up session peer asn id agreed) = session
session_of (frames.Down session) = session
session_of (frames.Routes session family withdrawn announced) = session
session_of (frames.Credit session messages) = session
session_of (frames.Refresh session family) = session
session_of (frames.Close session code sub held most) = session
session_of (frames.Track hop) = 0
session_of (frames.Untrack hop) = 0
session_of (frames.Nexthop hop valid) = 0
session_of (frames.FibSet table prefix hop) = 0
session_of (frames.FibDel table prefix) = 0
session_of (frames.Couple table on) = 0
session_of (frames.CtlWords text) = 0
session_of (frames.CtlText text) = 0
session_of (frames.CtlEnd status) = 0

-- What a session exchanges, as bits of a byte: IPv4, IPv6, four-octet AS numbers, route refresh.
abbrev pub bit_if : Bool → ℕ → ℕ
bit_if is_there bit = if is_there then bit else 0

abbrev pub agreed_bits : Agreed → ℕ
agreed_bits a = ((bit_if a.v4 1 + bit_if a.v6 2) + bit_if a.as4 4) + bit_if a.refresh 8

abbrev pub agreed_of : ℕ → Agreed
agreed_of bits = record { v4 = bits % 2 == 1; v6 = bits / 2 % 2 == 1; as4 = bits / 4 % 2 == 1; refresh = bits / 8 % 2 == 1 }

abbrev pub agreed_bytes : Agreed → List ℕ
agreed_bytes a = agreed_bits a ∷ []

abbrev pub agreed_at : List ℕ → Option (Agreed × List ℕ)
agreed_at bytes = do
  code ← number_at 1 bytes
  if nat_lt 15 code.0 then None else Some (agreed_of code.0, code.1)

-- A prefix of either family.
abbrev pub placed_bytes : Prefix → List ℕ
placed_bytes p = family_byte p.family ++ prefix_bytes p

unfoldable pub placed_at : List ℕ → Option (Prefix × List ℕ)
placed_at bytes = do
  family ← family_at bytes
  exact_prefix_at family.0 family.1

-- A number of at least 1.
unfoldable pub some_at : List ℕ → Option (ℕ × List ℕ)
some_at bytes = do
  number ← number_at 4 bytes
  if number.0 == 0 then None else Some number

-- All the bytes, where they pass a test.
abbrev pub rest_if : (List ℕ → Bool) → List ℕ → Option (List ℕ × List ℕ)
rest_if test bytes = if test bytes then Some (bytes, []) else None

-- A part of a text has 1 to 16000 bytes.
abbrev pub is_piece : List ℕ → Bool
is_piece bytes = nat_le 1 (length bytes) && nat_le (length bytes) 16000

-- Attributes: their weight, their next hop, the length of the others, and these.
unfoldable pub attrs_bytes : Attrs → List ℕ
attrs_bytes attrs =
    big_bytes 4 attrs.weight ++ (addr_bytes attrs.hop ++ (big_bytes 4 (length (frame_attrs_bytes attrs)) ++ frame_attrs_bytes attrs))

-- Nothing, or attributes and the prefixes that have them.
abbrev pub announced_bytes : Option (Attrs × List Prefix) → List ℕ
announced_bytes None = []
announced_bytes (Some one) = attrs_bytes one.0 ++ prefixes_bytes one.1

-- An address of this family.
unfoldable pub hop_at : Family → List ℕ → Option (Addr × List ℕ)
hop_at family bytes = do
  hop ← addr_at bytes
  if same_family hop.0.family family then Some hop else None

-- The attributes, of which the weight and the hop stand in front.
unfoldable pub attrs_at : Family → List ℕ → Option (Attrs × List ℕ)
attrs_at family bytes = do
  weight ← number_at 4 bytes
  hop ← hop_at family weight.1
  size ← number_at 4 hop.1
  field ← bytes_at size.0 size.1
  attrs ← frame_attrs_of hop.0 weight.0 field.0
  Some (attrs, field.1)

-- Nothing, or attributes and the prefixes that have them.
unfoldable pub announced_at : Family → List ℕ → Option (Option (Attrs × List Prefix) × List ℕ)
announced_at family bytes =
    if length bytes == 0 then Some (None, bytes) else mapped Some (both (attrs_at family) (prefixes_at family)) bytes

-- The routes of a session.
unfoldable pub routes_at : ℕ → List ℕ → Option (Frame × List ℕ)
routes_at session bytes = do
  family ← family_at bytes
  withdrawn ← prefixes_at family.0 family.1
  announced ← announced_at family.0 withdrawn.1
  Some (frames.Routes session family.0 withdrawn.0 announced.0, announced.1)

-- What stands behind the header of each kind. Numbers have the highest byte first.
abbrev pub payload_of : Frame → List ℕ
payload_of (frames.Begin generation size) = big_bytes 4 generation ++ big_bytes 4 size
payload_of (frames.Piece bytes) = bytes
payload_of (frames.Commit generation) = big_bytes 4 generation
payload_of (frames.Ack generation) = big_bytes 4 generation
payload_of (frames.Up session peer asn id agreed) = addr_bytes peer ++ (big_bytes 4 asn ++ (big_bytes 4 id ++ agreed_bytes agreed))
payload_of (frames.Down session) = []
payload_of (frames.Routes session family withdrawn announced) = family_byte family ++ (prefixes_bytes withdrawn ++ announced_bytes announced)
payload_of (frames.Credit session messages) = big_bytes 4 messages
payload_of (frames.Refresh session family) = family_byte family
payload_of (frames.Close session code sub held most) = big_bytes 1 code ++ (big_bytes 1 sub ++ (big_bytes 8 held ++ big_bytes 4 most))
payload_of (frames.Track hop) = addr_bytes hop
payload_of (frames.Untrack hop) = addr_bytes hop
payload_of (frames.Nexthop hop valid) = addr_bytes hop ++ truth_byte valid
payload_of (frames.FibSet table prefix hop) = big_bytes 4 table ++ (placed_bytes prefix ++ addr_bytes hop)
payload_of (frames.FibDel table prefix) = big_bytes 4 table ++ placed_bytes prefix
payload_of (frames.Couple table on) = big_bytes 4 table ++ truth_byte on
payload_of (frames.CtlWords text) = text
payload_of (frames.CtlText text) = text
payload_of (frames.CtlEnd status) = big_bytes 1 status

-- A frame with its header's fields, as this one writes it.
abbrev pub raw_of : Frame → ℕ → Raw
raw_of f writer = record { kind = number_of (kind_of f); peer = session_of f; pid = writer; payload = payload_of f }

-- The frame of each kind at the front of some bytes, which may be all of them.
abbrev pub field_of : Kind → ℕ → List ℕ → Option (Frame × List ℕ)
field_of Begin session bytes = mapped (λ x. frames.Begin x.0 x.1) (both (number_at 4) (number_at 4)) bytes
field_of Piece session bytes = mapped frames.Piece (rest_if is_piece) bytes
field_of Commit session bytes = mapped frames.Commit (number_at 4) bytes
field_of Ack session bytes = mapped frames.Ack (number_at 4) bytes
field_of Up session bytes =
    mapped (λ x. frames.Up session x.0 x.1.0 x.1.1.0 x.1.1.1) (both addr_at (both (number_at 4) (both (number_at 4) agreed_at))) bytes
field_of Down session bytes = Some (frames.Down session, bytes)
field_of Routes session bytes = routes_at session bytes
field_of Credit session bytes = mapped (frames.Credit session) some_at bytes
field_of Refresh session bytes = mapped (frames.Refresh session) family_at bytes
field_of Close session bytes =
    mapped (λ x. frames.Close session x.0 x.1.0 x.1.1.0 x.1.1.1) (both (number_at 1) (both (number_at 1) (both (number_at 8) (number_at 4)))) bytes
field_of Track session bytes = mapped frames.Track addr_at bytes
field_of Untrack session bytes = mapped frames.Untrack addr_at bytes
field_of Nexthop session bytes = mapped (λ x. frames.Nexthop x.0 x.1) (both addr_at truth_at) bytes
field_of FibSet session bytes = mapped (λ x. frames.FibSet x.0 x.1.0 x.1.1) (both (number_at 4) (both placed_at addr_at)) bytes
field_of FibDel session bytes = mapped (λ x. frames.FibDel x.0 x.1) (both (number_at 4) placed_at) bytes
field_of Couple session bytes = mapped (λ x. frames.Couple x.0 x.1) (both (number_at 4) truth_at) bytes
field_of CtlWords session bytes = mapped frames.CtlWords (rest_if is_utf8) bytes
field_of CtlText session bytes = mapped frames.CtlText (rest_if is_utf8) bytes
field_of CtlEnd session bytes = mapped frames.CtlEnd (number_at 1) bytes

-- The frame that a kind's number, a session and a payload are, or None where the payload isn't of the kind's grammar.
unfoldable pub frame_of : ℕ → ℕ → List ℕ → Option Frame
frame_of number session payload = do
  kind ← kind_numbered number
  if nat_lt 16368 (length payload) then None else whole (field_of kind session) payload

-- Attributes that are read back from what is written of them.
pub record IsCarried (attrs : Attrs) : Type 0 where
  pub valid : IsValid attrs
  pub short : length (frame_attrs_bytes attrs) ≤ 65535
  pub weight : attrs.weight < 2 ^ 32
  pub back : frame_attrs_of attrs.hop attrs.weight (frame_attrs_bytes attrs) ≡ Some attrs

abbrev pub IsNumber : ℕ → ℕ → Type 0
IsNumber size x = x < 256 ^ size

-- Attributes of routes of a family.
abbrev pub AreAttrs : Family → Attrs → Type 0
AreAttrs family attrs = IsCarried attrs × (attrs.hop.family ≡ family)

-- Prefixes of a family, with a count that two bytes hold.
abbrev pub ArePrefixes : Family → List Prefix → Type 0
ArePrefixes family prefixes = All (IsOf family) prefixes × IsNumber 2 (length prefixes)

abbrev pub IsAnnounced : Family → Option (Attrs × List Prefix) → Type 0
IsAnnounced family None = Unit {0}
IsAnnounced family (Some one) = AreAttrs family one.0 × ArePrefixes family one.1

-- Each part of a frame is what a payload can hold.
abbrev pub AreParts : Frame → Type 0
AreParts (frames.Begin generation size) = IsNumber 4 generation × IsNumber 4 size
AreParts (frames.Piece bytes) = is_piece bytes ≡ true
AreParts (frames.Commit generation) = IsNumber 4 generation
AreParts (frames.Ack generation) = IsNumber 4 generation
AreParts (frames.Up session peer asn id agreed) = IsNumber 4 asn × IsNumber 4 id
AreParts (frames.Down session) = Unit {0}
AreParts (frames.Routes session family withdrawn announced) = ArePrefixes family withdrawn × IsAnnounced family announced
AreParts (frames.Credit session messages) = IsNumber 4 messages × (1 ≤ messages)
AreParts (frames.Refresh session family) = Unit {0}
AreParts (frames.Close session code sub held most) = IsNumber 1 code × IsNumber 1 sub × IsNumber 8 held × IsNumber 4 most
AreParts (frames.Track hop) = Unit {0}
AreParts (frames.Untrack hop) = Unit {0}
AreParts (frames.Nexthop hop valid) = Unit {0}
AreParts (frames.FibSet table prefix hop) = IsNumber 4 table
AreParts (frames.FibDel table prefix) = IsNumber 4 table
AreParts (frames.Couple table on) = IsNumber 4 table
AreParts (frames.CtlWords text) = is_utf8 text ≡ true
AreParts (frames.CtlText text) = is_utf8 text ≡ true
AreParts (frames.CtlEnd status) = IsNumber 1 status

-- What a test has to see of attributes: the rest of `IsCarried` holds of each value of their type.
pub record AreWritable (attrs : Attrs) : Type 0 where
  pub valid : IsValid attrs
  pub short : length (frame_attrs_bytes attrs) ≤ 65535

abbrev pub IsWritableAnnounced : Family → Option (Attrs × List Prefix) → Type 0
IsWritableAnnounced family None = Unit {0}
IsWritableAnnounced family (Some one) = (AreWritable one.0 × (one.0.hop.family ≡ family)) × ArePrefixes family one.1

-- What a test has to see of a frame's parts: each number is within its type.
abbrev pub AreWritableParts : Frame → Type 0
AreWritableParts (frames.Piece bytes) = is_piece bytes ≡ true
AreWritableParts (frames.Routes session family withdrawn announced) = ArePrefixes family withdrawn × IsWritableAnnounced family announced
AreWritableParts (frames.Credit session messages) = 1 ≤ messages
AreWritableParts (frames.CtlWords text) = is_utf8 text ≡ true
AreWritableParts (frames.CtlText text) = is_utf8 text ≡ true
AreWritableParts frame = Unit {0}

-- A frame that can be written.
pub record Fits (frame : Frame) : Type 0 where
  pub parts : AreParts frame
  pub short : length (payload_of frame) ≤ 16368

-- A payload is that of this frame, which fits.
pub record IsPayloadOf (its : ℕ) (payload : List ℕ) (frame : Frame) : Type 0 where
  pub fits : Fits frame
  pub number : number_of (kind_of frame) ≡ its
  pub written : payload_of frame ≡ payload
