-- The UPDATEs that are sent (RFC 4271 section 4.3, RFC 4760): prefixes of one family are withdrawn, or announced with
-- attributes. IPv4 stands in the plain fields and IPv6 in the attributes of RFC 4760.
use Rattle.std.specs.Prelude.{◌≡◌, ◌≢◌, ℕ, ◌≤◌, ◌+◌, Bool, not, is_some, List, [], ◌∷◌, ◌++◌, length, IsTrue, ⊤}
use Rattle.std.specs.List.{AllByRecursion}
use Rattle.byteorder.specs.Endian.{big_bytes}
use Rattle.net_base.specs.declared.addr.Family.{Family}
use Rattle.net_base.specs.declared.addr.Family.TheVariants.{V4, V6}
use Rattle.net_base.specs.declared.prefix.Prefix.{Prefix}
use Rattle.bgp_wire.specs.declared.open.Encoding.{Encoding}
use Rattle.bgp_wire.specs.Message.{Message, message_bytes}
use Rattle.attr_model.specs.declared.attrs.Attrs.{Attrs}
use Rattle.attr_model.specs.Valid.{IsValid}
use Rattle.attr_codec.specs.Prefixes.{IsOf, prefixes_bytes}
use Rattle.attr_codec.specs.Written.{row_bytes, attrs_bytes, unreach_row}
use Rattle.attr_codec.specs.Width.{HaveWidth}
use Rattle.attr_codec.specs.ReadBack.{reach_bytes}
use Rattle.attr_codec.specs.Size.{attribute_size, update_size}
use Rattle.update_codec.specs.declared.update.Update.{Update}
use Rattle.update_codec.specs.declared.out_update.OutUpdate.{OutUpdate}
use Rattle.update_codec.specs.declared.out_update.OutUpdate.TheVariants.{Withdraw, Announce}

-- the family of prefixes, told by the first
abbrev pub family_of : List Prefix → Family
family_of [] = V4
family_of (first ∷ others) = first.family

-- a field behind its length of two bytes
abbrev pub sized : List ℕ → List ℕ
sized field = big_bytes 2 (length field) ++ field

abbrev pub withdraw_body : Family → List Prefix → List ℕ
withdraw_body V4 prefixes = sized (prefixes_bytes prefixes) ++ (0 ∷ 0 ∷ [])
withdraw_body V6 prefixes = (0 ∷ 0 ∷ []) ++ sized (row_bytes (unreach_row prefixes))

abbrev pub announce_body : Encoding → Attrs → Family → List Prefix → List ℕ
announce_body enc attrs V4 prefixes = (0 ∷ 0 ∷ []) ++ (sized (attrs_bytes enc attrs) ++ prefixes_bytes prefixes)
announce_body enc attrs V6 prefixes = (0 ∷ 0 ∷ []) ++ sized (reach_bytes enc attrs prefixes)

-- The family of what is announced is that of the hop.
abbrev pub update_body : Encoding → OutUpdate → List ℕ
update_body enc (Withdraw prefixes) = withdraw_body (family_of prefixes) prefixes
update_body enc (Announce attrs prefixes) = announce_body enc attrs attrs.hop.family prefixes

unfoldable pub update_message : Encoding → OutUpdate → Message
update_message enc update = record { kind = 2; body = update_body enc update }

-- How many bytes the message has.
abbrev pub withdraw_size : Family → ℕ → ℕ
withdraw_size V4 nlri = 23 + nlri
withdraw_size V6 nlri = 23 + attribute_size (3 + nlri)

abbrev pub message_size : Encoding → OutUpdate → ℕ
message_size enc (Withdraw prefixes) = withdraw_size (family_of prefixes) (length (prefixes_bytes prefixes))
message_size enc (Announce attrs prefixes) = update_size enc attrs (length (prefixes_bytes prefixes))

-- What the peer reads from it.
abbrev pub read_by_peer : OutUpdate → Update
read_by_peer (Withdraw prefixes) = record { withdrawn = prefixes; announced = [] }
read_by_peer (Announce attrs prefixes) = record { withdrawn = []; announced = (attrs, prefixes) ∷ [] }

-- Prefixes of one family that is agreed, at least one.
abbrev pub is_agreed : Encoding → Family → Bool
is_agreed enc V4 = enc.v4
is_agreed enc V6 = enc.v6

pub record ArePrefixes (enc : Encoding) (family : Family) (prefixes : List Prefix) : Type 0 where
  pub some : prefixes ≢ []
  pub each : AllByRecursion (IsOf family) prefixes
  pub agreed : IsTrue (is_agreed enc family)

-- Attributes that may be sent with them: a weight is this speaker's own, and LOCAL_PREF is for internal peers.
pub record MayBeSent (enc : Encoding) (attrs : Attrs) : Type 0 where
  pub valid : IsValid attrs
  pub weight : attrs.weight ≡ 0
  pub local_pref : is_some attrs.local_pref ≡ not enc.external

abbrev pub IsWritable : Encoding → OutUpdate → Type 0
IsWritable enc (Withdraw prefixes) = ArePrefixes enc (family_of prefixes) prefixes
IsWritable enc (Announce attrs prefixes) = ArePrefixes enc attrs.hop.family prefixes × MayBeSent enc attrs

-- The whole message has at most 4096 bytes (RFC 4271 section 4).
abbrev pub Fits : Encoding → OutUpdate → Type 0
Fits enc update = length (message_bytes (update_message enc update)) ≤ 4096

-- the same by its size
abbrev pub FitsSize : Encoding → OutUpdate → Type 0
FitsSize enc update = message_size enc update ≤ 4096

-- each number of what is announced has its width
abbrev pub HasWidth : OutUpdate → Type 0
HasWidth (Withdraw prefixes) = ⊤
HasWidth (Announce attrs prefixes) = HaveWidth attrs
