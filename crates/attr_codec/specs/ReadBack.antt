-- What a peer reads from the attributes that were sent to it.
use Rattle.std.specs.Prelude.{◌≡◌, ℕ, true, false, List, ◌++◌, Option, Some, None}
use Rattle.net_base.specs.declared.addr.Family.{Family}
use Rattle.net_base.specs.declared.addr.Family.TheVariants.{V4, V6}
use Rattle.net_base.specs.declared.addr.Addr.{Addr}
use Rattle.net_base.specs.declared.prefix.Prefix.{Prefix}
use Rattle.bgp_wire.specs.declared.open.Encoding.{Encoding}
use Rattle.attr_model.specs.declared.attrs.Attrs.{Attrs}
use Rattle.attr_model.specs.Valid.{IsValid}
use Rattle.attr_codec.specs.declared.outcome.ReadAttrs.{ReadAttrs}
use Rattle.attr_codec.specs.Written.{HaveShortValues, row_bytes, reach_row, attrs_bytes}
use Rattle.attr_codec.specs.Width.{HaveWidth}

-- Attributes that are read back as they were sent. Lost is a weight, and so is a LOCAL_PREF to an external peer, which has none.
pub record IsSent (enc : Encoding) (attrs : Attrs) : Type 0 where
  pub valid : IsValid attrs
  pub short : HaveShortValues enc attrs
  pub width : HaveWidth attrs
  pub weight : attrs.weight ≡ 0
  pub local_pref : enc.external ≡ true → attrs.local_pref ≡ None

-- the hop that stands in NEXT_HOP
abbrev pub next_hop_sent : Addr → Family → Option Addr
next_hop_sent hop V4 = Some hop
next_hop_sent hop V6 = None

-- The attributes, with what MP_REACH_NLRI announces.
abbrev pub sent : Attrs → Option (Family × Addr × List Prefix) → ReadAttrs
sent attrs reach = record { attrs = Some attrs; withdraw = false; next_hop = next_hop_sent attrs.hop attrs.hop.family; reach = reach; unreach = None }

-- A withdrawal of IPv6 prefixes has no attributes.
abbrev pub unsent : List Prefix → ReadAttrs
unsent prefixes = record { attrs = None; withdraw = false; next_hop = None; reach = None; unreach = Some (V6, prefixes) }

-- An empty field says nothing.
abbrev pub nothing_said : ReadAttrs
nothing_said = record { attrs = None; withdraw = false; next_hop = None; reach = None; unreach = None }

-- The attribute field with MP_REACH_NLRI in front.
abbrev pub reach_bytes : Encoding → Attrs → List Prefix → List ℕ
reach_bytes enc attrs prefixes = row_bytes (reach_row attrs.hop.bits prefixes) ++ attrs_bytes enc attrs
