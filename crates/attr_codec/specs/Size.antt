-- How many bytes the attributes of a route have, and the UPDATE that announces it (RFC 4271 sections 4.1 and 4.3).
use Rattle.std.specs.Prelude.{ℕ, ◌+◌, ◌-◌, ◌^◌, min, nat_lt, if◌then◌else◌, length}
use Rattle.net_base.specs.declared.addr.Family.{Family}
use Rattle.net_base.specs.declared.addr.Family.TheVariants.{V4, V6}
use Rattle.bgp_wire.specs.declared.open.Encoding.{Encoding}
use Rattle.attr_model.specs.declared.attrs.Attrs.{Attrs}
use Rattle.attr_codec.specs.Written.{attrs_bytes}

-- An attribute with a value of n bytes: its header has 3 bytes, or 4 past 255.
abbrev pub attribute_size : ℕ → ℕ
attribute_size n = if nat_lt 255 n then 4 + n else 3 + n

-- Prefixes of n bytes stand in the plain field, or in MP_REACH_NLRI behind 21 bytes for the family and the hop.
abbrev pub nlri_size : Family → ℕ → ℕ
nlri_size V4 n = n
nlri_size V6 n = attribute_size (21 + n)

-- The UPDATE that announces prefixes of a family with attributes of so many bytes. The header of the message has 19 bytes, and the
-- two lengths have 2 each.
abbrev pub announced_size : Family → ℕ → ℕ → ℕ
announced_size family attributes nlri = 23 + (attributes + nlri_size family nlri)

abbrev pub update_size : Encoding → Attrs → ℕ → ℕ
update_size enc attrs nlri = announced_size attrs.hop.family (length (attrs_bytes enc attrs)) nlri

-- The same as an answer, which is at most the greatest usize.
abbrev pub capped : ℕ → ℕ
capped n = min n (2 ^ 64 - 1)
