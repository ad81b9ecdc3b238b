-- MP_REACH_NLRI and MP_UNREACH_NLRI (RFC 4760 sections 3, 4 and 7, RFC 2545 section 3).
use Rattle.std.specs.Prelude.{ℕ, Bool, ◌==◌, ◌||◌, ◌&&◌, if◌then◌else◌, List, length, Option, Some, None, is_some, option_map}
use Rattle.wire_buf.specs.Field.{◌>>=◌, number_at, bytes_at}
use Rattle.net_base.specs.declared.addr.Family.{Family}
use Rattle.net_base.specs.declared.addr.Family.TheVariants.{V4, V6}
use Rattle.net_base.specs.declared.addr.Addr.{Addr}
use Rattle.net_base.specs.declared.prefix.Prefix.{Prefix}
use Rattle.bgp_wire.specs.declared.open.Encoding.{Encoding}
use Rattle.attr_codec.specs.Prefixes.{addr_with, prefixes_of}

-- The family of an AFI and a SAFI, where it is agreed. Only unicast (SAFI 1) is.
abbrev pub agreed_family : Encoding → ℕ → ℕ → Option Family
agreed_family enc afi safi =
    if (safi == 1) && ((afi == 1) && enc.v4) then Some V4
    else if (safi == 1) && ((afi == 2) && enc.v6) then Some V6
    else None

-- The family, where it is agreed, the bytes of the hop and those of the prefixes. None where the fixed part, which is all before the
-- prefixes, passes the end.
unfoldable pub reach_parts : Encoding → List ℕ → Option (Option Family × List ℕ × List ℕ)
reach_parts enc value = do
  afi ← number_at 2 value
  safi ← number_at 1 afi.1
  size ← number_at 1 safi.1
  hop ← bytes_at size.0 size.1
  reserved ← number_at 1 hop.1
  Some (agreed_family enc afi.0 safi.0, hop.0, reserved.1)

unfoldable pub unreach_parts : Encoding → List ℕ → Option (Option Family × List ℕ)
unreach_parts enc value = do
  afi ← number_at 2 value
  safi ← number_at 1 afi.1
  Some (agreed_family enc afi.0 safi.0, safi.1)

-- A hop is one address, or two of IPv6, of which the first counts.
abbrev pub fits_hop : Family → ℕ → Bool
fits_hop V4 size = size == 4
fits_hop V6 size = (size == 16) || (size == 32)

-- The NOTIFICATION of prefixes: 10 where they aren't whole.
abbrev pub prefixes_fault : Family → List ℕ → Option ℕ
prefixes_fault family nlri = if is_some (prefixes_of family nlri) then None else Some 10

-- The NOTIFICATION of an attribute, by its sub code: 1 where the fixed part or the hop has a wrong length. Of a family that isn't
-- agreed nothing else is looked at.
abbrev pub reach_judged : Option (Option Family × List ℕ × List ℕ) → Option ℕ
reach_judged None = Some 1
reach_judged (Some (None, hop, nlri)) = None
reach_judged (Some (Some family, hop, nlri)) = if fits_hop family (length hop) then prefixes_fault family nlri else Some 1

abbrev pub unreach_judged : Option (Option Family × List ℕ) → Option ℕ
unreach_judged None = Some 1
unreach_judged (Some (None, nlri)) = None
unreach_judged (Some (Some family, nlri)) = prefixes_fault family nlri

-- What is announced, and what is withdrawn.
abbrev pub reached : Option (Option Family × List ℕ × List ℕ) → Option (Family × Addr × List Prefix)
reached None = None
reached (Some (None, hop, nlri)) = None
reached (Some (Some family, hop, nlri)) = option_map (λ prefixes. (family, addr_with family hop, prefixes)) (prefixes_of family nlri)

abbrev pub unreached : Option (Option Family × List ℕ) → Option (Family × List Prefix)
unreached None = None
unreached (Some (None, nlri)) = None
unreached (Some (Some family, nlri)) = option_map (λ prefixes. (family, prefixes)) (prefixes_of family nlri)
