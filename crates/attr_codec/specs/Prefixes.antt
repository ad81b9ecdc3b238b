-- Prefixes and next hops as bytes (RFC 4271 section 4.3, RFC 4760 sections 3 and 5, RFC 2545 section 3).
use Rattle.std.specs.Prelude.{◌≡◌, ℕ, ◌+◌, ◌/◌, nat_lt, if◌then◌else◌, List, [], ◌∷◌, ◌++◌, take, flat_map, Option, Some, None}
use Rattle.byteorder.specs.Endian.{big_number, big_bytes}
use Rattle.wire_buf.specs.Field.{◌>>=◌, number_at, bytes_at}
use Rattle.net_base.specs.declared.addr.Family.{Family}
use Rattle.net_base.specs.declared.addr.Family.TheVariants.{V4, V6}
use Rattle.net_base.specs.declared.addr.Addr.{Addr}
use Rattle.net_base.specs.declared.prefix.Prefix.{Prefix}
use Rattle.net_base.specs.Width.{width_of}
use Rattle.net_base.specs.Bits.{addr_of, prefix_of}
use Rattle.attr_codec.specs.Cut.{all_items}

-- how many octets an address has
abbrev pub octet_count : Family → ℕ
octet_count V4 = 4
octet_count V6 = 16

-- The address that begins with these octets. Those that lack are zero.
abbrev pub addr_with : Family → List ℕ → Addr
addr_with family octets = addr_of family (big_number (octet_count family) octets)

-- The prefix in front and the bytes behind it: its length in bits, then the octets that hold them. None where it is longer
-- than the width of its family or passes the end. The bits behind its length don't count.
unfoldable pub prefix_at : Family → List ℕ → Option (Prefix × List ℕ)
prefix_at family bytes = do
  len ← number_at 1 bytes
  size ← (if nat_lt (width_of family) len.0 then None else Some ((len.0 + 7) / 8))
  octets ← bytes_at size len.1
  Some (prefix_of (addr_with family octets.0) len.0, octets.1)

-- The prefixes that a field is, or None where one of them isn't whole.
abbrev pub prefixes_of : Family → List ℕ → Option (List Prefix)
prefixes_of family bytes = all_items (prefix_at family) bytes

-- A prefix as bytes: its length in bits, then the octets that hold them.
abbrev pub addr_bytes : Family → ℕ → List ℕ
addr_bytes family bits = big_bytes (octet_count family) bits

abbrev pub prefix_bytes : Prefix → List ℕ
prefix_bytes prefix = (prefix.len ∷ []) ++ take ((prefix.len + 7) / 8) (addr_bytes prefix.family prefix.bits)

abbrev pub prefixes_bytes : List Prefix → List ℕ
prefixes_bytes prefixes = flat_map prefix_bytes prefixes

abbrev pub IsOf : Family → Prefix → Type 0
IsOf family prefix = prefix.family ≡ family
