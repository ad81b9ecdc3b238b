-- The texts that spell an address (RFC 4291 section 2.2), and the one that is printed (RFC 5952).
use Rattle.std.specs.Prelude.{◌≡◌, ℕ, ◌+◌, ◌-◌, ◌<◌, ◌⊎◌, Bool, false, List, ◌++◌, length, replicate, codes, Option, None, option_map, ◌==◌, if◌then◌else◌}
use Rattle.std.specs.List.{list_any}
use Rattle.std.specs.Option.{option_or}
use Rattle.std.specs.Int.{w32, w128, from_be_bytes}
use Rattle.std.specs.declared.net.ipv4_addr.Ipv4Addr.{Ipv4Addr}
use Rattle.std.specs.declared.net.ipv6_addr.Ipv6Addr.{Ipv6Addr}
use Rattle.std.specs.Net.Addr.{octets_of, ipv4_octets, ipv6_segments}
use Rattle.std.specs.Net.Grammar.{IsDotted, IsGroups}
use Rattle.std.specs.Net.Reader.{read_ipv4, read_ipv6, whole_value}
use Rattle.std.specs.Net.Text.{ipv4_text, hex_groups_text}
use Rattle.net_base.specs.declared.addr.Family.{Family}
use Rattle.net_base.specs.declared.addr.Family.TheVariants.{V4, V6}
use Rattle.net_base.specs.declared.addr.Addr.{Addr}
use Rattle.net_base.specs.Bits.{octets_of_bits, groups_of_bits, addr_of}

-- groups on each side of `::`, which stands for at least one zero group
pub record IsElided (text groups : List ℕ) : Type 0 where
  pub head_text : List ℕ
  pub tail_text : List ℕ
  pub head : List ℕ
  pub tail : List ℕ
  pub spelled : text ≡ head_text ++ codes "::" ++ tail_text
  pub head_groups : IsGroups false head_text head
  pub tail_groups : IsGroups false tail_text tail
  pub room : length head + length tail < 8
  pub value : groups ≡ head ++ replicate (8 - length head - length tail) 0 ++ tail

-- all eight groups, or some with `::`; no dotted part and no zone
abbrev pub IsColonHex : List ℕ → List ℕ → Type 0
IsColonHex text groups = (IsGroups false text groups × (length groups ≡ 8)) ⊎ IsElided text groups

-- the text spells the address of this family with these bits
unfoldable pub SpellsBits : Family → ℕ → List ℕ → Type 0
SpellsBits V4 bits text = IsDotted text (octets_of_bits bits)
SpellsBits V6 bits text = IsColonHex text (groups_of_bits bits)

-- the text spells this address
abbrev pub IsAddrText : List ℕ → Addr → Type 0
IsAddrText text a = SpellsBits a.family a.bits text

-- the text that is printed of an address of this family with these bits
unfoldable pub bits_text : Family → ℕ → List ℕ
bits_text V4 bits = ipv4_text (octets_of_bits bits)
bits_text V6 bits = hex_groups_text (groups_of_bits bits)

-- the text that is printed of an address
abbrev pub addr_text : Addr → List ℕ
addr_text a = bits_text a.family a.bits

-- ---- the same address as a type of std

abbrev pub IsSameV4 : Addr → Ipv4Addr → Type 0
IsSameV4 a ip = (a.family ≡ V4) × (octets_of_bits a.bits ≡ ipv4_octets ip)

abbrev pub IsSameV6 : Addr → Ipv6Addr → Type 0
IsSameV6 a ip = (a.family ≡ V6) × (groups_of_bits a.bits ≡ ipv6_segments ip)

-- ---- a reader of these texts: what `IsAddrText` finds, computed

-- the byte stands somewhere in the text
abbrev pub has_byte : ℕ → List ℕ → Bool
has_byte byte text = list_any (λ c. c == byte) text

abbrev pub read_v4 : List ℕ → Option Addr
read_v4 text = option_map (λ octets. addr_of V4 (from_be_bytes w32 octets)) (whole_value (read_ipv4 text))

abbrev pub read_v6 : List ℕ → Option Addr
read_v6 text = option_map (λ groups. addr_of V6 (from_be_bytes w128 (octets_of groups))) (whole_value (read_ipv6 text))

-- the address that the text spells, if it spells one
unfoldable pub read_addr : List ℕ → Option Addr
read_addr text = option_or (read_v4 text) (if has_byte 46 text then None else read_v6 text)

-- the text spells this value and no other
abbrev pub SpellsOnly : {A : Type 0} → (List ℕ → A → Type 0) → List ℕ → A → Type 0
SpellsOnly {A} Spells text a = Spells text a × ((b : A) → Spells text b → b ≡ a)
