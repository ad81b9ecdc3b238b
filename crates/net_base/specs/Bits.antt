-- The bits of an address, and those that a prefix keeps.
use Rattle.std.specs.Prelude.{◌≡◌, ℕ, ◌+◌, ◌-◌, ◌*◌, ◌/◌, ◌%◌, ◌^◌, ◌<◌, ◌≤◌, min, List}
use Rattle.std.proofs.Common.{arith}
use Rattle.std.proofs.lemmas.Nat.{pow_pos, div-add-mod', mod-mul-add}
use Rattle.std.proofs.Math.Nat.{mod-le, mod-lt}
use Rattle.std.specs.Int.{w32, w128, to_be_bytes}
use Rattle.std.specs.Net.Addr.{segments_of}
use Rattle.net_base.specs.declared.addr.Family.{Family}
use Rattle.net_base.specs.declared.addr.Addr.{Addr}
use Rattle.net_base.specs.declared.prefix.Prefix.{Prefix}
use Rattle.net_base.specs.Width.{width_of}

-- the four octets of an IPv4 address, in network order
unfoldable pub octets_of_bits : ℕ → List ℕ
octets_of_bits bits = to_be_bytes w32 bits

-- the eight groups of 16 bits of an IPv6 address, in network order
unfoldable pub groups_of_bits : ℕ → List ℕ
groups_of_bits bits = segments_of (to_be_bytes w128 bits)

-- the number with its low bits cleared
abbrev pub without_low : ℕ → ℕ → ℕ
without_low count bits = bits - bits % 2 ^ count

-- how many bits of an address stand behind the first `len`
abbrev pub host_len : Family → ℕ → ℕ
host_len family len = width_of family - len

-- the first `len` bits of an address, as a number
abbrev pub first_bits : Family → ℕ → ℕ → ℕ
first_bits family len bits = bits / 2 ^ host_len family len

pub without_low-lt : (bits count most : ℕ) → bits < most → without_low count bits < most
without_low-lt bits count most h = omega (arith, mod-le bits (2 ^ count))

pub without_low-mod : (bits count : ℕ) → without_low count bits % 2 ^ count ≡ 0
without_low-mod bits count =
    let whole : bits - bits % 2 ^ count ≡ bits / 2 ^ count * 2 ^ count + 0 = omega (arith, div-add-mod' bits (2 ^ count)) in
    rw whole (mod-mul-add (bits / 2 ^ count) (2 ^ count) 0 (pow_pos count))

pub min-le : (len most : ℕ) → min len most ≤ most
min-le len most = omega arith

-- the address of a family with these bits, of which those within the width count
abbrev pub addr_of : Family → ℕ → Addr
addr_of family bits = record {
  family = family;
  bits = bits % 2 ^ width_of family;
  in_family = mod-lt bits (pow_pos (width_of family));
}

-- the prefix of an address with this length, or with the full length where that is less
abbrev pub prefix_of : Addr → ℕ → Prefix
prefix_of addr len =
    let kept : ℕ = min len (width_of addr.family) in
    record {
      family = addr.family;
      bits = without_low (host_len addr.family kept) addr.bits;
      len = kept;
      in_family = without_low-lt addr.bits (host_len addr.family kept) (2 ^ width_of addr.family) addr.in_family;
      within = min-le len (width_of addr.family);
      host_bits_zero = without_low-mod addr.bits (host_len addr.family kept);
    }

-- the first address of a prefix
abbrev pub prefix_addr : Prefix → Addr
prefix_addr p = record { family = p.family; bits = p.bits; in_family = p.in_family }
