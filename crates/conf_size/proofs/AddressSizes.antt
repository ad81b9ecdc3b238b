-- The text of a number, of an address and of a prefix has no more bytes than the greatest of its kind.
use Rattle.std.proofs.Common.{◌≡◌, ℕ, ◌+◌, ◌-◌, ◌*◌, ◌<◌, ◌≤◌, List, [], ◌∷◌, ◌++◌, length, get_or, take, drop, flat_map, codes, decimal, Bool, true, false, refl, arith, length-append, ltb-true}
use Rattle.std.specs.Prelude.{nat_lt, if◌then◌else◌}
use Rattle.std.specs.Net.Text.{ipv4_text, hex, groups_text, longest_zero_run, compressed_text, hex_groups_text}
use Rattle.std.proofs.lemmas.Fmt.{length-decimal-le}
use Rattle.std.proofs.lemmas.List.{length-drop, length-take}
use Rattle.std.proofs.NetLemmas.Texts.{IsZeroRun-longest_zero_run}
use Rattle.net_base.specs.declared.addr.Family.{Family}
use Rattle.net_base.specs.declared.addr.Family.TheVariants.{V4, V6}
use Rattle.net_base.specs.declared.addr.Addr.{Addr}
use Rattle.net_base.specs.declared.prefix.Prefix.{Prefix}
use Rattle.net_base.specs.Addr.{bits_text, addr_text}
use Rattle.net_base.specs.Bits.{octets_of_bits, groups_of_bits}
use Rattle.net_base.specs.Prefix.{prefix_text}
use Rattle.net_base.specs.Width.{width_of}
use Rattle.net_base.proofs.Bits.{octets_of_bits-small, groups_of_bits-small}
use Rattle.conf_size.proofs.ListSizes.{all_size}

-- ---- numbers

pub three_digits : (n : ℕ) → n ≤ 999 → length (decimal n) ≤ 3
three_digits n h = length-decimal-le 3 n (omega arith) (omega arith) (omega arith)

pub four_digits : (n : ℕ) → n ≤ 9999 → length (decimal n) ≤ 4
four_digits n h = length-decimal-le 4 n (omega arith) (omega arith) (omega arith)

pub five_digits : (n : ℕ) → n ≤ 65535 → length (decimal n) ≤ 5
five_digits n h = length-decimal-le 5 n (omega arith) (omega arith) (omega arith)

pub ten_digits : (n : ℕ) → n ≤ 4294967295 → length (decimal n) ≤ 10
ten_digits n h = length-decimal-le 10 n (omega arith) (omega arith) (omega arith)

-- ---- addresses

ipv4_size : (octets : List ℕ) → ((i : ℕ) → get_or octets i 0 < 256) → length (ipv4_text octets) ≤ 15
ipv4_size octets small =
    let digits : (i : ℕ) → length (decimal (get_or octets i 0)) ≤ 3 = λ i. three_digits (get_or octets i 0) (omega (arith, small i)) in
    omega (arith, digits 0, digits 1, digits 2, digits 3, length-append {A = ℕ})

hex_size : (n : ℕ) → length (hex n) ≤ 4
unfolding hex
hex_size n = omega (arith, length-drop {A = ℕ})

-- there is one colon less than there are groups
groups_size : (groups : List ℕ) → length (groups_text groups) ≤ 5 * length groups - 1
groups_size [] = omega arith
groups_size (g ∷ groups) =
    let behind : ℕ → List ℕ = λ t. codes ":" ++ hex t in
    omega (arith, all_size behind 5 groups (λ t. omega (arith, hex_size t)), hex_size g, length-append (hex g) (flat_map behind groups))

compressed_size : (groups : List ℕ) (run : ℕ × ℕ) → length groups ≡ 8 → run.0 + run.1 ≤ 8 → length (compressed_text groups run) ≤ 39
compressed_size groups run eight room = by (nat_lt 1 run.1) refl
  where
    front : List ℕ
    front = take run.0 groups

    back : List ℕ
    back = drop (run.0 + run.1) groups

    by : (b : Bool) → nat_lt 1 run.1 ≡ b → length (if b then groups_text front ++ codes "::" ++ groups_text back else groups_text groups) ≤ 39
    by true long =
        let two : 1 < run.1 = ltb-true 1 run.1 long in
        omega (arith, groups_size front, groups_size back, length-take run.0 groups, length-drop (run.0 + run.1) groups, length-append (groups_text front ++ codes "::") (groups_text back), length-append (groups_text front) (codes "::"))
    by false short = omega (arith, groups_size groups)

hex_groups_size : (groups : List ℕ) → length groups ≡ 8 → length (hex_groups_text groups) ≤ 39
unfolding hex_groups_text
hex_groups_size groups eight = compressed_size groups (longest_zero_run groups) eight (omega (arith, (IsZeroRun-longest_zero_run groups).0))

bits_size : (family : Family) (bits : ℕ) → length (bits_text family bits) ≤ 39
unfolding bits_text
bits_size V4 bits = omega (arith, ipv4_size (octets_of_bits bits) (octets_of_bits-small bits).1)
bits_size V6 bits = hex_groups_size (groups_of_bits bits) (groups_of_bits-small bits).0

-- the router-id
pub v4_size : (bits : ℕ) → length (bits_text V4 bits) ≤ 15
unfolding bits_text
v4_size bits = ipv4_size (octets_of_bits bits) (octets_of_bits-small bits).1

pub addr_size : (a : Addr) → length (addr_text a) ≤ 39
addr_size a = bits_size a.family a.bits

-- ---- prefixes

pub width_most : (family : Family) → width_of family ≤ 128
width_most V4 = omega arith
width_most V6 = omega arith

pub prefix_size : (p : Prefix) → length (prefix_text p) ≤ 43
unfolding prefix_text
prefix_size p = omega (arith, bits_size p.family p.bits, three_digits p.len (omega (arith, p.within, width_most p.family)), length-append {A = ℕ})
