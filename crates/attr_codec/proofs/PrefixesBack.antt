-- A prefix that was written is read again: the octets that aren't written are zero.
use Rattle.std.proofs.Common.{◌≡◌, ◌∙◌, ℕ, zero, suc, ◌+◌, ◌*◌, ◌-◌, ◌/◌, ◌%◌, ◌^◌, ◌<◌, ◌≤◌, min, false, List, [], ◌++◌, length, take, Some, refl, ap, sym, arith, length-take}
use Rattle.std.specs.Prelude.{nat_lt}
use Rattle.std.specs.List.{AllByRecursion}
use Rattle.std.proofs.lemmas.Bool.Decides.{nat_tests}
use Rattle.std.proofs.lemmas.Nat.{mod-pow-add}
use Rattle.std.proofs.Math.Nat.{mod-eq_of_lt}
use Rattle.std.specs.Int.{byte_at, bytes_high_first}
use Rattle.byteorder.specs.Endian.{big_from, big_number}
use Rattle.byteorder.specs.Numbers.{big_from-cons, big_from-bytes, length-bytes_high_first}
use Rattle.byteorder.proofs.Bytes.{pow256}
use Rattle.wire_buf.specs.Written.{bytes_at-written}
use Rattle.net_base.specs.declared.addr.Family.{Family}
use Rattle.net_base.specs.declared.addr.Family.TheVariants.{V4, V6}
use Rattle.net_base.specs.declared.prefix.Prefix.{Prefix}
use Rattle.net_base.specs.Width.{width_of}
use Rattle.net_base.specs.Bits.{host_len, without_low, prefix_of}
use Rattle.net_base.proofs.Equal.{same_prefix}
use Rattle.attr_codec.specs.Prefixes.{octet_count, addr_with, prefix_at, prefixes_of, addr_bytes, prefix_bytes, prefixes_bytes}
use Rattle.attr_codec.proofs.Fields.{prefix_takes}
use Rattle.attr_codec.proofs.ItemsBack.{byte_there, all_written, map_id}

nothing_from : (i n : ℕ) → big_from i n [] ≡ 0
nothing_from i zero = refl
nothing_from i (suc n) = ap (λ x. 0 * 256 ^ n + x) (nothing_from (suc i) n) ∙ omega arith

-- the first k of n octets are the number, where its bits behind them are zero
front_number : (n k x : ℕ) → k ≤ n → x % 256 ^ (n - k) ≡ 0 → big_from 0 n (take k (bytes_high_first n x)) ≡ x % 256 ^ n
front_number zero k x h z = omega arith
front_number (suc n) zero x h z =
    let all : suc n - 0 ≡ suc n = omega arith in
    nothing_from 0 (suc n) ∙ sym z ∙ ap (λ m. x % 256 ^ m) all
front_number (suc n) (suc k) x h z =
    let less : x % 256 ^ (n - k) ≡ 0 = ap (λ m. x % 256 ^ m) (omega arith) ∙ z in
    let rest = front_number n k x (omega arith) less in
    let whole = big_from-bytes (suc n) x [] in
    let low = big_from-cons 0 n (byte_at n x) (bytes_high_first n x ++ []) ∙ big_from-bytes n x [] in
    ap (λ y. byte_at n x * 256 ^ n + y) (big_from-cons 0 n (byte_at n x) (take k (bytes_high_first n x)) ∙ rest ∙ sym low) ∙ whole

-- fewer low bits are zero too
low_zero : (x a b : ℕ) → b ≤ a → x % 2 ^ a ≡ 0 → x % 2 ^ b ≡ 0
low_zero x a b h z =
    let sum : (a - b) + b ≡ a = omega arith in
    let all : x % 2 ^ ((a - b) + b) ≡ 0 = ap (λ n. x % 2 ^ n) sum ∙ z in
    omega (arith, mod-pow-add x (a - b) b)

pub width_is : (family : Family) → width_of family ≡ 8 * octet_count family
width_is V4 = refl
width_is V6 = refl

pub octets_back : (family : Family) (len bits : ℕ) → len ≤ width_of family → bits < 2 ^ width_of family → bits % 2 ^ (width_of family - len) ≡ 0
    → big_number (octet_count family) (take ((len + 7) / 8) (addr_bytes family bits)) ≡ bits
octets_back family len bits within fits z =
    let w = width_is family in
    let k : ℕ = (len + 7) / 8 in
    let few : k ≤ octet_count family = omega arith in
    let zeros : bits % 2 ^ (8 * (octet_count family - k)) ≡ 0 = low_zero bits (width_of family - len) (8 * (octet_count family - k)) (omega arith) z in
    let behind : bits % 256 ^ (octet_count family - k) ≡ 0 = ap (λ m. bits % m) (pow256 (octet_count family - k)) ∙ zeros in
    let most : 256 ^ octet_count family ≡ 2 ^ width_of family = pow256 (octet_count family) ∙ ap (λ n. 2 ^ n) (sym w) in
    front_number (octet_count family) k bits few behind ∙ ap (λ m. bits % m) most ∙ mod-eq_of_lt fits

pub read_back : (p : Prefix) → prefix_of (addr_with p.family (take ((p.len + 7) / 8) (addr_bytes p.family p.bits))) p.len ≡ p
read_back p =
    let octets = octets_back p.family p.len p.bits p.within p.in_family p.host_bits_zero in
    let bits : big_number (octet_count p.family) (take ((p.len + 7) / 8) (addr_bytes p.family p.bits)) % 2 ^ width_of p.family ≡ p.bits = ap (λ b. b % 2 ^ width_of p.family) octets ∙ mod-eq_of_lt p.in_family in
    let kept : min p.len (width_of p.family) ≡ p.len = let w = p.within in omega arith in
    let low : without_low (host_len p.family p.len) p.bits ≡ p.bits = let z = p.host_bits_zero in omega arith in
    same_prefix (prefix_of (addr_with p.family (take ((p.len + 7) / 8) (addr_bytes p.family p.bits))) p.len) p refl
    (ap (λ b. without_low (host_len p.family (min p.len (width_of p.family))) b) bits ∙ ap (λ n. without_low (host_len p.family n) p.bits) kept ∙ low) kept

prefix_there : (p : Prefix) (rest : List ℕ) → prefix_at p.family (prefix_bytes p ++ rest) ≡ Some (p, rest)
unfolding prefix_at
prefix_there p rest =
    let size : nat_lt (width_of p.family) p.len ≡ false = let w = p.within in grind (arith, nat_tests) in
    let octets : List ℕ = take ((p.len + 7) / 8) (addr_bytes p.family p.bits) in
    let all : length (addr_bytes p.family p.bits) ≡ octet_count p.family = length-bytes_high_first (octet_count p.family) p.bits in
    let w = width_is p.family in
    let within = p.within in
    let long : length octets ≡ (p.len + 7) / 8 = omega (arith, length-take ((p.len + 7) / 8) (addr_bytes p.family p.bits)) in
    rw (byte_there p.len (octets ++ rest), size, bytes_at-written ((p.len + 7) / 8) octets rest long, read_back p) refl

pub prefix_back : (family : Family) (p : Prefix) (rest : List ℕ) → p.family ≡ family → prefix_at family (prefix_bytes p ++ rest) ≡ Some (p, rest)
prefix_back family p rest e = ap (λ f. prefix_at f (prefix_bytes p ++ rest)) (sym e) ∙ prefix_there p rest

pub prefixes_back : (family : Family) (ps : List Prefix) → AllByRecursion (λ p. p.family ≡ family) ps → prefixes_of family (prefixes_bytes ps) ≡ Some ps
prefixes_back family ps of =
    all_written (prefix_at family) (prefix_takes family) prefix_bytes (λ p. p) (λ p. p.family ≡ family) (prefix_back family) ps of ∙ ap Some (map_id ps)
