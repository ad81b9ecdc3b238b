-- Printed addresses, prefixes, lengths, names and quoted texts are read back.
use Rattle.std.proofs.Common.{◌≡◌, ℕ, ◌^◌, ◌<◌, ◌≤◌, Bool, true, false, List, ◌∷◌, length, codes, decimal, Option, None, Ok, option_and_then, refl, ap, lit≤, bytes_eq, arith}
use Rattle.std.specs.Prelude.{nat_le}
use Rattle.std.specs.Net.Reader.{read_ipv4, read_octet, read_number, read_ipv6, read_segments, read_segment}
use Rattle.std.proofs.lemmas.Bool.Decides.{nat_tests}
use Rattle.net_base.specs.declared.addr.Family.{Family}
use Rattle.net_base.specs.declared.addr.Family.TheVariants.{V4, V6}
use Rattle.net_base.specs.declared.addr.Addr.{Addr}
use Rattle.net_base.specs.declared.prefix.Prefix.{Prefix}
use Rattle.net_base.specs.Width.{width_of}
use Rattle.net_base.specs.Addr.{bits_text, addr_text, read_addr}
use Rattle.net_base.specs.Prefix.{prefix_text}
use Rattle.conf_tree.specs.declared.token.Token.{Token}
use Rattle.conf_tree.specs.declared.token.TokenKind.TheVariants.{Word, Quoted}
use Rattle.conf_tree.specs.declared.sets.PrefixRange.{PrefixRange}
use Rattle.conf_tree.specs.Reading.{text_of, word_is, mark_is}
use Rattle.conf_tree.specs.Values.{spelled, address_of, address_at, if_v4, v4_at, prefix_of_word, prefix_at, bound_at, word_passes, prefixlen_at, bounds_at, lengths_at, name_at, group_name_at, quoted_at, most_name_bytes, most_quoted_bytes, yes_no_at}
use Rattle.conf_tree.specs.Canonical.{yes_no}
use Rattle.conf_tree.specs.Readable.{IsName, IsGroupName, IsQuotedText, IsWithin, IsRange}
use Rattle.conf_round.proofs.Words.{addr_read_back, prefix_read_back}
use Rattle.conf_round.proofs.ReadValues.{token, number_back, not_joined, decimal_lacks, differs}

-- ---- addresses and prefixes

pub address_back : (a : Addr) (line start end : ℕ) (rest : List Token) → address_at (token Word line start end (addr_text a) ∷ rest) ≡ Ok (a, rest)
unfolding address_at address_of text_of
address_back a line start end rest = ap (spelled (token Word line start end (addr_text a) ∷ rest)) (addr_read_back a)

pub v4_back : (bits line start end : ℕ) (rest : List Token) → bits < 2 ^ 32 → v4_at (token Word line start end (bits_text V4 bits) ∷ rest) ≡ Ok (bits, rest)
unfolding v4_at address_of text_of
v4_back bits line start end rest h =
    let a : Addr = record { family = V4; bits = bits; in_family = h } in
    ap (λ (found : Option Addr). spelled (token Word line start end (bits_text V4 bits) ∷ rest) (option_and_then (λ address. if_v4 address.family address.bits) found)) (addr_read_back a)

pub prefix_back : (p : Prefix) (line start end : ℕ) (rest : List Token) → prefix_at (token Word line start end (prefix_text p) ∷ rest) ≡ Ok (p, rest)
unfolding prefix_at prefix_of_word text_of
prefix_back p line start end rest = ap (spelled (token Word line start end (prefix_text p) ∷ rest)) (prefix_read_back p)

-- ---- lengths

width_small : (family : Family) → width_of family < 2 ^ 64
width_small V4 = omega arith
width_small V6 = omega arith

small_length : (p : Prefix) (n : ℕ) → IsWithin p.len (width_of p.family) n → n < 2 ^ 64
small_length p n w = omega (arith, w.most, width_small p.family)

bound_back : (p : Prefix) (n line start end : ℕ) (rest : List Token) → IsWithin p.len (width_of p.family) n → bound_at p (token Word line start end (decimal n) ∷ rest) ≡ Ok (n, rest)
unfolding bound_at
bound_back p n line start end rest w = number_back p.len (width_of p.family) n line start end rest w (width_small p.family)

-- `prefixlen N - M` behind a prefix
pub lengths_back : (r : PrefixRange) (line a b c d e f g h : ℕ) (rest : List Token) → IsRange r
    → lengths_at r.prefix (token Word line a b (codes "prefixlen") ∷ token Word line c d (decimal r.low) ∷ token Word line e f (codes "-") ∷ token Word line g h (decimal r.high) ∷ rest) ≡ Ok (r, rest)
unfolding lengths_at prefixlen_at bounds_at word_is mark_is text_of word_passes
lengths_back r line a b c d e f g h rest w =
    rw (not_joined 45 (decimal r.low) (decimal_lacks 45 r.low (small_length r.prefix r.low w.0) (lit≤ tt)))
    (rw (bound_back r.prefix r.low line c d (token Word line e f (codes "-") ∷ token Word line g h (decimal r.high) ∷ rest) w.0)
    (rw (bound_back r.prefix r.high line g h rest w.1) refl))

-- ---- names and quoted texts

short : (n most : ℕ) → n ≤ most → nat_le n most ≡ true
short n most h = grind (arith, nat_tests)

pub name_back : (name : List ℕ) (line start end : ℕ) (rest : List Token) → IsName name → name_at (token Word line start end name ∷ rest) ≡ Ok (name, rest)
unfolding name_at text_of
name_back name line start end rest h = rw (h.form, short (length name) most_name_bytes h.short) refl

pub group_name_back : (name : List ℕ) (line start end : ℕ) (rest : List Token) → IsGroupName name → group_name_at (token Quoted line start end name ∷ rest) ≡ Ok (name, rest)
unfolding group_name_at text_of
group_name_back name line start end rest h = rw (h.form, short (length name) most_name_bytes h.short) refl

pub quoted_back : (text : List ℕ) (line start end : ℕ) (rest : List Token) → IsQuotedText text → quoted_at (token Quoted line start end text ∷ rest) ≡ Ok (text, rest)
unfolding quoted_at text_of
quoted_back text line start end rest h = rw (short (length text) most_quoted_bytes h.short) refl

pub yes_no_back : (flag : Bool) (line start end : ℕ) (rest : List Token) → yes_no_at (token Word line start end (yes_no flag) ∷ rest) ≡ Ok (flag, rest)
unfolding yes_no_at word_is text_of
yes_no_back true line start end rest = refl
yes_no_back false line start end rest = refl

-- an address is none of these words
other_read : (name : List ℕ) (a : Addr) → read_addr name ≡ None → name ≡ addr_text a → ⊥
other_read name a none same = let found = ap read_addr same in let back = addr_read_back a in cc

pub addr_unlike : (name : List ℕ) (a : Addr) → read_addr name ≡ None → bytes_eq name (addr_text a) ≡ false
addr_unlike name a none = differs name (addr_text a) (other_read name a none)

pub no_blackhole : read_addr (codes "blackhole") ≡ None
unfolding read_addr read_ipv4 read_octet read_number read_ipv6 read_segments read_segment
no_blackhole = refl

pub no_reject : read_addr (codes "reject") ≡ None
unfolding read_addr read_ipv4 read_octet read_number read_ipv6 read_segments read_segment
no_reject = refl

pub no_self : read_addr (codes "self") ≡ None
unfolding read_addr read_ipv4 read_octet read_number read_ipv6 read_segments read_segment
no_self = refl

pub no_no_modify : read_addr (codes "no-modify") ≡ None
unfolding read_addr read_ipv4 read_octet read_number read_ipv6 read_segments read_segment
no_no_modify = refl

pub no_any : read_addr (codes "any") ≡ None
unfolding read_addr read_ipv4 read_octet read_number read_ipv6 read_segments read_segment
no_any = refl

pub no_ebgp : read_addr (codes "ebgp") ≡ None
unfolding read_addr read_ipv4 read_octet read_number read_ipv6 read_segments read_segment
no_ebgp = refl

pub no_ibgp : read_addr (codes "ibgp") ≡ None
unfolding read_addr read_ipv4 read_octet read_number read_ipv6 read_segments read_segment
no_ibgp = refl

pub no_group : read_addr (codes "group") ≡ None
unfolding read_addr read_ipv4 read_octet read_number read_ipv6 read_segments read_segment
no_group = refl

pub no_as : read_addr (codes "AS") ≡ None
unfolding read_addr read_ipv4 read_octet read_number read_ipv6 read_segments read_segment
no_as = refl
