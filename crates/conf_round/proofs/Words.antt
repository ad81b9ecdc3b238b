-- The words of a canonical text: keywords, numbers, addresses, prefixes and names.
use Rattle.std.proofs.Common.{◌≡◌, ℕ, ◌^◌, ◌<◌, true, List, [], ◌∷◌, ◌++◌, length, decimal, codes, Some, None, refl, inl, inr, arith}
use Rattle.std.specs.List.{list_all}
use Rattle.std.specs.Str.Parse.{AllDigits}
use Rattle.std.specs.Char.{is_ascii_alphabetic}
use Rattle.std.proofs.lemmas.Bool.Decides.{nat_tests}
use Rattle.std.proofs.lemmas.Fmt.{decimal_nonempty, decimal_is_IsNumeral}
use Rattle.std.proofs.lemmas.Str.Parse.{digit_from_value}
use Rattle.std.proofs.NetLemmas.Alphabet.{IsDigitOrDot, IsHexOrColon, All-ipv4_text, All-hex_groups_text}
use Rattle.std.specs.Net.Reader.{read_ipv4, read_octet, read_number, read_ipv6, read_segments, read_segment}
use Rattle.net_base.specs.declared.addr.Family.{Family}
use Rattle.net_base.specs.declared.addr.Family.TheVariants.{V4, V6}
use Rattle.net_base.specs.declared.addr.Addr.{Addr}
use Rattle.net_base.specs.declared.prefix.Prefix.{Prefix}
use Rattle.net_base.specs.Bits.{octets_of_bits, groups_of_bits, prefix_addr}
use Rattle.net_base.specs.Addr.{bits_text, addr_text, read_addr}
use Rattle.net_base.specs.Prefix.{prefix_text, read_prefix}
use Rattle.net_base.proofs.Bits.{octets_of_bits-small, groups_of_bits-small}
use Rattle.net_base.proofs.AddrText.{read_addr_complete, addr_text-spells_only}
use Rattle.net_base.proofs.PrefixText.{read_prefix_complete, prefix_text-spells_only}
use Rattle.conf_tree.specs.declared.token.TokenKind.TheVariants.{Word}
use Rattle.conf_tree.specs.Names.{is_name_byte, is_name}
use Rattle.conf_round.proofs.Plain.{IsPlain, ArePlain, IsInRanges, plain, digit, both_plain, all_plain, is_in_ranges, tested_plain}
use Rattle.conf_tree.proofs.Both.{and_first, and_second}
use Rattle.conf_round.proofs.Pieces.{IsText}

-- plain bytes, at least one, are a word
pub word_of : (text : List ℕ) → 0 < length text → ArePlain text → IsText Word text
word_of [] some p = absurd (omega arith)
word_of (b ∷ text) some p = p

pub plain_of : (text : List ℕ) → IsText Word text → ArePlain text
plain_of [] t = absurd t
plain_of (b ∷ text) t = t

pub longer_word : (front rest : List ℕ) → IsText Word front → ArePlain rest → IsText Word (front ++ rest)
longer_word [] rest t p = absurd t
longer_word (b ∷ front) rest t p = (t.0, both_plain front rest t.1 p)

-- ---- keywords

pub keyword : (b : ℕ) (text : List ℕ) → list_all is_in_ranges (b ∷ text) ≡ true → IsText Word (b ∷ text)
keyword b text e = tested_plain (b ∷ text) e

-- ---- numbers

digits_plain : (ds : List ℕ) → AllDigits 10 ds → ArePlain ds
digits_plain [] d = tt
digits_plain (c ∷ cs) d = (digit c (omega (arith, digit_from_value c d.0)) (omega (arith, digit_from_value c d.0)), digits_plain cs d.1)

pub decimal_plain : (n : ℕ) → n < 2 ^ 64 → ArePlain (decimal n)
decimal_plain n h = digits_plain (decimal n) (decimal_is_IsNumeral n h).0.1

pub decimal_word : (n : ℕ) → n < 2 ^ 64 → IsText Word (decimal n)
decimal_word n h = word_of (decimal n) (decimal_nonempty n h) (decimal_plain n h)

-- ---- addresses and prefixes

v4_plain : (b : ℕ) → IsDigitOrDot b → IsPlain b
v4_plain b (inl h) = plain b (inr (inl (omega (arith, h), omega (arith, h))))
v4_plain b (inr e) = plain b (inr (inl (omega (arith, e), omega (arith, e))))

v6_plain : (b : ℕ) → IsHexOrColon b → IsPlain b
v6_plain b (inl h) = plain b (inr (inl (omega (arith, h), omega (arith, h))))
v6_plain b (inr h) = plain b (inr (inr (inr (inl (omega (arith, h), omega (arith, h))))))

bits_plain : (family : Family) (bits : ℕ) → ArePlain (bits_text family bits)
unfolding bits_text
bits_plain V4 bits = all_plain IsDigitOrDot v4_plain _ (All-ipv4_text (octets_of_bits bits) (octets_of_bits-small bits).1)
bits_plain V6 bits = all_plain IsHexOrColon v6_plain _ (All-hex_groups_text (groups_of_bits bits) (groups_of_bits-small bits).1)

-- what is printed of an address is read as that address
pub addr_read_back : (a : Addr) → read_addr (addr_text a) ≡ Some a
addr_read_back a = read_addr_complete (addr_text a) a (addr_text-spells_only a).0

pub prefix_read_back : (p : Prefix) → read_prefix (prefix_text p) ≡ Some p
prefix_read_back p = read_prefix_complete (prefix_text p) p (prefix_text-spells_only p).0

none_read : read_addr [] ≡ None
unfolding read_addr read_ipv4 read_octet read_number read_ipv6 read_segments read_segment
none_read = refl

addr_some : (text : List ℕ) (a : Addr) → read_addr text ≡ Some a → 0 < length text
addr_some [] a e = absurd (let none = none_read in cc)
addr_some (b ∷ text) a e = omega arith

pub addr_word : (a : Addr) → IsText Word (addr_text a)
addr_word a = word_of (addr_text a) (addr_some (addr_text a) a (addr_read_back a)) (bits_plain a.family a.bits)

pub prefix_word : (p : Prefix) → p.len < 2 ^ 64 → IsText Word (prefix_text p)
unfolding prefix_text
prefix_word p h = longer_word (addr_text (prefix_addr p)) (codes "/" ++ decimal p.len) (addr_word (prefix_addr p)) (plain 47 (inr (inl (omega arith, omega arith))), decimal_plain p.len h)

-- ---- names

letter_in : (b : ℕ) → is_ascii_alphabetic b ≡ true → IsInRanges b
letter_in b h = grind (arith, nat_tests)

name_byte_in : (b : ℕ) → is_name_byte b ≡ true → IsInRanges b
name_byte_in b h = grind (arith, nat_tests)

name_bytes_plain : (text : List ℕ) → list_all is_name_byte text ≡ true → ArePlain text
name_bytes_plain [] e = tt
name_bytes_plain (b ∷ text) e = (plain b (name_byte_in b (and_first (is_name_byte b) (list_all is_name_byte text) e)), name_bytes_plain text (and_second (is_name_byte b) (list_all is_name_byte text) e))

pub name_word : (text : List ℕ) → is_name text ≡ true → IsText Word text
unfolding is_name
name_word [] e = absurd (cc)
name_word (b ∷ text) e =
    (plain b (letter_in b (and_first (is_ascii_alphabetic b) (list_all is_name_byte text) e)), name_bytes_plain text (and_second (is_ascii_alphabetic b) (list_all is_name_byte text) e))
