-- A line of a set has at most 77 bytes.
use Rattle.std.proofs.Common.{ℕ, ◌+◌, ◌≤◌, List, length, decimal, arith, length-append}
use Rattle.net_base.specs.declared.prefix.Prefix.{Prefix}
use Rattle.net_base.specs.declared.roa.Roa.{Roa}
use Rattle.conf_tree.specs.declared.sets.PrefixRange.{PrefixRange}
use Rattle.conf_tree.specs.Canonical.{entry_line, range_text, roa_text, range_line, number_line, roa_line}
use Rattle.conf_tree.specs.Readable.{IsWithin, IsLength, IsRange, IsRoa, IsAs}
use Rattle.conf_size.proofs.AddressSizes.{three_digits, ten_digits, width_most, prefix_size}

length_digits : (p : Prefix) (n : ℕ) → IsLength p n → length (decimal n) ≤ 3
length_digits p n within = three_digits n (omega (arith, within.most, width_most p.family))

pub number_digits : (low n : ℕ) → IsWithin low 4294967295 n → length (decimal n) ≤ 10
number_digits low n within = ten_digits n within.most

pub range_size : (r : PrefixRange) → IsRange r → length (range_text r) ≤ 63
unfolding range_text
range_size r good = omega (arith, prefix_size r.prefix, length_digits r.prefix r.low good.0, length_digits r.prefix r.high good.1, length-append {A = ℕ})

pub roa_size : (r : Roa) → IsRoa r → length (roa_text r) ≤ 75
unfolding roa_text
roa_size r good = omega (arith, prefix_size r.prefix, length_digits r.prefix r.maxlen good.0, number_digits 0 r.source good.1, length-append {A = ℕ})

-- a tab in front and an LF behind
entry_size : (text : List ℕ) (most : ℕ) → length text ≤ most → length (entry_line text) ≤ most + 2
entry_size text most short = omega (arith, length-append {A = ℕ})

pub range_line_size : (r : PrefixRange) → IsRange r → length (range_line r) ≤ 77
range_line_size r good = omega (arith, entry_size (range_text r) 63 (range_size r good))

pub number_line_size : (n : ℕ) → IsAs n → length (number_line n) ≤ 77
number_line_size n good = omega (arith, entry_size (decimal n) 10 (number_digits 1 n good))

pub roa_line_size : (r : Roa) → IsRoa r → length (roa_line r) ≤ 77
roa_line_size r good = omega (arith, entry_size (roa_text r) 75 (roa_size r good))
