-- How many bytes lists of numbers have.
use Rattle.std.proofs.Common.{◌≡◌, ℕ, ◌+◌, ◌*◌, Bool, true, false, cond, List, [], ◌∷◌, length, flat_map, arith}
use Rattle.byteorder.specs.Endian.{big_bytes}
use Rattle.attr_model.specs.declared.path.Segment.{Segment}
use Rattle.attr_model.specs.Valid.{numbers_of}
use Rattle.attr_codec.specs.Path.{as_bytes, segment_bytes}
use Rattle.attr_codec.specs.Written.{large_bytes}

pub u32s_size : (ns : List ℕ) → length (flat_map (big_bytes 4) ns) ≡ length ns * 4
u32s_size [] = omega arith
u32s_size (n ∷ ns) = omega (arith, u32s_size ns)

pub larges_size : (ls : List (ℕ × ℕ × ℕ)) → length (flat_map large_bytes ls) ≡ length ls * 12
unfolding large_bytes
larges_size [] = omega arith
larges_size (l ∷ ls) = omega (arith, larges_size ls)

pub as_size_of : (as4 : Bool) (ns : List ℕ) → length (flat_map (as_bytes as4) ns) ≡ length ns * cond as4 4 2
as_size_of true [] = omega arith
as_size_of true (n ∷ ns) = omega (arith, as_size_of true ns)
as_size_of false [] = omega arith
as_size_of false (n ∷ ns) = omega (arith, as_size_of false ns)

pub segment_size : (as4 : Bool) (s : Segment) → length (segment_bytes as4 s) ≡ length (numbers_of s) * cond as4 4 2 + 2
segment_size as4 s = omega (arith, as_size_of as4 (numbers_of s))
