-- What was written in front is what a read gives, whatever follows it.
use Rattle.std.proofs.Common.{◌≡◌, ◌∙◌, ℕ, ◌<◌, ◌^◌, List, ◌++◌, length, take, drop, Some, refl, ap, arith}
use Rattle.std.proofs.Math.Seq.{take-append_seam, drop-append_seam}
use Rattle.std.specs.Prelude.{nat_lt, false}
use Rattle.byteorder.specs.Endian.{big_bytes, big_number}
use Rattle.byteorder.specs.Numbers.{big_number-reads_back, length-bytes_high_first}
use Rattle.wire_buf.specs.Field.{number_at, bytes_at}
use Rattle.std.proofs.lemmas.Grind.{common_steps}

-- a list that begins with n bytes isn't too short for a field of n bytes
long_enough : (n : ℕ) (front rest : List ℕ) → length front ≡ n → nat_lt (length (front ++ rest)) n ≡ false
long_enough n front rest e = grind (arith, common_steps)

-- bytes that were written are read again
pub bytes_at-written : (n : ℕ) (front rest : List ℕ) → length front ≡ n → bytes_at n (front ++ rest) ≡ Some (front, rest)
bytes_at-written n front rest e =
    let whole : take n (front ++ rest) ≡ front = grind (arith, common_steps, take-append_seam front rest) in
    let behind : drop n (front ++ rest) ≡ rest = grind (arith, common_steps, drop-append_seam front rest) in
    rw (long_enough n front rest e, whole, behind) refl

-- the number in the first n bytes is theirs, whatever follows them
number_behind : (n : ℕ) (front rest : List ℕ) → length front ≡ n → number_at n (front ++ rest) ≡ Some (big_number n (front ++ rest), rest)
number_behind n front rest e =
    let behind : drop n (front ++ rest) ≡ rest = grind (arith, common_steps, drop-append_seam front rest) in
    rw (long_enough n front rest e, behind) refl

-- a number that was written in n bytes is read again
pub number_at-written : (n x : ℕ) (rest : List ℕ) → x < 256 ^ n → number_at n (big_bytes n x ++ rest) ≡ Some (x, rest)
number_at-written n x rest h =
    let e : length (big_bytes n x) ≡ n = length-bytes_high_first n x in
    let value : big_number n (big_bytes n x ++ rest) ≡ x = big_number-reads_back n x rest h in
    number_behind n (big_bytes n x) rest e ∙ ap (λ (y : ℕ). Some (y, rest)) value
