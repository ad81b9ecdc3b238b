-- Octets that were read as a number are those that the number is written with.
use Rattle.std.proofs.Common.{◌≡◌, ◌∙◌, ℕ, zero, suc, ◌+◌, ◌*◌, ◌-◌, ◌/◌, ◌%◌, ◌^◌, ◌<◌, ◌≤◌, List, [], ◌∷◌, length, take, refl, ap, sym, arith}
use Rattle.std.proofs.lemmas.Nat.{div-mul-add, pow-add}
use Rattle.std.proofs.Math.Nat.{div-one, mod-eq_of_lt, mul-add-div_right, mul_assoc, mul-add-mod_self_right, one-le-pow, pow-suc}
use Rattle.std.specs.Int.{byte_at, bytes_high_first}
use Rattle.byteorder.specs.Endian.{big_from}
use Rattle.byteorder.specs.Numbers.{big_from-cons, big_from-lt}
use Rattle.bgp_wire.specs.Message.{AreBytes}

byte_at-pow : (k x : ℕ) → byte_at k x ≡ x / 256 ^ k % 256
byte_at-pow zero x = ap (λ (y : ℕ). y % 256) (sym (div-one x))
byte_at-pow (suc k) x = refl

-- a power of 256 is above zero
pow_pos256 : (k : ℕ) → zero < 256 ^ k
pow_pos256 k = one-le-pow k 256 (omega arith)

-- the byte at a place isn't changed by what stands higher
byte_same : (k d a r : ℕ) → byte_at k (a * 256 ^ (suc d + k) + r) ≡ byte_at k r
byte_same k d a r =
    let power : 256 ^ (suc d + k) ≡ 256 ^ d * 256 * 256 ^ k = pow-add 256 (suc d) k ∙ ap (λ (x : ℕ). x * 256 ^ k) (pow-suc 256 d) in
    let apart : a * 256 ^ (suc d + k) ≡ a * 256 ^ d * 256 * 256 ^ k =
    ap (λ (x : ℕ). a * x) power ∙ sym (mul_assoc a (256 ^ d * 256) (256 ^ k)) ∙ ap (λ (x : ℕ). x * 256 ^ k) (sym (mul_assoc a (256 ^ d) 256)) in
    let low : (a * 256 ^ (suc d + k) + r) / 256 ^ k ≡ a * 256 ^ d * 256 + r / 256 ^ k =
    ap (λ (x : ℕ). (x + r) / 256 ^ k) apart ∙ mul-add-div_right (pow_pos256 k) (a * 256 ^ d * 256) r in
    byte_at-pow k (a * 256 ^ (suc d + k) + r)
    ∙ ap (λ (x : ℕ). x % 256) low
    ∙ mul-add-mod_self_right (a * 256 ^ d) 256 (r / 256 ^ k)
    ∙ sym (byte_at-pow k r)

-- so are the bytes below it
low_same : (n m a r : ℕ) → n ≤ m → bytes_high_first n (a * 256 ^ m + r) ≡ bytes_high_first n r
low_same zero m a r h = refl
low_same (suc n) m a r h =
    let place : suc (m - suc n) + n ≡ m = omega arith in
    let byte : byte_at n (a * 256 ^ m + r) ≡ byte_at n r =
    ap (λ (k : ℕ). byte_at n (a * 256 ^ k + r)) (sym place) ∙ byte_same n (m - suc n) a r in
    rw (byte, low_same n m a r (omega arith)) refl

-- the highest byte
top_byte : (k o r : ℕ) → o < 256 → r < 256 ^ k → byte_at k (o * 256 ^ k + r) ≡ o
top_byte k o r h l = byte_at-pow k (o * 256 ^ k + r) ∙ ap (λ (x : ℕ). x % 256) (div-mul-add o (256 ^ k) r l) ∙ mod-eq_of_lt h

-- octets in front of a number are those that it is written with
pub front_back : (octets : List ℕ) (w : ℕ) → length octets ≤ w → AreBytes octets → take (length octets) (bytes_high_first w (big_from 0 w octets)) ≡ octets
front_back [] w few are = refl
front_back (o ∷ os) zero few are = absurd (omega arith)
front_back (o ∷ os) (suc w) few are =
    let less : AreBytes os = λ i. are (suc i) in
    let behind : big_from 1 w (o ∷ os) ≡ big_from 0 w os = big_from-cons 0 w o os in
    let low : big_from 0 w os < 256 ^ w = big_from-lt 0 w os less in
    let first : byte_at w (o * 256 ^ w + big_from 0 w os) ≡ o = top_byte w o (big_from 0 w os) (are 0) low in
    let rest : bytes_high_first w (o * 256 ^ w + big_from 0 w os) ≡ bytes_high_first w (big_from 0 w os) = low_same w w o (big_from 0 w os) (omega arith) in
    let others = front_back os w (omega arith) less in
    rw (behind, first, rest, others) refl
