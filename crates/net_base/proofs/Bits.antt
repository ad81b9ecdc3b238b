-- The bits of an address, its octets and its groups are each told by the others.
use Rattle.std.proofs.Common.{◌≡◌, ℕ, zero, suc, ◌+◌, ◌-◌, ◌*◌, ◌/◌, ◌%◌, ◌^◌, ◌<◌, List, [], ◌∷◌, length, get_or, refl, sym, ap, ◌∙◌, subst, lit<, arith}
use Rattle.std.proofs.lemmas.Nat.{div-add-mod', mod-mul-add, mul-add-lt, div-mul-add, mod_below, be_bytes_4, from_be_bytes-to_be_bytes_4}
use Rattle.std.proofs.lemmas.Int.Digits.{number_lt}
use Rattle.std.proofs.Math.Nat.{pow-suc, pow-succ', one-le-pow, mod-eq_of_lt}
use Rattle.std.proofs.NetLemmas.Arrays.{sixteen_items}
use Rattle.std.specs.Int.{w32, w128, byte_at, bytes_high_first, from_be_bytes, to_be_bytes}
use Rattle.std.specs.Int.Digits.{number_from_digits, number_from_digits_after, AllBelowBase}
use Rattle.std.specs.Net.Addr.{octets_of, segments_of}
use Rattle.net_base.specs.Bits.{octets_of_bits, groups_of_bits}

abbrev AllBytes : List ℕ → Type 0
AllBytes xs = (i : ℕ) → get_or xs i 0 < 256

-- ---- bytes, the highest first

byte_at_is : (k n : ℕ) → byte_at k n ≡ n / 256 ^ k % 256
byte_at_is zero n = omega arith
byte_at_is (suc k) n = refl

pow_256 : (k : ℕ) → 0 < 256 ^ k
pow_256 k = omega (arith, one-le-pow k 256 (lit< tt))

-- one digit more of a remainder
mod-mul : (n m a : ℕ) → 0 < m → 0 < a → n % (a * m) ≡ n / m % a * m + n % m
mod-mul n m a p q =
    let small : n / m % a * m + n % m < a * m = omega (arith, mul-add-lt (n / m % a) m (n % m) a (mod_below (n / m) a q) (mod_below n m p)) in
    let whole : n ≡ n / m / a * (a * m) + (n / m % a * m + n % m) = omega (arith, div-add-mod' n m, ap (λ x. x * m) (div-add-mod' (n / m) a)) in
    ap (λ x. x % (a * m)) whole ∙ mod-mul-add (n / m / a) (a * m) (n / m % a * m + n % m) small

-- a byte more behind a number
shifted : (acc byte p low : ℕ) → (acc * 256 + byte) * p + low ≡ acc * (p * 256) + (byte * p + low)
shifted acc byte p low = omega arith

-- the number that bytes write after others
number_after : (ds : List ℕ) (acc : ℕ) → number_from_digits_after 256 acc ds ≡ acc * 256 ^ length ds + number_from_digits 256 ds
number_after [] acc = omega arith
number_after (d ∷ ds) acc =
    let p = 256 ^ length ds in
    let first : number_from_digits 256 (d ∷ ds) ≡ d * p + number_from_digits 256 ds = number_after ds (0 + d) ∙ ap (λ x. x * p + number_from_digits 256 ds) (omega arith) in
    rw (pow-suc 256 (length ds)) (number_after ds (acc * 256 + d) ∙ shifted acc d p (number_from_digits 256 ds) ∙ ap (λ x. acc * (p * 256) + x) (sym first))

number_bytes : (k acc n : ℕ) → number_from_digits_after 256 acc (bytes_high_first k n) ≡ acc * 256 ^ k + n % 256 ^ k
number_bytes zero acc n = omega arith
number_bytes (suc k) acc n =
    let split : n % 256 ^ suc k ≡ n / 256 ^ k % 256 * 256 ^ k + n % 256 ^ k = ap (λ m. n % m) (pow-succ' 256 k) ∙ mod-mul n (256 ^ k) 256 (pow_256 k) (lit< tt) in
    let byte : byte_at k n * 256 ^ k ≡ n / 256 ^ k % 256 * 256 ^ k = ap (λ x. x * 256 ^ k) (byte_at_is k n) in
    let same : byte_at k n * 256 ^ k + n % 256 ^ k ≡ n % 256 ^ suc k = omega arith in
    number_bytes k (acc * 256 + byte_at k n) n ∙ shifted acc (byte_at k n) (256 ^ k) (n % 256 ^ k)
    ∙ ap (λ x. acc * x + (byte_at k n * 256 ^ k + n % 256 ^ k)) (sym (pow-suc 256 k)) ∙ ap (λ x. acc * 256 ^ suc k + x) same

bytes_number : (ds : List ℕ) (acc : ℕ) → AllBelowBase 256 ds → bytes_high_first (length ds) (number_from_digits_after 256 acc ds) ≡ ds
bytes_number [] acc h = refl
bytes_number (d ∷ ds) acc h =
    let n = number_from_digits_after 256 (acc * 256 + d) ds in
    let low = number_lt 256 ds h.1 in
    let high : n / 256 ^ length ds ≡ acc * 256 + d = ap (λ x. x / 256 ^ length ds) (number_after ds (acc * 256 + d)) ∙ div-mul-add (acc * 256 + d) (256 ^ length ds) (number_from_digits 256 ds) low in
    let top : byte_at (length ds) n ≡ d = byte_at_is (length ds) n ∙ ap (λ x. x % 256) high ∙ mod-mul-add acc 256 d h.0 in
    let rest = bytes_number ds (acc * 256 + d) h.1 in
    λ i. top i ∷ rest i

bytes_below : (ds : List ℕ) → AllBytes ds → AllBelowBase 256 ds
bytes_below [] h = tt
bytes_below (d ∷ ds) h = (h 0, bytes_below ds (λ i. h (suc i)))

byte_at-lt : (k n : ℕ) → byte_at k n < 256
byte_at-lt k n = rw (byte_at_is k n) (mod_below (n / 256 ^ k) 256 (lit< tt))

pub bytes_high_first-lt : (k n i : ℕ) → get_or (bytes_high_first k n) i 0 < 256
bytes_high_first-lt zero n i = omega arith
bytes_high_first-lt (suc k) n zero = byte_at-lt k n
bytes_high_first-lt (suc k) n (suc i) = bytes_high_first-lt k n i

-- ---- 16 bytes

sixteen_number : (a b c d e f g h i j k l m n o p : ℕ) → from_be_bytes w128 (a ∷ b ∷ c ∷ d ∷ e ∷ f ∷ g ∷ h ∷ i ∷ j ∷ k ∷ l ∷ m ∷ n ∷ o ∷ p ∷ []) ≡ number_from_digits 256 (a ∷ b ∷ c ∷ d ∷ e ∷ f ∷ g ∷ h ∷ i ∷ j ∷ k ∷ l ∷ m ∷ n ∷ o ∷ p ∷ [])
sixteen_number a b c d e f g h i j k l m n o p = omega arith

from_be_bytes_16 : (bs : List ℕ) → length bs ≡ 16 → from_be_bytes w128 bs ≡ number_from_digits 256 bs
from_be_bytes_16 bs long =
    let same = sixteen_items bs long in
    subst (λ (xs : List ℕ). from_be_bytes w128 xs ≡ number_from_digits 256 xs) (sym same) (sixteen_number _ _ _ _ _ _ _ _ _ _ _ _ _ _ _ _)

pub from_be_bytes-to_be_bytes_16 : (n : ℕ) → n < 2 ^ 128 → from_be_bytes w128 (to_be_bytes w128 n) ≡ n
from_be_bytes-to_be_bytes_16 n fits =
    let within : n % 256 ^ 16 ≡ n = mod-eq_of_lt fits in
    let read : 0 * 256 ^ 16 + n % 256 ^ 16 ≡ n = omega arith in
    from_be_bytes_16 (to_be_bytes w128 n) refl ∙ number_bytes 16 0 n ∙ read

pub be_bytes_16 : (bs : List ℕ) → length bs ≡ 16 → AllBytes bs → to_be_bytes w128 (from_be_bytes w128 bs) ≡ bs
be_bytes_16 bs long small =
    ap (λ n. bytes_high_first 16 n) (from_be_bytes_16 bs long)
    ∙ ap (λ k. bytes_high_first k (number_from_digits 256 bs)) (sym long)
    ∙ bytes_number bs 0 (bytes_below bs small)

-- ---- the octets and the groups of an address

pub octets_of_bits-from_be_bytes : (octets : List ℕ) → length octets ≡ 4 → AllBytes octets → octets_of_bits (from_be_bytes w32 octets) ≡ octets
unfolding octets_of_bits
octets_of_bits-from_be_bytes octets four small = be_bytes_4 octets _ four small refl

pub from_be_bytes-octets_of_bits : (n : ℕ) → n < 2 ^ 32 → from_be_bytes w32 (octets_of_bits n) ≡ n
unfolding octets_of_bits
from_be_bytes-octets_of_bits n fits = from_be_bytes-to_be_bytes_4 n fits

pub octets_of_bits-small : (n : ℕ) → (length (octets_of_bits n) ≡ 4) × ((i : ℕ) → get_or (octets_of_bits n) i 0 < 2 ^ 8)
unfolding octets_of_bits
octets_of_bits-small n = (refl, bytes_high_first-lt 4 n)

pub segments_of-octets_of : (xs : List ℕ) → segments_of (octets_of xs) ≡ xs
segments_of-octets_of [] = refl
segments_of-octets_of (s ∷ xs) =
    let whole : s / 256 * 256 + s % 256 ≡ s = omega arith in
    λ i. whole i ∷ segments_of-octets_of xs i

octets_of-segments_of : (n : ℕ) (xs : List ℕ) → length xs ≡ 2 * n → AllBytes xs → octets_of (segments_of xs) ≡ xs
octets_of-segments_of n [] even small = refl
octets_of-segments_of n (a ∷ []) even small = absurd (omega arith)
octets_of-segments_of n (a ∷ b ∷ xs) even small =
    let low : b < 256 = small 1 in
    let high : (a * 256 + b) / 256 ≡ a = omega arith in
    let rest : (a * 256 + b) % 256 ≡ b = omega arith in
    λ i. high i ∷ rest i ∷ octets_of-segments_of (n - 1) xs (omega arith) (λ k. small (suc (suc k))) i

length-octets_of : (xs : List ℕ) → length (octets_of xs) ≡ 2 * length xs
length-octets_of [] = refl
length-octets_of (s ∷ xs) = omega (arith, length-octets_of xs)

octets_of-lt : (xs : List ℕ) → ((i : ℕ) → get_or xs i 0 < 2 ^ 16) → AllBytes (octets_of xs)
octets_of-lt [] small i = omega arith
octets_of-lt (s ∷ xs) small zero = let h : s < 2 ^ 16 = small 0 in omega arith
octets_of-lt (s ∷ xs) small (suc zero) = omega arith
octets_of-lt (s ∷ xs) small (suc (suc i)) = octets_of-lt xs (λ k. small (suc k)) i

pub groups_of_bits-from_be_bytes : (bytes : List ℕ) → length bytes ≡ 16 → AllBytes bytes → groups_of_bits (from_be_bytes w128 bytes) ≡ segments_of bytes
unfolding groups_of_bits
groups_of_bits-from_be_bytes bytes long small = ap segments_of (be_bytes_16 bytes long small)

pub from_be_bytes-groups_of_bits : (n : ℕ) → n < 2 ^ 128 → from_be_bytes w128 (octets_of (groups_of_bits n)) ≡ n
unfolding groups_of_bits
from_be_bytes-groups_of_bits n fits =
    let bytes = to_be_bytes w128 n in
    ap (from_be_bytes w128) (octets_of-segments_of 8 bytes refl (bytes_high_first-lt 16 n)) ∙ from_be_bytes-to_be_bytes_16 n fits

segments_of-lt : (n : ℕ) (xs : List ℕ) → length xs ≡ 2 * n → AllBytes xs → (i : ℕ) → get_or (segments_of xs) i 0 < 2 ^ 16
segments_of-lt n [] even small i = omega arith
segments_of-lt n (a ∷ []) even small i = absurd (omega arith)
segments_of-lt n (a ∷ b ∷ xs) even small zero = let high : a < 256 = small 0 in let low : b < 256 = small 1 in omega arith
segments_of-lt n (a ∷ b ∷ xs) even small (suc i) = segments_of-lt (n - 1) xs (omega arith) (λ k. small (suc (suc k))) i

pub groups_of_bits-small : (n : ℕ) → (length (groups_of_bits n) ≡ 8) × ((i : ℕ) → get_or (groups_of_bits n) i 0 < 2 ^ 16)
unfolding groups_of_bits
groups_of_bits-small n = (refl, segments_of-lt 8 (to_be_bytes w128 n) refl (bytes_high_first-lt 16 n))

-- the same where the bits are cut to the width

pub octets_back : (octets : List ℕ) → length octets ≡ 4 → AllBytes octets → octets_of_bits (from_be_bytes w32 octets % 2 ^ 32) ≡ octets
octets_back octets four small =
    let fits : from_be_bytes w32 octets < 2 ^ 32 = omega (arith, small 0, small 1, small 2, small 3) in
    ap octets_of_bits (mod-eq_of_lt fits) ∙ octets_of_bits-from_be_bytes octets four small

pub groups_back : (groups : List ℕ) → length groups ≡ 8 → ((i : ℕ) → get_or groups i 0 < 2 ^ 16) → groups_of_bits (from_be_bytes w128 (octets_of groups) % 2 ^ 128) ≡ groups
groups_back groups eight small =
    let bytes = octets_of groups in
    let long : length bytes ≡ 16 = omega (arith, length-octets_of groups) in
    let below : number_from_digits 256 bytes < 256 ^ 16 = subst (λ k. number_from_digits 256 bytes < 256 ^ k) long (number_lt 256 bytes (bytes_below bytes (octets_of-lt groups small))) in
    let fits : from_be_bytes w128 bytes < 2 ^ 128 = subst (λ n. n < 2 ^ 128) (sym (from_be_bytes_16 bytes long)) below in
    ap groups_of_bits (mod-eq_of_lt fits) ∙ groups_of_bits-from_be_bytes bytes long (octets_of-lt groups small)
    ∙ segments_of-octets_of groups
