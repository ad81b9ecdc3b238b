-- A field that was put is read, whatever stands behind it, and what is read is what was put.
use Rattle.std.proofs.Common.{◌≡◌, ◌∙◌, ℕ, ◌^◌, ◌<◌, ◌≤◌, Bool, true, false, List, ◌++◌, length, take, drop, Option, Some, None, refl, ap, sym, arith, append_assoc, length-take}
use Rattle.std.specs.Prelude.{nat_lt, cond}
use Rattle.std.proofs.lemmas.Bool.Decides.{nat_tests}
use Rattle.std.proofs.lemmas.Option.{option_and_then_some}
use Rattle.std.proofs.lemmas.List.{take-append-drop, take_all}
use Rattle.std.proofs.Math.Seq.{drop-append_seam}
use Rattle.byteorder.specs.Endian.{big_number, big_bytes}
use Rattle.byteorder.specs.Numbers.{big_from-take, big_from-lt, length-bytes_high_first}
use Rattle.wire_buf.specs.Field.{number_at}
use Rattle.wire_buf.specs.Written.{number_at-written}
use Rattle.bgp_wire.specs.Message.{AreBytes}
use Rattle.attr_codec.proofs.Bytes.{bytes_behind, bytes_front}
use Rattle.frame_codec.specs.Fields.{both}
use Rattle.frame_codec.specs.Grammar.{IsNumber}
use Rattle.frame_codec.proofs.Numbers.{front_back}

pub record IsField {X : Type 0} (put : X → List ℕ) (get : List ℕ → Option (X × List ℕ)) (IsIn : X → Type 0) : Type 0 where
  pub there : (x : X) (rest : List ℕ) → IsIn x → get (put x ++ rest) ≡ Some (x, rest)
  pub only : (bytes : List ℕ) (x : X × List ℕ) → AreBytes bytes → get bytes ≡ Some x → (bytes ≡ put x.0 ++ x.1) × IsIn x.0

-- behind a field of bytes there are bytes
pub bytes_rest : (bytes front rest : List ℕ) → AreBytes bytes → bytes ≡ front ++ rest → AreBytes rest
bytes_rest bytes front rest are e =
    let behind : drop (length front) bytes ≡ rest = rw e (drop-append_seam front rest) in
    rw (← behind) (bytes_behind (length front) bytes are)

pub unless : {A : Type 0} (short : Bool) (x y : A) → cond short None (Some x) ≡ Some y → (short ≡ false) × (x ≡ y)
unless true x y h = cc
unless false x y h = (refl, cc)

pub if_some : {A : Type 0} (test : Bool) (x y : A) → cond test (Some x) None ≡ Some y → (test ≡ true) × (x ≡ y)
if_some true x y h = (refl, cc)
if_some false x y h = cc

-- numbers
number_only : (n : ℕ) (bytes : List ℕ) (x : ℕ × List ℕ) → AreBytes bytes → number_at n bytes ≡ Some x → (bytes ≡ big_bytes n x.0 ++ x.1) × (x.0 < 256 ^ n)
number_only n bytes x are e =
    let found = unless (nat_lt (length bytes) n) (big_number n bytes, drop n bytes) x e in
    let long : n ≤ length bytes = grind (arith, nat_tests, found.0) in
    let size : length (take n bytes) ≡ n = omega (arith, length-take n bytes) in
    let same : big_number n (take n bytes) ≡ big_number n bytes = big_from-take 0 n n bytes (omega arith) in
    let all : take (length (take n bytes)) (big_bytes n (big_number n (take n bytes))) ≡ big_bytes n (big_number n bytes) =
    ap (λ (m : ℕ). take (length (take n bytes)) (big_bytes n m)) same
    ∙ take_all (length (take n bytes)) (big_bytes n (big_number n bytes)) (omega (arith, length-bytes_high_first n (big_number n bytes))) in
    let back : big_bytes n (big_number n bytes) ≡ take n bytes =
    sym all ∙ front_back (take n bytes) n (omega arith) (bytes_front n bytes are) in
    let low : big_number n bytes < 256 ^ n = big_from-lt 0 n bytes are in
    let parts : bytes ≡ big_bytes n (big_number n bytes) ++ drop n bytes = sym (take-append-drop n bytes) ∙ ap (λ (y : List ℕ). y ++ drop n bytes) (sym back) in
    rw (← found.1) (parts, low)

pub number_field : (n : ℕ) → IsField (big_bytes n) (number_at n) (IsNumber n)
number_field n = record { there = λ x rest h. number_at-written n x rest h; only = λ bytes x are e. number_only n bytes x are e }

-- two fields
pub both_field : {X Y : Type 0} (put1 : X → List ℕ) (get1 : List ℕ → Option (X × List ℕ)) (In1 : X → Type 0) (put2 : Y → List ℕ) (get2 : List ℕ → Option (Y × List ℕ)) (In2 : Y → Type 0) →
    IsField put1 get1 In1 → IsField put2 get2 In2 → IsField (λ (x : X × Y). put1 x.0 ++ put2 x.1) (both get1 get2) (λ (x : X × Y). In1 x.0 × In2 x.1)
both_field put1 get1 In1 put2 get2 In2 one other = record {
  there = λ x rest h.
      rw (append_assoc (put1 x.0) (put2 x.1) rest, one.there x.0 (put2 x.1 ++ rest) h.0, other.there x.1 rest h.1) refl;
  only = λ bytes x are e.
      option_and_then_some _ (get1 bytes) x e (λ a ha h1.
      option_and_then_some _ (get2 a.1) x h1 (λ b hb h2.
      let p : ((a.0, b.0), b.1) ≡ x = cc in
      let first = one.only bytes a are ha in
      let second = other.only a.1 b (bytes_rest bytes (put1 a.0) a.1 are first.0) hb in
      rw (← p) (first.0 ∙ ap (λ (y : List ℕ). put1 a.0 ++ y) second.0 ∙ sym (append_assoc (put1 a.0) (put2 b.0) b.1), (first.1, second.1))));
}

-- four parts, put one behind the other
pub four_put : (old a b d e one two three four : List ℕ) → one ≡ old ++ a → two ≡ one ++ b → three ≡ two ++ d → four ≡ three ++ e → four ≡ old ++ (a ++ (b ++ (d ++ e)))
four_put old a b d e one two three four h1 h2 h3 h4 =
    h4 ∙ ap (λ (x : List ℕ). x ++ e) (h3 ∙ ap (λ (x : List ℕ). x ++ d) (h2 ∙ ap (λ (x : List ℕ). x ++ b) h1)) ∙ simp append_assoc
