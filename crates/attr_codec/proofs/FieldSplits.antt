-- An attribute field is its attributes and a rest in one way.
use Rattle.std.proofs.Common.{◌≡◌, ◌∙◌, ℕ, zero, suc, ◌+◌, ◌*◌, ◌/◌, ◌%◌, ◌^◌, ◌<◌, ◌≤◌, Bool, true, false, cond, List, [], ◌∷◌, ◌++◌, length, take, drop, flat_map, Option, Some, None, refl, ap, sym, subst, arith, append_assoc, length-take, take-append-drop}
use Rattle.std.specs.Prelude.{nat_lt, nat_eq, bit_and, ◌==◌}
use Rattle.std.specs.List.{AllByRecursion}
use Rattle.std.proofs.lemmas.Option.{none-some, option_and_then_some}
use Rattle.std.proofs.lemmas.Bool.Decides.{nat_tests}
use Rattle.byteorder.specs.Endian.{big_bytes, big_number}
use Rattle.wire_buf.specs.Field.{number_at, bytes_at}
use Rattle.bgp_wire.specs.Message.{AreBytes}
use Rattle.attr_codec.specs.Cut.{Cut, behind, cut}
use Rattle.attr_codec.specs.Field.{Attribute, length_size, attribute_at, attribute_bytes, HasItsLength, Spells}
use Rattle.attr_codec.proofs.Bytes.{bytes_behind}
use Rattle.attr_codec.proofs.Cutting.{cut_end, cut_found, cut_lost}
use Rattle.attr_codec.proofs.Fields.{guarded, attribute_takes}
use Rattle.attr_codec.proofs.ItemsBack.{attribute_back, byte_there}

-- a cut that is spelled is the one that is made
rest_cut : (rest : List ℕ) → attribute_at rest ≡ None → cut attribute_at rest ≡ record { items = []; whole = length rest == 0 }
rest_cut [] e = cut_end attribute_at
rest_cut (b ∷ bs) e = let some : nat_eq (length (b ∷ bs)) 0 ≡ false = grind (arith, nat_tests) in cut_lost attribute_at attribute_takes (b ∷ bs) (omega arith) e ∙ ap (λ (w : Bool). record { items = []; whole = w }) (sym some)

spelled : (items : List Attribute) (rest : List ℕ) → AllByRecursion HasItsLength items → attribute_at rest ≡ None → cut attribute_at (flat_map attribute_bytes items ++ rest) ≡ record { items = items; whole = length rest == 0 }
spelled [] rest each e = rest_cut rest e
spelled (a ∷ items) rest each e =
    let more = flat_map attribute_bytes items ++ rest in
    let whole : flat_map attribute_bytes (a ∷ items) ++ rest ≡ attribute_bytes a ++ more = append_assoc (attribute_bytes a) (flat_map attribute_bytes items) rest in
    let found = attribute_back a more each.0 in
    let shorter = attribute_takes (attribute_bytes a ++ more) (a, more) found in
    ap (cut attribute_at) whole ∙ cut_found attribute_at attribute_takes (attribute_bytes a ++ more) a more (omega arith) found
    ∙ ap (λ (c : Cut Attribute). behind (a ∷ []) c) (spelled items rest each.1 e)

pub only_cut : (field : List ℕ) (c : Cut Attribute) → Spells field c → cut attribute_at field ≡ c
only_cut field c s = ap (cut attribute_at) s.all ∙ spelled c.items s.rest s.each s.ends ∙ ap (λ (w : Bool). record { items = c.items; whole = w }) (sym s.whole)

-- ---- the cut that is made is spelled

-- a field of one byte or of two, in front of the rest
pub record Front (n : ℕ) (bytes : List ℕ) (x : ℕ × List ℕ) : Type 0 where
  pub all : bytes ≡ big_bytes n x.0 ++ x.1
  pub fits : x.0 < 256 ^ n
  pub rest : AreBytes x.1

one_front : (bytes : List ℕ) (x : ℕ × List ℕ) → AreBytes bytes → number_at 1 bytes ≡ Some x → (bytes ≡ x.0 ∷ x.1) × Front 1 bytes x
one_front [] x are e = absurd (none-some x e)
one_front (b ∷ bs) x are e =
    let same : (b, bs) ≡ x = let h : Some (b, bs) ≡ Some x = sym (byte_there b bs) ∙ e in cc in
    let low : b < 256 = are 0 in
    let byte : b % 256 ≡ b = omega arith in
    let front : Front 1 (b ∷ bs) (b, bs) = record { all = rw byte refl; fits = omega arith; rest = λ i. are (suc i) } in
    (rw (← same) refl, subst (Front 1 (b ∷ bs)) same front)

two_there : (a b : ℕ) (bs : List ℕ) → number_at 2 (a ∷ b ∷ bs) ≡ Some (a * 256 + b, bs)
two_there a b bs =
    let long : nat_lt (length (a ∷ b ∷ bs)) 2 ≡ false = grind (arith, nat_tests) in
    let value : big_number 2 (a ∷ b ∷ bs) ≡ a * 256 + b = omega arith in
    rw (long, value) refl

two_front : (bytes : List ℕ) (x : ℕ × List ℕ) → AreBytes bytes → number_at 2 bytes ≡ Some x → Front 2 bytes x
two_front [] x are e = absurd (none-some x e)
two_front (a ∷ []) x are e = absurd (none-some x e)
two_front (a ∷ b ∷ bs) x are e =
    let same : (a * 256 + b, bs) ≡ x = let h : Some (a * 256 + b, bs) ≡ Some x = sym (two_there a b bs) ∙ e in cc in
    let high : a < 256 = are 0 in
    let low : b < 256 = are 1 in
    let first : (a * 256 + b) / 256 % 256 ≡ a = omega arith in
    let second : (a * 256 + b) % 256 ≡ b = omega arith in
    let front : Front 2 (a ∷ b ∷ bs) (a * 256 + b, bs) = record { all = rw (first, second) refl; fits = omega arith; rest = λ i. are (suc (suc i)) } in
    subst (Front 2 (a ∷ b ∷ bs)) same front

size_front : (b : Bool) (bytes : List ℕ) (x : ℕ × List ℕ) → AreBytes bytes → number_at (cond b 1 2) bytes ≡ Some x → Front (cond b 1 2) bytes x
size_front true bytes x are e = (one_front bytes x are e).1
size_front false bytes x are e = two_front bytes x are e

value_front : (n : ℕ) (bytes : List ℕ) (x : List ℕ × List ℕ) → AreBytes bytes → bytes_at n bytes ≡ Some x → (bytes ≡ x.0 ++ x.1) × (length x.0 ≡ n) × AreBytes x.1
value_front n bytes x are e =
    let g = guarded (nat_lt (length bytes) n) (take n bytes, drop n bytes) x e in
    let enough : n ≤ length bytes = grind (arith, nat_tests, g.0) in
    rw (← g.1) (sym (take-append-drop n bytes), omega (arith, length-take n bytes), bytes_behind n bytes are)

-- an attribute that is found, in front of the rest
pub record Found (bytes : List ℕ) (x : Attribute × List ℕ) : Type 0 where
  pub all : bytes ≡ attribute_bytes x.0 ++ x.1
  pub fits : HasItsLength x.0
  pub rest : AreBytes x.1

attribute_front : (bytes : List ℕ) (x : Attribute × List ℕ) → AreBytes bytes → attribute_at bytes ≡ Some x → Found bytes x
unfolding attribute_at
attribute_front bytes x are e =
    option_and_then_some _ (number_at 1 bytes) x e (λ flags hf h1.
    option_and_then_some _ (number_at 1 flags.1) x h1 (λ kind hk h2.
    option_and_then_some _ (number_at (length_size flags.0) kind.1) x h2 (λ size hs h3.
    option_and_then_some _ (bytes_at size.0 size.1) x h3 (λ value hv h4.
    let a = one_front bytes flags are hf in
    let b = one_front flags.1 kind a.1.rest hk in
    let d = size_front (bit_and flags.0 16 == 0) kind.1 size b.1.rest hs in
    let v = value_front size.0 size.1 value d.rest hv in
    let p : (record { flags = flags.0; kind = kind.0; value = value.0 }, value.1) ≡ x = cc in
    let one : Attribute = record { flags = flags.0; kind = kind.0; value = value.0 } in
    let tail : kind.1 ≡ (big_bytes (length_size flags.0) (length value.0) ++ value.0) ++ value.1 =
    d.all ∙ ap (λ (l : List ℕ). big_bytes (length_size flags.0) size.0 ++ l) v.0 ∙ ap (λ n. big_bytes (length_size flags.0) n ++ (value.0 ++ value.1)) (sym v.1) ∙ sym (append_assoc (big_bytes (length_size flags.0) (length value.0)) value.0 value.1) in
    let all : bytes ≡ attribute_bytes one ++ value.1 = a.0 ∙ ap (λ (l : List ℕ). flags.0 ∷ l) b.0 ∙ ap (λ (l : List ℕ). flags.0 ∷ kind.0 ∷ l) tail in
    let fits : length value.0 < 256 ^ length_size flags.0 = rw v.1 d.fits in
    let found : Found bytes (one, value.1) = record { all = all; fits = fits; rest = v.2 } in
    subst (Found bytes) p found))))

spells_by : (n : ℕ) (bytes : List ℕ) → length bytes ≤ suc n → AreBytes bytes → ((rest : List ℕ) → length rest ≤ n → AreBytes rest → Spells rest (cut attribute_at rest)) → (o : Option (Attribute × List ℕ)) → attribute_at bytes ≡ o → Spells bytes (cut attribute_at bytes)
spells_by n bytes h are others None e = subst (Spells bytes) (sym (rest_cut bytes e)) (record { rest = bytes; all = refl; each = tt; ends = e; whole = refl })
spells_by n bytes h are others (Some x) e =
    let found = attribute_front bytes x are e in
    let shorter = attribute_takes bytes x e in
    let rest : Spells x.1 (cut attribute_at x.1) = others x.1 (omega arith) found.rest in
    subst (Spells bytes) (sym (cut_found attribute_at attribute_takes bytes x.0 x.1 (omega arith) e))
    (record {
      rest = rest.rest;
      all = found.all ∙ ap (λ (l : List ℕ). attribute_bytes x.0 ++ l) rest.all ∙ sym (append_assoc (attribute_bytes x.0) (flat_map attribute_bytes (cut attribute_at x.1).items) rest.rest);
      each = (found.fits, rest.each);
      ends = rest.ends;
      whole = rest.whole;
    })

nothing_there : attribute_at [] ≡ None
unfolding attribute_at
nothing_there = refl

spells_in : (n : ℕ) (bytes : List ℕ) → length bytes ≤ n → AreBytes bytes → Spells bytes (cut attribute_at bytes)
spells_in zero [] h are = subst (Spells []) (sym (rest_cut [] nothing_there)) (record { rest = []; all = refl; each = tt; ends = nothing_there; whole = refl })
spells_in zero (b ∷ bs) h are = absurd (omega arith)
spells_in (suc n) bytes h are = spells_by n bytes h are (λ rest l b. spells_in n rest l b) (attribute_at bytes) refl

-- the cut of a field spells it
pub cut_spells : (bytes : List ℕ) → AreBytes bytes → Spells bytes (cut attribute_at bytes)
cut_spells bytes are = spells_in (length bytes) bytes (omega arith) are
