-- A partial bit that goes with the last community of its kind leaves the others.
use Rattle.std.proofs.Common.{◌≡◌, ◌≢◌, ◌∙◌, ℕ, ◌<◌, ◌^◌, true, false, List, [], ◌∷◌, ◌++◌, ap, arith, refl}
use Rattle.std.specs.Prelude.{bit_and, IsBitSet, length, ◌==◌}
use Rattle.std.specs.Int.Bits.{and_zero_r}
use Rattle.std.proofs.lemmas.Bool.{cond_both}
use Rattle.std.proofs.lemmas.Nat.{and_assoc, and_le_l}
use Rattle.attr_model.specs.declared.attrs.Attrs.{Attrs}
use Rattle.attr_model.specs.Valid.{IsPartial}
use Rattle.filter_engine.specs.Items.{partial_without}

-- a bit that the others leave out is gone
gone : (bits others k : ℕ) → bit_and others (2 ^ k) ≡ 0 → IsBitSet (bit_and bits others) k → ⊥
gone bits others k without set = set (and_assoc (2 ^ k) bits others ∙ ap (bit_and bits) without ∙ and_zero_r bits)

-- a bit among the others stood before
stood : (bits others k : ℕ) → bit_and others (2 ^ k) ≡ 2 ^ k → IsBitSet (bit_and bits others) k → IsBitSet bits k
stood bits others k among set = λ clear. set (and_assoc (2 ^ k) bits others ∙ ap (bit_and bits) among ∙ clear)

fewer : (bits others : ℕ) → bits < 8 → bit_and bits others < 8
fewer bits others below = omega (arith, and_le_l bits others)

not_empty : {A : Type 0} (front : List A) (item : A) (back : List A) → front ++ (item ∷ back) ≢ []
not_empty [] item back = λ e. cc
not_empty (x ∷ front) item back = λ e. cc

counted : {A : Type 0} (left : List A) → (length left == 0) ≡ false → left ≢ []
counted [] filled = λ e. absurd cc
counted (item ∷ left) filled = λ e. cc

-- ---- another list of communities

pub with_one : (attrs : Attrs) (front : List ℕ) (community : ℕ) (back : List ℕ) → IsPartial attrs → IsPartial (record attrs { communities = front ++ (community ∷ back) })
with_one attrs front community back valid = record {
  below = valid.below;
  aggregator = valid.aggregator;
  communities = λ set. not_empty front community back;
  large = valid.large;
}

pub without_some : (attrs : Attrs) (left : List ℕ) → IsPartial attrs → IsPartial (record attrs { communities = left; «partial» = partial_without 5 (length left) attrs.partial })
without_some attrs left valid = cond_both (length left == 0) (bit_and attrs.partial 5) attrs.partial (λ (bits : ℕ). IsPartial (record attrs { communities = left; «partial» = bits })) none some
  where
    none : (length left == 0) ≡ true → IsPartial (record attrs { communities = left; «partial» = bit_and attrs.partial 5 })
    none empty = record {
      below = fewer attrs.partial 5 valid.below;
      aggregator = λ set. valid.aggregator (stood attrs.partial 5 0 refl set);
      communities = λ set. absurd (gone attrs.partial 5 1 refl set);
      large = λ set. valid.large (stood attrs.partial 5 2 refl set);
    }

    some : (length left == 0) ≡ false → IsPartial (record attrs { communities = left })
    some filled = record { below = valid.below; aggregator = valid.aggregator; communities = λ set. counted left filled; large = valid.large }

-- ---- another list of large communities

pub with_one_large : (attrs : Attrs) (front : List (ℕ × ℕ × ℕ)) (community : ℕ × ℕ × ℕ) (back : List (ℕ × ℕ × ℕ)) → IsPartial attrs → IsPartial (record attrs { large = front ++ (community ∷ back) })
with_one_large attrs front community back valid = record {
  below = valid.below;
  aggregator = valid.aggregator;
  communities = valid.communities;
  large = λ set. not_empty front community back;
}

pub without_some_large : (attrs : Attrs) (left : List (ℕ × ℕ × ℕ)) → IsPartial attrs → IsPartial (record attrs { large = left; «partial» = partial_without 3 (length left) attrs.partial })
without_some_large attrs left valid = cond_both (length left == 0) (bit_and attrs.partial 3) attrs.partial (λ (bits : ℕ). IsPartial (record attrs { large = left; «partial» = bits })) none some
  where
    none : (length left == 0) ≡ true → IsPartial (record attrs { large = left; «partial» = bit_and attrs.partial 3 })
    none empty = record {
      below = fewer attrs.partial 3 valid.below;
      aggregator = λ set. valid.aggregator (stood attrs.partial 3 0 refl set);
      communities = λ set. valid.communities (stood attrs.partial 3 1 refl set);
      large = λ set. absurd (gone attrs.partial 3 2 refl set);
    }

    some : (length left == 0) ≡ false → IsPartial (record attrs { large = left })
    some filled = record { below = valid.below; aggregator = valid.aggregator; communities = valid.communities; large = λ set. counted left filled }
