-- What a table keeps stays right over each step on one number.
use Rattle.std.proofs.Common.{◌≡◌, ◌≢◌, ℕ, ◌<◌, Bool, true, false, cond, ◌⊎◌, inl, inr, List, Option, Some, None, option_map, refl, sym, ap, ◌∙◌, arith, subst}
use Rattle.std.proofs.lemmas.Bool.{cases_eq, false_from_ne_true}
use Rattle.attr_model.specs.declared.attrs.Attrs.{Attrs}
use Rattle.attr_model.specs.contracts.attrs.AttrsPartialEq.TheImpl.{eq-value as attrs_eq}
use Rattle.attr_model.proofs.SameAttrs.{attrs_eq-Decides}
use Rattle.attr_intern.specs.declared.table.Shared.{Shared}
use Rattle.attr_intern.specs.Table.{Table, shared_at, attrs_at, HasOneNumberEach}
use Rattle.attr_intern.specs.Kept.{IsKept, number_of, Sets, first_of}

true_or_false : (b : Bool) → (b ≡ true) ⊎ (b ≡ false)
true_or_false true = inl refl
true_or_false false = inr refl

pub one_number_each : (table : Table) (numbers : List (Attrs × ℕ)) → IsKept table numbers → HasOneNumberEach table
one_number_each table numbers kept m n attrs is also = inner (sym (kept.known attrs m is) ∙ kept.known attrs n also)
  where
    inner : Some m ≡ Some n → m ≡ n
    inner e = cc

-- the same, said of equal lists
pub kept_same : (old new : Table) (numbers others : List (Attrs × ℕ)) → new ≡ old → others ≡ numbers → IsKept old numbers → IsKept new others
kept_same old new numbers others table entries kept = subst (λ t. IsKept t others) (sym table) (subst (λ es. IsKept old es) (sym entries) kept)

-- what stands under each number stays, but for its uses
pub kept_counted : (old new : Table) (numbers : List (Attrs × ℕ)) → ((number : ℕ) → attrs_at new number ≡ attrs_at old number)
    → ((number : ℕ) (shared : Shared) → shared_at new number ≡ Some shared → 0 < shared.uses) → IsKept old numbers → IsKept new numbers
kept_counted old new numbers same used kept = record {
  found = λ attrs number is. same number ∙ kept.found attrs number is;
  known = λ attrs number is. kept.known attrs number (sym (same number) ∙ is);
  used = used;
}

-- the uses of one number are counted anew
pub kept_one_counted : (old new : Table) (numbers : List (Attrs × ℕ)) (number : ℕ) (before after : Shared) → shared_at old number ≡ Some before → Sets old new number (Some after)
    → after.attrs ≡ before.attrs → 0 < after.uses → IsKept old numbers → IsKept new numbers
kept_one_counted old new numbers number before after was sets same some kept = kept_counted old new numbers attrs used kept
  where
    attrs_of : Option Shared → Option Attrs
    attrs_of shared = option_map (λ shared. shared.attrs) shared

    attrs : (other : ℕ) → attrs_at new other ≡ attrs_at old other
    attrs other = elim (cases_eq other number) [
      | inl e ↦ subst (λ n. attrs_at new n ≡ attrs_at old n) (sym e) (ap (option_map (λ (shared : Shared). shared.attrs)) sets.changed ∙ ap Some same ∙ sym (ap (option_map (λ (shared : Shared). shared.attrs)) was))
      | inr differ ↦ ap (option_map (λ (shared : Shared). shared.attrs)) (sets.others other differ)
    ]

    counted : (shared : Shared) → shared_at new number ≡ Some shared → 0 < shared.uses
    counted shared is = subst (λ (s : Shared). 0 < s.uses) (inner (sym sets.changed ∙ is)) some
      where
        inner : Some after ≡ Some shared → after ≡ shared
        inner e = cc

    used : (other : ℕ) (shared : Shared) → shared_at new other ≡ Some shared → 0 < shared.uses
    used other shared is = elim (cases_eq other number) [
      | inl e ↦ counted shared (subst (λ n. shared_at new n ≡ Some shared) e is)
      | inr differ ↦ kept.used other shared (sym (sets.others other differ) ∙ is)
    ]

-- attributes that had no number have a free one
pub kept_added : (old new : Table) (numbers more : List (Attrs × ℕ)) (number : ℕ) (attrs : Attrs) → shared_at old number ≡ None → Sets old new number (Some (first_of attrs))
    → ((other : ℕ) → attrs_at old other ≢ Some attrs) → ((key : Attrs) → number_of more key ≡ cond (attrs_eq.it attrs key) (Some number) (number_of numbers key)) → IsKept old numbers → IsKept new more
kept_added old new numbers more number attrs free sets absent updates kept = record { found = found; known = known; used = used }
  where
    here : attrs_at new number ≡ Some attrs
    here = ap (option_map (λ (shared : Shared). shared.attrs)) sets.changed

    there : (other : ℕ) → other ≢ number → attrs_at new other ≡ attrs_at old other
    there other differ = ap (option_map (λ (shared : Shared). shared.attrs)) (sets.others other differ)

    at_itself : (key : Attrs) → attrs ≡ key → number_of more key ≡ Some number
    at_itself key e = updates key ∙ ap (λ b. cond b (Some number) (number_of numbers key)) ((attrs_eq-Decides attrs key).1 e)

    at_another : (key : Attrs) → attrs ≢ key → number_of more key ≡ number_of numbers key
    at_another key differ = updates key ∙ ap (λ b. cond b (Some number) (number_of numbers key)) (false_from_ne_true _ (λ e. differ ((attrs_eq-Decides attrs key).0 e)))

    not_free : (key : Attrs) (other : ℕ) → attrs_at old other ≡ Some key → other ≢ number
    not_free key other is e = none (sym (ap (option_map (λ (shared : Shared). shared.attrs)) free) ∙ subst (λ n. attrs_at old n ≡ Some key) e is)
      where
        none : None ≡ Some key → ⊥
        none e = cc

    found_at : (key : Attrs) (other : ℕ) → (attrs_eq.it attrs key ≡ true) ⊎ (attrs_eq.it attrs key ≡ false) → number_of more key ≡ Some other → attrs_at new other ≡ Some key
    found_at key other which is = elim which [
      | inl e ↦
          let same = (attrs_eq-Decides attrs key).0 e in
          subst (λ n. attrs_at new n ≡ Some key) (inner (sym (at_itself key same) ∙ is)) (here ∙ ap Some same)
      | inr e ↦
          let before = kept.found key other (sym (at_another key (λ same. differ e ((attrs_eq-Decides attrs key).1 same))) ∙ is) in
          there other (not_free key other before) ∙ before
    ]
      where
        inner : Some number ≡ Some other → number ≡ other
        inner e = cc

        differ : attrs_eq.it attrs key ≡ false → attrs_eq.it attrs key ≡ true → ⊥
        differ e f = cc

    found : (key : Attrs) (other : ℕ) → number_of more key ≡ Some other → attrs_at new other ≡ Some key
    found key other is = found_at key other (true_or_false (attrs_eq.it attrs key)) is

    known : (key : Attrs) (other : ℕ) → attrs_at new other ≡ Some key → number_of more key ≡ Some other
    known key other is = elim (cases_eq other number) [
      | inl e ↦
          let same : attrs ≡ key = inner (sym here ∙ subst (λ n. attrs_at new n ≡ Some key) e is) in
          at_itself key same ∙ ap Some (sym e)
      | inr differ ↦
          let before = sym (there other differ) ∙ is in
          at_another key (λ same. absent other (before ∙ ap Some (sym same))) ∙ kept.known key other before
    ]
      where
        inner : Some attrs ≡ Some key → attrs ≡ key
        inner e = cc

    used : (other : ℕ) (shared : Shared) → shared_at new other ≡ Some shared → 0 < shared.uses
    used other shared is = elim (cases_eq other number) [
      | inl e ↦ subst (λ (s : Shared). 0 < s.uses) (inner (sym sets.changed ∙ subst (λ n. shared_at new n ≡ Some shared) e is)) (omega arith)
      | inr differ ↦ kept.used other shared (sym (sets.others other differ) ∙ is)
    ]
      where
        inner : Some (first_of attrs) ≡ Some shared → first_of attrs ≡ shared
        inner e = cc

-- the last use of a number goes
pub kept_freed : (old new : Table) (numbers fewer : List (Attrs × ℕ)) (number : ℕ) (shared : Shared) → shared_at old number ≡ Some shared → Sets old new number None
    → ((key : Attrs) → number_of fewer key ≡ cond (attrs_eq.it shared.attrs key) None (number_of numbers key)) → IsKept old numbers → IsKept new fewer
kept_freed old new numbers fewer number shared was sets updates kept = record { found = found; known = known; used = used }
  where
    there : (other : ℕ) → other ≢ number → attrs_at new other ≡ attrs_at old other
    there other differ = ap (option_map (λ (shared : Shared). shared.attrs)) (sets.others other differ)

    here : attrs_at new number ≡ None
    here = ap (option_map (λ (shared : Shared). shared.attrs)) sets.changed

    before : attrs_at old number ≡ Some shared.attrs
    before = ap (option_map (λ (shared : Shared). shared.attrs)) was

    none : {X : Type 0} (x : X) → None ≡ Some x → ⊥
    none x e = cc

    inner : {X : Type 0} (x y : X) → Some x ≡ Some y → x ≡ y
    inner x y e = cc

    at_itself : number_of fewer shared.attrs ≡ None
    at_itself = updates shared.attrs ∙ ap (λ b. cond b None (number_of numbers shared.attrs)) ((attrs_eq-Decides shared.attrs shared.attrs).1 refl)

    at_another : (key : Attrs) → shared.attrs ≢ key → number_of fewer key ≡ number_of numbers key
    at_another key differ = updates key ∙ ap (λ b. cond b None (number_of numbers key)) (false_from_ne_true _ (λ e. differ ((attrs_eq-Decides shared.attrs key).0 e)))

    not_itself : (key : Attrs) (other : ℕ) → number_of fewer key ≡ Some other → shared.attrs ≢ key
    not_itself key other is same = none other (sym at_itself ∙ subst (λ k. number_of fewer k ≡ Some other) (sym same) is)

    found : (key : Attrs) (other : ℕ) → number_of fewer key ≡ Some other → attrs_at new other ≡ Some key
    found key other is =
        let differ = not_itself key other is in
        let held = kept.found key other (sym (at_another key differ) ∙ is) in
        there other (λ e. differ (inner _ _ (sym before ∙ subst (λ n. attrs_at old n ≡ Some key) e held))) ∙ held

    known : (key : Attrs) (other : ℕ) → attrs_at new other ≡ Some key → number_of fewer key ≡ Some other
    known key other is = elim (cases_eq other number) [
      | inl e ↦ absurd (none key (sym here ∙ subst (λ n. attrs_at new n ≡ Some key) e is))
      | inr differ ↦
          let held = sym (there other differ) ∙ is in
          at_another key (λ same. differ (sym (inner _ _ (sym (kept.known shared.attrs number before) ∙ ap (λ k. number_of numbers k) same ∙ kept.known key other held)))) ∙ kept.known key other held
    ]

    used : (other : ℕ) (one : Shared) → shared_at new other ≡ Some one → 0 < one.uses
    used other one is = elim (cases_eq other number) [
      | inl e ↦ absurd (none one (sym sets.changed ∙ subst (λ n. shared_at new n ≡ Some one) e is))
      | inr differ ↦ kept.used other one (sym (sets.others other differ) ∙ is)
    ]

-- what stands in a slot of the table as it is seen is in use
pub used_in : (table now : Table) (entries : List (Attrs × ℕ)) → IsKept table entries → table ≡ now → (number : ℕ) (shared : Shared) → shared_at now number ≡ Some shared → 0 < shared.uses
used_in table now entries kept same number shared is = kept.used number shared (ap (λ t. shared_at t number) same ∙ is)
