-- What a step on one number means for the uses of all numbers.
use Rattle.std.proofs.Common.{◌≡◌, ◌≢◌, ℕ, ◌+◌, ◌<◌, ◌==◌, cond, inl, inr, [], ◌∷◌, Option, Some, None, option_map, refl, sym, ap, ◌∙◌, arith, subst}
use Rattle.std.specs.Prelude.{unwrap_or, Result, Ok, Err, IfOk, OnOk}
use Rattle.std.proofs.lemmas.Bool.{cases_eq, false_from_ne_true}
use Rattle.std.proofs.lemmas.Bool.Decides.{Decides-eqb}
use Rattle.std.proofs.lemmas.List.Sums.{sum_by-cons}
use Rattle.attr_model.specs.declared.attrs.Attrs.{Attrs}
use Rattle.attr_model.specs.Numbered.{Numbered}
use Rattle.attr_intern.specs.declared.table.Shared.{Shared}
use Rattle.attr_intern.specs.Table.{Table, shared_at, attrs_at, uses_at, times, IsOf, Hands, TakesBack}
use Rattle.attr_intern.specs.Kept.{Sets, first_of, one_less, one_more}

-- ---- a reference alone

abbrev pub of_one : ℕ → Attrs → Numbered
of_one number attrs = record { number = number; attrs = attrs }

times_alone : (number : ℕ) (one : Numbered) → times number (one ∷ []) ≡ cond (one.number == number) 1 0
times_alone number one = sum_by-cons (λ (one : Numbered). cond (one.number == number) 1 0) one [] ∙ omega arith

pub times_itself : (number : ℕ) (one : Numbered) → one.number ≡ number → times number (one ∷ []) ≡ 1
times_itself number one same = times_alone number one ∙ ap (λ b. cond b 1 0) ((Decides-eqb one.number number).1 same)

pub times_another : (number : ℕ) (one : Numbered) → one.number ≢ number → times number (one ∷ []) ≡ 0
times_another number one differ = times_alone number one ∙ ap (λ b. cond b 1 0) (false_from_ne_true _ (λ e. differ ((Decides-eqb one.number number).0 e)))

-- ---- what a number has where its slot is known

uses_from : (table : Table) (number : ℕ) (shared : Option Shared) → shared_at table number ≡ shared → uses_at table number ≡ unwrap_or (option_map (λ shared. shared.uses) shared) 0
uses_from table number shared is = ap (λ (shared : Option Shared). unwrap_or (option_map (λ shared. shared.uses) shared) 0) is

attrs_from : (table : Table) (number : ℕ) (shared : Option Shared) → shared_at table number ≡ shared → attrs_at table number ≡ option_map (λ shared. shared.attrs) shared
attrs_from table number shared is = ap (option_map (λ (shared : Shared). shared.attrs)) is

-- ---- one use more

pub hands_one : (old new : Table) (one : Numbered) (shared : Shared) → Sets old new one.number (Some shared) → shared.attrs ≡ one.attrs → shared.uses ≡ uses_at old one.number + 1
    → ((attrs : Attrs) → attrs_at old one.number ≡ Some attrs → attrs ≡ one.attrs)
    → Hands old new (one ∷ [])
hands_one old new one shared sets same uses held = record {
  each = (attrs_from new one.number (Some shared) sets.changed ∙ ap Some same, tt);
  uses = λ number. elim (cases_eq one.number number) [
    | inl e ↦ counted number e
    | inr differ ↦
        uses_from new number (shared_at old number) (sets.others number (λ e. differ (sym e)))
        ∙ omega (arith, times_another number one differ)
  ];
  stays = λ number attrs is. elim (cases_eq number one.number) [
    | inl e ↦
        subst (λ n. attrs_at new n ≡ Some attrs) (sym e)
        (attrs_from new one.number (Some shared) sets.changed ∙ ap Some (same ∙ sym (held attrs (subst (λ n. attrs_at old n ≡ Some attrs) e is))))
    | inr differ ↦ attrs_from new number (shared_at old number) (sets.others number differ) ∙ is
  ];
}
  where
    counted : (number : ℕ) → one.number ≡ number → uses_at new number ≡ uses_at old number + times number (one ∷ [])
    counted number e =
        subst (λ n. uses_at new n ≡ uses_at old n + times n (one ∷ [])) e
        (uses_from new one.number (Some shared) sets.changed ∙ omega (arith, uses, times_itself one.number one refl))

hands_counted : (old new : Table) (one : Numbered) (was : Option Shared) → shared_at old one.number ≡ was → attrs_at old one.number ≡ Some one.attrs → Sets old new one.number (option_map one_more was) → Hands old new (one ∷ [])
hands_counted old new one None was of sets = absurd (none (sym (attrs_from old one.number None was) ∙ of))
  where
    none : None ≡ Some one.attrs → ⊥
    none e = cc
hands_counted old new one (Some shared) was of sets =
    hands_one old new one (one_more shared) sets (inner (sym (attrs_from old one.number (Some shared) was) ∙ of)) (omega (arith, uses_from old one.number (Some shared) was)) (λ attrs is. another attrs (sym is ∙ of))
  where
    inner : Some shared.attrs ≡ Some one.attrs → shared.attrs ≡ one.attrs
    inner e = cc

    another : (attrs : Attrs) → Some attrs ≡ Some one.attrs → attrs ≡ one.attrs
    another attrs e = cc

hands_first : (old new : Table) (one : Numbered) → shared_at old one.number ≡ None → Sets old new one.number (Some (first_of one.attrs)) → Hands old new (one ∷ [])
hands_first old new one free sets = hands_one old new one (first_of one.attrs) sets refl (omega (arith, uses_from old one.number None free)) (λ attrs is. absurd (none attrs (sym (attrs_from old one.number None free) ∙ is)))
  where
    none : (attrs : Attrs) → None ≡ Some attrs → ⊥
    none attrs e = cc

-- a use more of a number, as its caller sees it
pub hands_again : {E : Type 0} (old new : Table) (number : ℕ) (r : Result Numbered E) → IfOk r (λ one. one.number ≡ number) → IfOk r (λ one. attrs_at old number ≡ Some one.attrs) → OnOk r (Sets old new number (option_map one_more (shared_at old number)))
    → IfOk r (λ one. Hands old new (one ∷ []))
hands_again old new number (Ok one) same of sets =
    hands_counted old new one (shared_at old one.number) refl (subst (λ n. attrs_at old n ≡ Some one.attrs) (sym same) of) (subst (λ n. Sets old new n (option_map one_more (shared_at old n))) (sym same) sets)
hands_again old new number (Err e) same of sets = tt

-- the first use of attributes, as its caller sees it
pub hands_new : {E : Type 0} (old new : Table) (attrs : Attrs) (r : Result Numbered E) → IfOk r (λ one. one.attrs ≡ attrs) → IfOk r (λ one. shared_at old one.number ≡ None) → IfOk r (λ one. Sets old new one.number (Some (first_of attrs)))
    → IfOk r (λ one. Hands old new (one ∷ []))
hands_new old new attrs (Ok one) same free sets = hands_first old new one free (subst (λ a. Sets old new one.number (Some (first_of a))) (sym same) sets)
hands_new old new attrs (Err e) same free sets = tt

-- ---- one use less

pub takes_one : (old new : Table) (one : Numbered) (shared : Option Shared) → Sets old new one.number shared → IsOf old one
    → uses_at old one.number ≡ unwrap_or (option_map (λ shared. shared.uses) shared) 0 + 1
    → (0 < unwrap_or (option_map (λ shared. shared.uses) shared) 0 → option_map (λ shared. shared.attrs) shared ≡ Some one.attrs)
    → (unwrap_or (option_map (λ shared. shared.uses) shared) 0 ≡ 0 → shared ≡ None)
    → ((number : ℕ) → uses_at old number ≡ 0 → attrs_at old number ≡ None)
    → TakesBack old new (one ∷ [])
takes_one old new one shared sets of uses same free old_free = record {
  uses = λ number. elim (cases_eq one.number number) [
    | inl e ↦ counted number e
    | inr differ ↦
        sym (uses_from new number (shared_at old number) (sets.others number (λ e. differ (sym e))))
        ∙ omega (arith, times_another number one differ)
  ];
  stays = λ number some. elim (cases_eq number one.number) [
    | inl e ↦ kept number e some
    | inr differ ↦ attrs_from new number (shared_at old number) (sets.others number differ)
  ];
  free = λ number nothing. elim (cases_eq number one.number) [
    | inl e ↦ freed number e nothing
    | inr differ ↦
        attrs_from new number (shared_at old number) (sets.others number differ)
        ∙ old_free number (sym (uses_from new number (shared_at old number) (sets.others number differ)) ∙ nothing)
  ];
}
  where
    counted : (number : ℕ) → one.number ≡ number → uses_at old number ≡ uses_at new number + times number (one ∷ [])
    counted number e =
        subst (λ n. uses_at old n ≡ uses_at new n + times n (one ∷ [])) e
        (omega (arith, uses, uses_from new one.number shared sets.changed, times_itself one.number one refl))

    kept : (number : ℕ) → number ≡ one.number → 0 < uses_at new number → attrs_at new number ≡ attrs_at old number
    kept number e =
        subst (λ n. 0 < uses_at new n → attrs_at new n ≡ attrs_at old n) (sym e)
        (λ some. attrs_from new one.number shared sets.changed ∙ same (subst (λ n. 0 < n) (uses_from new one.number shared sets.changed) some) ∙ sym of)

    freed : (number : ℕ) → number ≡ one.number → uses_at new number ≡ 0 → attrs_at new number ≡ None
    freed number e =
        subst (λ n. uses_at new n ≡ 0 → attrs_at new n ≡ None) (sym e)
        (λ nothing. attrs_from new one.number shared sets.changed ∙ ap (option_map (λ (shared : Shared). shared.attrs)) (free (sym (uses_from new one.number shared sets.changed) ∙ nothing)))

-- a number without a use stands for nothing
pub old_free : (table : Table) → ((number : ℕ) (shared : Shared) → shared_at table number ≡ Some shared → 0 < shared.uses) → (number : ℕ) (was : Option Shared) → shared_at table number ≡ was → uses_at table number ≡ 0 → attrs_at table number ≡ None
old_free table used number None was nothing = attrs_from table number None was
old_free table used number (Some shared) was nothing = absurd (omega (arith, used number shared was, uses_from table number (Some shared) was, nothing))

-- the last use of a number goes
pub takes_last : (old new : Table) (one : Numbered) → ((number : ℕ) (shared : Shared) → shared_at old number ≡ Some shared → 0 < shared.uses) → IsOf old one → uses_at old one.number ≡ 1 → Sets old new one.number None → TakesBack old new (one ∷ [])
takes_last old new one used of last sets = takes_one old new one None sets of last (λ some. absurd (omega (arith, some))) (λ nothing. refl) (λ number. old_free old used number (shared_at old number) refl)

-- a use of several goes
pub takes_less : (old new : Table) (one : Numbered) (was : Option Shared) → shared_at old one.number ≡ was → ((number : ℕ) (shared : Shared) → shared_at old number ≡ Some shared → 0 < shared.uses) → IsOf old one → 1 < uses_at old one.number
    → Sets old new one.number (option_map one_less was) → TakesBack old new (one ∷ [])
takes_less old new one None was used of more sets = absurd (omega (arith, more, uses_from old one.number None was))
takes_less old new one (Some shared) was used of more sets =
    let uses = uses_from old one.number (Some shared) was in
    takes_one old new one (Some (one_less shared)) sets of (omega (arith, uses, more)) (λ some. sym (attrs_from old one.number (Some shared) was) ∙ of) (λ nothing. absurd (omega (arith, uses, more, nothing)))
    (λ number. old_free old used number (shared_at old number) refl)

-- what a reference came from is in use
pub used_once_or_more : (table : Table) (one : Numbered) (was : Option Shared) → shared_at table one.number ≡ was → ((number : ℕ) (shared : Shared) → shared_at table number ≡ Some shared → 0 < shared.uses) → IsOf table one → 0 < uses_at table one.number
used_once_or_more table one None was used of = absurd (none (sym (attrs_from table one.number None was) ∙ of))
  where
    none : None ≡ Some one.attrs → ⊥
    none e = cc
used_once_or_more table one (Some shared) was used of = omega (arith, uses_from table one.number (Some shared) was, used one.number shared was)
