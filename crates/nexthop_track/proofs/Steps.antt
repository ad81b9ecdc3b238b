-- What a turn of a loop over addresses adds.
use Rattle.std.proofs.Common.{◌≡◌, List, [], ◌∷◌, ◌++◌, Option, Some, None, Result, Ok, Err, IfOk, refl, sym, ap, ◌∙◌, append_assoc}
use Rattle.std.proofs.lemmas.List.{append-nil}
use Rattle.std.specs.List.{filter_map, cons_option}

module _ {A B : Type 0} (give : A → Option B) (xs : List B) (a : A) (left more : List A) (all : List B) where
  -- an address that gives nothing
  pub passed_over : xs ++ filter_map give left ≡ all → left ≡ a ∷ more → give a ≡ None → xs ++ filter_map give more ≡ all
  passed_over so_far first none = sym (ap (λ l. xs ++ filter_map give l) first ∙ ap (λ o. xs ++ cons_option o (filter_map give more)) none) ∙ so_far

  -- an address that gives one
  pub added : xs ++ filter_map give left ≡ all → left ≡ a ∷ more → (b : B) → give a ≡ Some b → (ys : List B) → ys ≡ xs ++ b ∷ [] → ys ++ filter_map give more ≡ all
  added so_far first b some ys is =
      ap (λ l. l ++ filter_map give more) is ∙ append_assoc xs (b ∷ []) (filter_map give more)
      ∙ sym (ap (λ l. xs ++ filter_map give l) first ∙ ap (λ o. xs ++ cons_option o (filter_map give more)) some) ∙ so_far

pub all_done : {A B : Type 0} (give : A → Option B) (xs : List B) (left : List A) (all : List B) → xs ++ filter_map give left ≡ all → left ≡ [] → xs ≡ all
all_done give xs left all so_far end = sym (append-nil xs) ∙ sym (ap (λ l. xs ++ filter_map give l) end) ∙ so_far

pub if_ok_map : {T E : Type 0} {P Q : T → Type 0} (r : Result T E) → ((x : T) → P x → Q x) → IfOk r P → IfOk r Q
if_ok_map (Ok x) f h = f x h
if_ok_map (Err e) f h = h
