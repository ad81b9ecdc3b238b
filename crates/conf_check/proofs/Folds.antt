-- Folds over lists that are joined.
use Rattle.std.proofs.Common.{◌≡◌, ◌∙◌, ℕ, ◌+◌, ◌<◌, suc, List, ◌∷◌, length, drop, get_or, sym, ap, add-one}
use Rattle.std.proofs.Math.Seq.{drop-cons}
use Rattle.std.specs.Prelude.{fold, flat_map}
use Rattle.std.proofs.lemmas.List.Sums.{fold-append}

-- the rest of a list from a place on: the item there, and what is behind it
pub drop_item : {A : Type 0} (xs : List A) (i : ℕ) (x : A) → i < length xs → x ≡ get_or xs i x → drop i xs ≡ x ∷ drop (i + 1) xs
drop_item xs i x inside is = drop-cons xs i x inside ∙ ap (λ y. y ∷ drop (suc i) xs) (sym is) ∙ ap (λ n. x ∷ drop n xs) (sym (add-one i))

-- a fold over what each item gives, where one item's part was folded
pub fold_step : {S A B : Type 0} (f : B → A → B) (part : S → List A) (xs : List S) (i : ℕ) (x : S) (before behind all : B) → i < length xs → x ≡ get_or xs i x
    → behind ≡ fold f before (part x) → fold f before (flat_map part (drop i xs)) ≡ all → fold f behind (flat_map part (drop (i + 1) xs)) ≡ all
fold_step f part xs i x before behind all inside is now whole =
    ap (λ b. fold f b (flat_map part (drop (i + 1) xs))) now
    ∙ sym (fold-append f before (part x) (flat_map part (drop (i + 1) xs)))
    ∙ sym (ap (λ ys. fold f before (flat_map part ys)) (drop_item xs i x inside is))
    ∙ whole
