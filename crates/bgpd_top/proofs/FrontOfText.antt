-- A configuration text is judged by the bytes up to its limit and by whether there is one more.
use Rattle.std.proofs.Common.{◌≡◌, ℕ, zero, suc, ◌<◌, ◌≤◌, List, [], ◌∷◌, length, take, nat_lt, refl, sym, ap, ◌∙◌, arith, inl, inr}
use Rattle.std.specs.Prelude.{min}
use Rattle.std.proofs.lemmas.Bool.{cases_lt, lt-ltb}
use Rattle.std.proofs.lemmas.List.{length-take}
use Rattle.conf_tree.specs.Tokens.{tokens}
use Rattle.conf_tree.specs.Language.{draft_within, configuration_within, configuration}

-- the front of a longer front
take_front : {A : Type 0} (n : ℕ) (xs : List A) → take n (take (suc n) xs) ≡ take n xs
take_front zero xs = refl
take_front (suc n) [] = refl
take_front (suc n) (x ∷ xs) = ap (λ front. x ∷ front) (take_front n xs)

-- whether one more stands behind a front
one_less : (n m : ℕ) → n < m → nat_lt n (min (suc n) m) ≡ nat_lt n m
one_less n m lt = lt-ltb n (min (suc n) m) (omega (arith, lt)) ∙ sym (lt-ltb n m lt)

none_left : (n m : ℕ) → m ≤ n → nat_lt n (min (suc n) m) ≡ nat_lt n m
none_left n m le =
    let e : min (suc n) m ≡ m = omega (arith, le) in
    ap (nat_lt n) e

least : (n m : ℕ) → nat_lt n (min (suc n) m) ≡ nat_lt n m
least n m = elim (cases_lt n m) [ inl lt ↦ one_less n m lt | inr le ↦ none_left n m le ]

one_more : {A : Type 0} (n : ℕ) (xs : List A) → nat_lt n (length (take (suc n) xs)) ≡ nat_lt n (length xs)
one_more n xs = ap (nat_lt n) (length-take (suc n) xs) ∙ least n (length xs)

pub front_tokens : (limit : ℕ) (text : List ℕ) → tokens limit (take (suc limit) text) ≡ tokens limit text
unfolding tokens
front_tokens limit text = rw (take_front limit text, one_more limit text) refl

pub front_says : (text : List ℕ) → configuration (take 1048577 text) ≡ configuration text
unfolding draft_within configuration_within
front_says text = rw (front_tokens 1048576 text) refl
