-- One kernel table more is coupled.
use Rattle.std.proofs.Common.{◌≡◌, ◌∙◌, ℕ, ◌+◌, Bool, true, false, cond, List, [], ◌∷◌, ◌++◌, append_assoc, map, filter, refl, ap, sym, arith}
use Rattle.std.proofs.lemmas.List.Elements.{filter-append}
use Rattle.std.proofs.lemmas.List.FromFn.{map-range_with_len_more}
use Rattle.std.specs.List.{range_with_len}

map_same : (ns : List ℕ) → map (λ n. n) ns ≡ ns
map_same [] = refl
map_same (n ∷ ns) = ap (λ (rest : List ℕ). n ∷ rest) (map_same ns)

range_more : (n : ℕ) → range_with_len 0 (n + 1) ≡ range_with_len 0 n ++ n ∷ []
range_more n =
    sym (map_same (range_with_len 0 (n + 1))) ∙ map-range_with_len_more (λ n. n) 0 n n (omega arith) ∙ ap (λ (ns : List ℕ). ns ++ n ∷ []) (map_same (range_with_len 0 n))

map_more : {X : Type 0} (f : ℕ → X) (ms ns : List ℕ) → map f (ms ++ ns) ≡ map f ms ++ map f ns
map_more f [] ns = refl
map_more {X} f (m ∷ ms) ns = ap (λ (rest : List X). f m ∷ rest) (map_more f ms ns)

one_more : {X : Type 0} (p : ℕ → Bool) (f : ℕ → X) (n : ℕ) → map f (filter p (n ∷ [])) ≡ cond (p n) (f n ∷ []) []
one_more {X} p f n = go (p n)
  where
    go : (b : Bool) → map f (cond b (n ∷ []) []) ≡ cond b (f n ∷ []) []
    go true = refl
    go false = refl

couple_more : {X : Type 0} (p : ℕ → Bool) (f : ℕ → X) (n : ℕ)
    → map f (filter p (range_with_len 0 (n + 1))) ≡ map f (filter p (range_with_len 0 n)) ++ cond (p n) (f n ∷ []) []
couple_more {X} p f n =
    ap (λ (ns : List ℕ). map f (filter p ns)) (range_more n)
    ∙ ap (λ (ns : List ℕ). map f ns) (filter-append p (range_with_len 0 n) (n ∷ []))
    ∙ map_more f (filter p (range_with_len 0 n)) (filter p (n ∷ []))
    ∙ ap (λ (rest : List X). map f (filter p (range_with_len 0 n)) ++ rest) (one_more p f n)

pub coupled_more : {X : Type 0} (p : ℕ → Bool) (f : ℕ → X) (n : ℕ) (was so_far new : List X) (b : Bool)
    → new ≡ so_far ++ cond b (f n ∷ []) [] → b ≡ p n → so_far ≡ was ++ map f (filter p (range_with_len 0 n))
    → new ≡ was ++ map f (filter p (range_with_len 0 (n + 1)))
coupled_more {X} p f n was so_far new b put is stood =
    put
    ∙ ap (λ (wanted : Bool). so_far ++ cond wanted (f n ∷ []) []) is
    ∙ ap (λ (frames : List X). frames ++ cond (p n) (f n ∷ []) []) stood
    ∙ append_assoc was (map f (filter p (range_with_len 0 n))) (cond (p n) (f n ∷ []) [])
    ∙ ap (λ (rest : List X). was ++ rest) (sym (couple_more p f n))
