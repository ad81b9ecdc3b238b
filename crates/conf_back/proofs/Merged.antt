-- Some entries of a list that is in order, put in by their keys beside others of it, come into its order.
use Rattle.std.proofs.Common.{◌≡◌, ◌∙◌, Bool, true, false, cond, ◌||◌, List, [], ◌∷◌, ◌++◌, map, filter, flat_map, fold, refl, sym, ap}
use Rattle.std.specs.List.{AllByRecursion, list_any}
use Rattle.std.specs.List.Sorted.{IsStrictlySortedBy}
use Rattle.std.specs.BTreeMap.{insert_entry}
use Rattle.std.specs.Cmp.{IsTotalOrder}
use Rattle.std.specs.Ordering.{match_ordering, on, ordering_reverse}
use Rattle.std.specs.declared.cmp.Ordering.{Ordering}
use Rattle.std.specs.declared.cmp.Ordering.TheVariants.{Less, Equal, Greater}
use Rattle.std.proofs.lemmas.List.{map-append}
use Rattle.std.proofs.lemmas.Grind.{fold-append}
use Rattle.conf_tree.specs.Flat.{with_entry, by_key}

-- what holds of all holds of those that pass a test
pub all_filter : {A : Type 0} (P : A → Type 0) (p : A → Bool) (xs : List A) → AllByRecursion P xs → AllByRecursion P (filter p xs)
all_filter P p [] all = tt
all_filter P p (x ∷ xs) all = by (p x) (all_filter P p xs all.1)
  where
    by : (b : Bool) → AllByRecursion P (filter p xs) → AllByRecursion P (cond b (x ∷ filter p xs) (filter p xs))
    by true behind = (all.0, behind)
    by false behind = behind

pub passing : {A : Type 0} (p : A → Bool) (xs : List A) → AllByRecursion (λ x. p x ≡ true) (filter p xs)
passing p [] = tt
passing p (x ∷ xs) = by (p x) refl (passing p xs)
  where
    by : (b : Bool) → p x ≡ b → AllByRecursion (λ x. p x ≡ true) (filter p xs) → AllByRecursion (λ x. p x ≡ true) (cond b (x ∷ filter p xs) (filter p xs))
    by true is behind = (is, behind)
    by false is behind = behind

-- where all pass the test, none is left out
pub all_kept : {A : Type 0} (p : A → Bool) (xs : List A) → AllByRecursion (λ x. p x ≡ true) xs → filter p xs ≡ xs
all_kept p [] all = refl
all_kept p (x ∷ xs) all = rw all.0 (ap (λ (ys : List _). x ∷ ys) (all_kept p xs all.1))

pub or_false : (a : Bool) → (a || false) ≡ a
or_false true = refl
or_false false = refl

pub or_assoc : (a b c : Bool) → ((a || b) || c) ≡ (a || (b || c))
or_assoc true b c = refl
or_assoc false b c = refl

module _ {K A : Type 0} (R : K → K → Ordering) (o : IsTotalOrder R) (key : A → K) where
  abbrev entry : A → K × A
  entry x = (key x, x)

  abbrev entries : List A → List (K × A)
  entries xs = map entry xs

  -- entries with these put in
  abbrev put : List (K × A) → List A → List (K × A)
  put es xs = fold (with_entry R) es (entries xs)

  abbrev IsBelow : A → List A → Type 0
  IsBelow x ys = AllByRecursion (λ y. R (key x) (key y) ≡ Less) ys

  goes_first : (x : A) (ys : List A) → IsBelow x ys → insert_entry R (entries ys) (key x) x ≡ entries (x ∷ ys)
  goes_first x [] below = refl
  goes_first x (y ∷ ys) below = rw below.0 refl

  ties : (k : K) → R k k ≡ Equal
  ties k = by (R k k) (o.antisymm k k)
    where
      by : (r : Ordering) → r ≡ ordering_reverse r → r ≡ Equal
      by Less e = absurd (cc)
      by Equal e = refl
      by Greater e = absurd (cc)

  goes_again : (x : A) (es : List (K × A)) → insert_entry R (entry x ∷ es) (key x) x ≡ entry x ∷ es
  goes_again x es = rw (ties (key x)) refl

  above : (x y : A) → R (key x) (key y) ≡ Less → R (key y) (key x) ≡ Greater
  above x y below = o.antisymm (key y) (key x) ∙ ap ordering_reverse below

  stays_first : (x : A) (es : List (K × A)) (ys : List A) → IsBelow x ys → put (entry x ∷ es) ys ≡ entry x ∷ put es ys
  stays_first x es [] below = refl
  stays_first x es (y ∷ ys) below =
      ap (λ (r : Ordering). put (match_ordering r ((key y, y) ∷ entry x ∷ es) ((key x, y) ∷ es) (entry x ∷ insert_entry R es (key y) y)) ys) (above x y below.0)
      ∙ stays_first x (insert_entry R es (key y) y) ys below.1

  both : (p q : A → Bool) (xs : List A) → IsStrictlySortedBy (on key R) xs → put (entries (filter p xs)) (filter q xs) ≡ entries (filter (λ x. p x || q x) xs)
  unfolding IsStrictlySortedBy
  both p q [] strict = refl
  both p q (x ∷ xs) strict = by (p x) (q x) (both p q xs strict.1)
    where
      joined : A → Bool
      joined y = p y || q y

      first : put (entries (filter p xs)) (filter q xs) ≡ entries (filter joined xs) → put (entries (x ∷ filter p xs)) (filter q xs) ≡ entries (x ∷ filter joined xs)
      first behind = stays_first x (entries (filter p xs)) (filter q xs) (all_filter (λ y. R (key x) (key y) ≡ Less) q xs strict.0) ∙ ap (λ (es : List (K × A)). entry x ∷ es) behind

      by : (a b : Bool) → put (entries (filter p xs)) (filter q xs) ≡ entries (filter joined xs)
          → put (entries (cond a (x ∷ filter p xs) (filter p xs))) (cond b (x ∷ filter q xs) (filter q xs)) ≡ entries (cond (a || b) (x ∷ filter joined xs) (filter joined xs))
      by true true behind = ap (λ (es : List (K × A)). put es (filter q xs)) (goes_again x (entries (filter p xs))) ∙ first behind
      by true false behind = first behind
      by false true behind = ap (λ (es : List (K × A)). put es (filter q xs)) (goes_first x (filter p xs) (all_filter (λ y. R (key x) (key y) ≡ Less) p xs strict.0)) ∙ first behind
      by false false behind = behind

  module _ {B : Type 0} (q : B → A → Bool) (xs : List A) (strict : IsStrictlySortedBy (on key R) xs) where
    parts : (p : A → Bool) (bs : List B) → put (entries (filter p xs)) (flat_map (λ b. filter (q b) xs) bs) ≡ entries (filter (λ x. p x || list_any (λ b. q b x) bs) xs)
    parts p [] = ap (λ (t : A → Bool). entries (filter t xs)) (λ i x. sym (or_false (p x)) i)
    parts p (b ∷ bs) =
        let others : List A = flat_map (λ b. filter (q b) xs) bs in
        ap (fold (with_entry R) (entries (filter p xs))) (map-append entry (filter (q b) xs) others)
        ∙ fold-append (with_entry R) (entries (filter p xs)) (entries (filter (q b) xs)) (entries others)
        ∙ ap (λ (es : List (K × A)). put es others) (both p (q b) xs strict)
        ∙ parts (λ x. p x || q b x) bs
        ∙ ap (λ (t : A → Bool). entries (filter t xs)) (λ i x. or_assoc (p x) (q b x) (list_any (λ b. q b x) bs) i)

    nothing : (ys : List A) → filter (λ _. false) ys ≡ []
    nothing [] = refl
    nothing (y ∷ ys) = nothing ys

    alone : (p : A → Bool) → put [] (filter p xs) ≡ entries (filter p xs)
    alone p = ap (λ (ys : List A). put (entries ys) (filter p xs)) (sym (nothing xs)) ∙ both (λ _. false) p xs strict

    pub merged : (p : A → Bool) (bs : List B) → AllByRecursion (λ x. (p x || list_any (λ b. q b x) bs) ≡ true) xs
        → by_key R (entries (filter p xs ++ flat_map (λ b. filter (q b) xs) bs)) ≡ entries xs
    merged p bs covered =
        let others : List A = flat_map (λ b. filter (q b) xs) bs in
        ap (fold (with_entry R) []) (map-append entry (filter p xs) others)
        ∙ fold-append (with_entry R) [] (entries (filter p xs)) (entries others)
        ∙ ap (λ (es : List (K × A)). put es others) (alone p)
        ∙ parts p bs
        ∙ ap entries (all_kept (λ x. p x || list_any (λ b. q b x) bs) xs covered)
