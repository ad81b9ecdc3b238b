-- The references in the entries of a map, where one entry changes.
use Rattle.std.proofs.Common.{◌≡◌, ℕ, ◌+◌, ◌==◌, Bool, true, false, cond, List, [], ◌∷◌, ◌++◌, Option, Some, None, refl, sym, ap, ◌∙◌, arith}
use Rattle.std.specs.Prelude.{flat_map, unwrap_or, option_map}
use Rattle.std.specs.List.{AllByRecursion, sum_by}
use Rattle.std.specs.Map.{lookup, set_value, remove_entry, values_of}
use Rattle.std.specs.BTreeMap.{insert_entry, is_at}
use Rattle.std.specs.Ordering.{match_ordering, is_eq}
use Rattle.std.specs.declared.cmp.Ordering.{Ordering}
use Rattle.std.specs.declared.cmp.Ordering.TheVariants.{Less, Equal, Greater}
use Rattle.std.proofs.lemmas.List.Sums.{sum_by-append, sum_by-cons}
use Rattle.std.proofs.lemmas.Map.Entries.{sum_by-set_value, sum_by-remove_entry}
use Rattle.attr_model.specs.Numbered.{Numbered}
use Rattle.attr_intern.specs.Table.{times}

pub times-append : (number : ℕ) (xs ys : List Numbered) → times number (xs ++ ys) ≡ times number xs + times number ys
times-append number xs ys = sum_by-append (λ (one : Numbered). cond (one.number == number) 1 0) xs ys

pub all-append : (P : Numbered → Type 0) (xs ys : List Numbered) → AllByRecursion P xs → AllByRecursion P ys → AllByRecursion P (xs ++ ys)
all-append P [] ys a b = b
all-append P (x ∷ xs) ys a b = (a.0, all-append P xs ys a.1 b)

pub all-front : (P : Numbered → Type 0) (xs ys : List Numbered) → AllByRecursion P (xs ++ ys) → AllByRecursion P xs
all-front P [] ys a = tt
all-front P (x ∷ xs) ys a = (a.0, all-front P xs ys a.1)

pub all-back : (P : Numbered → Type 0) (xs ys : List Numbered) → AllByRecursion P (xs ++ ys) → AllByRecursion P ys
all-back P [] ys a = a
all-back P (x ∷ xs) ys a = all-back P xs ys a.1

pub some_none : {X : Type 0} (x : X) → Some x ≡ None → ⊥
some_none x e = cc

some_some : {X : Type 0} (x y : X) → Some x ≡ Some y → x ≡ y
some_some x y e = cc

module _ {X : Type 0} (f : X → List Numbered) where
  -- the references of an entry, where there is one
  abbrev pub f_of : Option X → List Numbered
  f_of None = []
  f_of (Some x) = f x

  f_of-times : (number : ℕ) (o : Option X) → times number (f_of o) ≡ unwrap_or (option_map (λ x. times number (f x)) o) 0
  f_of-times number None = refl
  f_of-times number (Some x) = refl

module _ {K X : Type 0} (f : X → List Numbered) where
  -- the references in entries
  abbrev pub held : List (K × X) → List Numbered
  held entries = flat_map (λ entry. f entry.1) entries

  pub held-count : (number : ℕ) (es : List (K × X)) → times number (held es) ≡ sum_by (λ x. times number (f x)) (values_of es)
  held-count number [] = refl
  held-count number (e ∷ es) =
      times-append number (f e.1) (held es) ∙ ap (λ n. times number (f e.1) + n) (held-count number es) ∙ sym (sum_by-cons (λ x. times number (f x)) e.1 (values_of es))

  module _ (test : K → Bool) where
    -- an entry with the same references in the place of another
    pub held-set : (es : List (K × X)) (v w : X) → lookup test es ≡ Some v → f w ≡ f v → held (set_value test es w) ≡ held es
    held-set [] v w found same = refl
    held-set (e ∷ es) v w found same = go (test e.0) (λ there. held-set es v w there same) found
      where
        go : (b : Bool) → (lookup test es ≡ Some v → held (set_value test es w) ≡ held es) → cond b (Some e.1) (lookup test es) ≡ Some v
            → held (cond b ((e.0, w) ∷ es) (e ∷ set_value test es w)) ≡ f e.1 ++ held es
        go true rest here = ap (λ ones. ones ++ held es) (same ∙ ap f (sym (some_some e.1 v here)))
        go false rest here = ap (λ ones. f e.1 ++ ones) (rest here)

    -- one reference for another
    pub held-swap : (number : ℕ) (es : List (K × X)) (v w : X) → lookup test es ≡ Some v → times number (held (set_value test es w)) + times number (f v) ≡ times number (held es) + times number (f w)
    held-swap number es v w found = omega (arith, held-count number (set_value test es w), held-count number es, sum_by-set_value (λ x. times number (f x)) test es v w found)

    -- an entry without references goes
    pub held-remove : (es : List (K × X)) → f_of f (lookup test es) ≡ [] → held (remove_entry test es) ≡ held es
    held-remove [] none = refl
    held-remove (e ∷ es) none = go (test e.0) (λ there. held-remove es there) none
      where
        go : (b : Bool) → (f_of f (lookup test es) ≡ [] → held (remove_entry test es) ≡ held es) → f_of f (cond b (Some e.1) (lookup test es)) ≡ []
            → held (cond b es (e ∷ remove_entry test es)) ≡ f e.1 ++ held es
        go true rest here = ap (λ ones. ones ++ held es) (sym here)
        go false rest here = ap (λ ones. f e.1 ++ ones) (rest here)

    -- an entry goes with its references
    pub held-less : (number : ℕ) (es : List (K × X)) → times number (held (remove_entry test es)) + times number (f_of f (lookup test es)) ≡ times number (held es)
    held-less number es = omega (arith, held-count number (remove_entry test es), held-count number es, sum_by-remove_entry (λ x. times number (f x)) test es, f_of-times f number (lookup test es))

    pub all-set : (P : Numbered → Type 0) (es : List (K × X)) (w : X) → AllByRecursion P (held es) → AllByRecursion P (f w) → AllByRecursion P (held (set_value test es w))
    all-set P [] w all new = tt
    all-set P (e ∷ es) w all new = go (test e.0) (all-set P es w (all-back P (f e.1) (held es) all) new)
      where
        go : (b : Bool) → AllByRecursion P (held (set_value test es w)) → AllByRecursion P (held (cond b ((e.0, w) ∷ es) (e ∷ set_value test es w)))
        go true rest = all-append P (f w) (held es) new (all-back P (f e.1) (held es) all)
        go false rest = all-append P (f e.1) (held (set_value test es w)) (all-front P (f e.1) (held es) all) rest

    pub all-remove : (P : Numbered → Type 0) (es : List (K × X)) → AllByRecursion P (held es) → AllByRecursion P (held (remove_entry test es))
    all-remove P [] all = tt
    all-remove P (e ∷ es) all = go (test e.0) (all-remove P es (all-back P (f e.1) (held es) all))
      where
        go : (b : Bool) → AllByRecursion P (held (remove_entry test es)) → AllByRecursion P (held (cond b es (e ∷ remove_entry test es)))
        go true rest = all-back P (f e.1) (held es) all
        go false rest = all-append P (f e.1) (held (remove_entry test es)) (all-front P (f e.1) (held es) all) rest

    -- what was found is among them
    pub all-found : (P : Numbered → Type 0) (es : List (K × X)) → AllByRecursion P (held es) → AllByRecursion P (f_of f (lookup test es))
    all-found P [] all = tt
    all-found P (e ∷ es) all = go (test e.0) (all-found P es (all-back P (f e.1) (held es) all))
      where
        go : (b : Bool) → AllByRecursion P (f_of f (lookup test es)) → AllByRecursion P (f_of f (cond b (Some e.1) (lookup test es)))
        go true rest = all-front P (f e.1) (held es) all
        go false rest = rest

  -- a new entry without references
  pub held-insert : (cmp : K → K → Ordering) (es : List (K × X)) (k : K) (w : X) → lookup (is_at (cmp k)) es ≡ None → f w ≡ [] → held (insert_entry cmp es k w) ≡ held es
  held-insert cmp [] k w absent none = ap (λ ones. ones ++ []) none
  held-insert cmp (e ∷ es) k w absent none = go (cmp k e.0) (λ there. held-insert cmp es k w there none) absent
    where
      go : (o : Ordering) → (lookup (is_at (cmp k)) es ≡ None → held (insert_entry cmp es k w) ≡ held es) → cond (is_eq o) (Some e.1) (lookup (is_at (cmp k)) es) ≡ None
          → held (match_ordering o ((k, w) ∷ e ∷ es) ((e.0, w) ∷ es) (e ∷ insert_entry cmp es k w)) ≡ f e.1 ++ held es
      go Less rest here = ap (λ ones. ones ++ (f e.1 ++ held es)) none
      go Equal rest here = absurd (some_none e.1 here)
      go Greater rest here = ap (λ ones. f e.1 ++ ones) (rest here)
