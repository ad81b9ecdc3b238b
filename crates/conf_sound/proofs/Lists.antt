-- Each entry of a list that is made of others is in form where they are.
use Rattle.std.proofs.Common.{◌≡◌, ℕ, suc, ◌+◌, Bool, true, false, cond, List, [], ◌∷◌, ◌++◌, length, map, flat_map, fold, Option, Some, None, refl, arith, length-append}
use Rattle.std.specs.Prelude.{filter_map, find, unwrap_or, is_none, option_and_then, option_map}
use Rattle.std.specs.List.{last_or, cons_option}
use Rattle.std.specs.Option.{option_or}
use Rattle.std.specs.Ordering.{match_ordering}
use Rattle.std.specs.declared.cmp.Ordering.{Ordering}
use Rattle.std.specs.declared.cmp.Ordering.TheVariants.{Less, Equal, Greater}
use Rattle.std.specs.BTreeMap.{insert_entry}
use Rattle.std.specs.BTreeSet.{insert_key}
use Rattle.conf_tree.specs.Flat.{in_order, with_entry, by_key, followed_by, chosen, choices}
use Rattle.conf_tree.specs.Readable.{Each, IfThere}
use Rattle.conf_tree.proofs.Each.{each_append, each_insert}

module _ {A : Type 0} (Is : A → Type 0) where
  pub last_form : (o : Option A) (xs : List A) → IfThere Is o → Each Is xs → IfThere Is (last_or o xs)
  last_form o [] h k = h
  last_form o (x ∷ xs) h k = last_form (Some x) xs k.0 k.1

  pub unwrap_form : (o : Option A) (d : A) → IfThere Is o → Is d → Is (unwrap_or o d)
  unwrap_form None d h k = k
  unwrap_form (Some x) d h k = h

  pub unwrap_some : (o : Option A) (d : A) → is_none o ≡ false → IfThere Is o → Is (unwrap_or o d)
  unwrap_some None d e h = absurd (cc)
  unwrap_some (Some x) d e h = h

  pub or_form : (a b : Option A) → IfThere Is a → IfThere Is b → IfThere Is (option_or a b)
  or_form None b h k = k
  or_form (Some x) b h k = h

  -- ---- lists in order

  fold_keys_form : (cmp : A → A → Ordering) (sorted xs : List A) → Each Is sorted → Each Is xs → Each Is (fold (insert_key cmp) sorted xs)
  fold_keys_form cmp sorted [] h k = h
  fold_keys_form cmp sorted (x ∷ xs) h k = fold_keys_form cmp (insert_key cmp sorted x) xs (each_insert Is cmp sorted x h k.0) k.1

  pub in_order_form : (cmp : A → A → Ordering) (xs : List A) → Each Is xs → Each Is (in_order cmp xs)
  in_order_form cmp xs h = fold_keys_form cmp [] xs tt h

  module _ {B : Type 0} (Now : B → Type 0) where
    pub each_map : (f : A → B) (xs : List A) → ((x : A) → Is x → Now (f x)) → Each Is xs → Each Now (map f xs)
    each_map f [] w h = tt
    each_map f (x ∷ xs) w h = (w x h.0, each_map f xs w h.1)

    pub each_filter_map : (f : A → Option B) (xs : List A) → ((x : A) → Is x → IfThere Now (f x)) → Each Is xs → Each Now (filter_map f xs)
    each_filter_map f [] w h = tt
    each_filter_map f (x ∷ xs) w h = by (f x) (w x h.0) (each_filter_map f xs w h.1)
      where
        by : (o : Option B) → IfThere Now o → Each Now (filter_map f xs) → Each Now (cons_option o (filter_map f xs))
        by None k behind = behind
        by (Some y) k behind = (k, behind)

    pub then_form : (f : A → Option B) (o : Option A) → ((x : A) → Is x → IfThere Now (f x)) → IfThere Is o → IfThere Now (option_and_then f o)
    then_form f None w h = tt
    then_form f (Some x) w h = w x h

    pub map_form : (f : A → B) (o : Option A) → ((x : A) → Is x → Now (f x)) → IfThere Is o → IfThere Now (option_map f o)
    map_form f None w h = tt
    map_form f (Some x) w h = w x h

pub each_flat_map : {A B : Type 0} (Is : A → Type 0) (Now : B → Type 0) (f : A → List B) (xs : List A) → ((x : A) → Is x → Each Now (f x)) → Each Is xs → Each Now (flat_map f xs)
each_flat_map Is Now f [] w h = tt
each_flat_map Is Now f (x ∷ xs) w h = each_append Now (f x) (flat_map f xs) (w x h.0) (each_flat_map Is Now f xs w h.1)

-- ---- entries in the order of their keys

module _ {K A : Type 0} (Is : K → Type 0) (Has : A → Type 0) where
  abbrev pub IsEntry : K × A → Type 0
  IsEntry e = Is e.0 × Has e.1

  pub insert_entry_form : (cmp : K → K → Ordering) (es : List (K × A)) (k : K) (v : A) → Each IsEntry es → Is k → Has v → Each IsEntry (insert_entry cmp es k v)
  insert_entry_form cmp [] k v h i j = ((i, j), tt)
  insert_entry_form cmp (e ∷ es) k v h i j = by (cmp k e.0) (insert_entry_form cmp es k v h.1 i j)
    where
      by : (r : Ordering) → Each IsEntry (insert_entry cmp es k v) → Each IsEntry (match_ordering r ((k, v) ∷ e ∷ es) ((e.0, v) ∷ es) (e ∷ insert_entry cmp es k v))
      by Less behind = ((i, j), h)
      by Equal behind = ((h.0.0, j), h.1)
      by Greater behind = (h.0, behind)

  fold_entries_form : (cmp : K → K → Ordering) (sorted es : List (K × A)) → Each IsEntry sorted → Each IsEntry es → Each IsEntry (fold (with_entry cmp) sorted es)
  fold_entries_form cmp sorted [] h k = h
  fold_entries_form cmp sorted (e ∷ es) h k = fold_entries_form cmp (insert_entry cmp sorted e.0 e.1) es (insert_entry_form cmp sorted e.0 e.1 h k.0.0 k.0.1) k.1

  pub by_key_form : (cmp : K → K → Ordering) (es : List (K × A)) → Each IsEntry es → Each IsEntry (by_key cmp es)
  by_key_form cmp es h = fold_entries_form cmp [] es tt h

-- ---- what is found

pub found_none : {A : Type 0} (b : Bool) (x : A) (o : Option A) → cond b (Some x) o ≡ None → (b ≡ false) × (o ≡ None)
found_none true x o e = absurd (cc)
found_none false x o e = (refl, e)

pub find_none : {A : Type 0} (test : A → Bool) (xs : List A) → find test xs ≡ None → Each (λ x. test x ≡ false) xs
find_none test [] e = tt
find_none test (x ∷ xs) e =
    let parts = found_none (test x) x (find test xs) e in
    (parts.0, find_none test xs parts.1)

pub or_none : {A : Type 0} (a b : Option A) → option_or a b ≡ None → (a ≡ None) × (b ≡ None)
or_none None b e = (refl, e)
or_none (Some x) b e = absurd (cc)

pub map_none : {A B : Type 0} (f : A → B) (o : Option A) → option_map f o ≡ None → o ≡ None
map_none f None e = refl
map_none f (Some x) e = absurd (cc)

-- ---- choices of one member from each list

module _ {A : Type 0} (Is : A → Type 0) where
  -- so many members, each in form
  abbrev pub AreChosen : ℕ → List A → Type 0
  AreChosen n front = Each Is front × (length front ≡ n)

  followed_form : (n : ℕ) (list front : List A) → Each Is list → AreChosen n front → Each (AreChosen (n + 1)) (followed_by list front)
  unfolding followed_by
  followed_form n list front h k =
      each_map Is (AreChosen (n + 1)) (λ one. front ++ one ∷ []) list (λ one is. (each_append Is front (one ∷ []) k.0 (is, tt), omega (arith, length-append front (one ∷ []), k.1))) h

  fold_chosen_form : (n : ℕ) (fronts lists : List (List A)) → Each (AreChosen n) fronts → Each (Each Is) lists → Each (AreChosen (n + length lists)) (fold chosen fronts lists)
  fold_chosen_form n fronts [] h k = more fronts h
    where
      more : (fronts : List (List A)) → Each (AreChosen n) fronts → Each (AreChosen (n + 0)) fronts
      more [] h = tt
      more (front ∷ fronts) h = ((h.0.0, omega (arith, h.0.1)), more fronts h.1)
  fold_chosen_form n fronts (list ∷ lists) h k =
      more (fold chosen (chosen fronts list) lists) (fold_chosen_form (n + 1) (chosen fronts list) lists
      (each_flat_map (AreChosen n) (AreChosen (n + 1)) (followed_by list) fronts (λ front is. followed_form n list front k.0 is) h) k.1)
    where
      more : (fronts : List (List A)) → Each (AreChosen ((n + 1) + length lists)) fronts → Each (AreChosen (n + suc (length lists))) fronts
      more [] h = tt
      more (front ∷ fronts) h = ((h.0.0, omega (arith, h.0.1)), more fronts h.1)

  pub choices_form : (lists : List (List A)) → Each (Each Is) lists → Each (AreChosen (0 + length lists)) (choices lists)
  choices_form lists h = fold_chosen_form 0 ([] ∷ []) lists ((tt, refl), tt) h
