-- Cutting a field takes the item in front, and then cuts what is behind it.
use Rattle.std.proofs.Common.{◌≡◌, ◌∙◌, ℕ, zero, suc, ◌<◌, ◌≤◌, Bool, true, false, cond, nat_eq, List, [], ◌∷◌, ◌++◌, length, Option, Some, None, refl, ap, sym, append_assoc, arith, fold}
use Rattle.std.proofs.lemmas.List.{append-nil}
use Rattle.std.proofs.lemmas.Bool.Decides.{nat_tests}
use Rattle.std.specs.Prelude.{IsTrue, is_some}
use Rattle.std.specs.Option.{option_map_or}
use Rattle.attr_codec.specs.Cut.{Cut, all_cut, cut_short, behind, cut_in, cut, all_items}

-- an item takes bytes
abbrev pub TakesBytes : {X : Type 0} → (List ℕ → Option (X × List ℕ)) → Type 0
TakesBytes {X} item = (bytes : List ℕ) (found : X × List ℕ) → item bytes ≡ Some found → length found.1 < length bytes

-- the cut that an item in front gives
abbrev pub cut_by : {X : Type 0} → (List ℕ → Cut X) → Option (X × List ℕ) → Cut X
cut_by rest front = option_map_or (λ found. behind (found.0 ∷ []) (rest found.1)) front cut_short

same_by : {X : Type 0} (f g : List ℕ → Cut X) (front : Option (X × List ℕ)) → ((found : X × List ℕ) → front ≡ Some found → f found.1 ≡ g found.1) → cut_by f front ≡ cut_by g front
same_by f g None h = refl
same_by f g (Some found) h = rw (h found refl) refl

-- how many items are allowed doesn't matter, once they are enough
enough : {X : Type 0} (item : List ℕ → Option (X × List ℕ)) → TakesBytes item → (n m : ℕ) (bytes : List ℕ) → length bytes ≤ n → length bytes ≤ m → cut_in item n bytes ≡ cut_in item m bytes
unfolding cut_in
enough item takes zero zero bytes a b = refl
enough item takes zero (suc m) bytes a b = let t : nat_eq (length bytes) 0 ≡ true = grind (arith, nat_tests) in rw t refl
enough item takes (suc n) zero bytes a b = let t : nat_eq (length bytes) 0 ≡ true = grind (arith, nat_tests) in rw t refl
enough item takes (suc n) (suc m) bytes a b =
    ap (λ r. cond (nat_eq (length bytes) 0) all_cut r)
    (same_by (cut_in item n) (cut_in item m) (item bytes)
    (λ found h. let s = takes bytes found h in enough item takes n m found.1 (omega arith) (omega arith)))

pub cut_step : {X : Type 0} (item : List ℕ → Option (X × List ℕ)) → TakesBytes item → (bytes : List ℕ) → 0 < length bytes → cut item bytes ≡ cut_by (cut item) (item bytes)
unfolding cut cut_in
cut_step item takes [] h = absurd (omega arith)
cut_step item takes (b ∷ bs) h =
    let t : nat_eq (length (b ∷ bs)) 0 ≡ false = grind (arith, nat_tests) in
    rw t (same_by (cut_in item (length bs)) (cut item) (item (b ∷ bs))
    (λ found e. let s = takes (b ∷ bs) found e in enough item takes (length bs) (length found.1) found.1 (omega arith) (omega arith)))

pub cut_end : {X : Type 0} (item : List ℕ → Option (X × List ℕ)) → cut item [] ≡ all_cut
unfolding cut cut_in
cut_end item = refl

-- one item more that was found
pub cut_found : {X : Type 0} (item : List ℕ → Option (X × List ℕ)) → TakesBytes item → (bytes : List ℕ) (x : X) (rest : List ℕ) → 0 < length bytes → item bytes ≡ Some (x, rest) → cut item bytes ≡ behind (x ∷ []) (cut item rest)
cut_found item takes bytes x rest h e = cut_step item takes bytes h ∙ ap (cut_by (cut item)) e

-- no item is there, though bytes are
pub cut_lost : {X : Type 0} (item : List ℕ → Option (X × List ℕ)) → TakesBytes item → (bytes : List ℕ) → 0 < length bytes → item bytes ≡ None → cut item bytes ≡ cut_short
cut_lost item takes bytes h e = cut_step item takes bytes h ∙ ap (cut_by (cut item)) e

-- an item more behind those that were found before
pub behind-more : {X : Type 0} (items : List X) (x : X) (rest : Cut X) → behind (items ++ x ∷ []) rest ≡ behind items (behind (x ∷ []) rest)
behind-more items x rest = ap (λ (all : List _). record { items = all; whole = rest.whole }) (append_assoc items (x ∷ []) rest.items)

-- what stands whole in front of a place where no item is
pub items_end : {X : Type 0} (item : List ℕ → Option (X × List ℕ)) → TakesBytes item → (bytes : List ℕ) → item bytes ≡ None → (cut item bytes).items ≡ []
items_end item takes [] e = ap (λ c. c.items) (cut_end item)
items_end item takes (b ∷ bs) e = ap (λ c. c.items) (cut_lost item takes (b ∷ bs) (omega arith) e)

pub items_found : {X : Type 0} (item : List ℕ → Option (X × List ℕ)) → TakesBytes item → (bytes : List ℕ) (x : X) (rest : List ℕ) → item bytes ≡ Some (x, rest) → (cut item bytes).items ≡ x ∷ (cut item rest).items
items_found item takes bytes x rest e =
    let shorter = takes bytes (x, rest) e in
    ap (λ c. c.items) (cut_found item takes bytes x rest (omega arith) e)

-- ---- a loop over the items: those found so far, and what is cut from the bytes that are left

module _ {X : Type 0} (item : List ℕ → Option (X × List ℕ)) (takes : TakesBytes item) where
  pub items_more : (found : List X) (bytes : List ℕ) (x : X) (rest : List ℕ) (total : List X) → item bytes ≡ Some (x, rest) → found ++ (cut item bytes).items ≡ total → (found ++ x ∷ []) ++ (cut item rest).items ≡ total
  items_more found bytes x rest total e so_far =
      append_assoc found (x ∷ []) (cut item rest).items ∙ ap (λ (xs : List X). found ++ xs) (sym (items_found item takes bytes x rest e)) ∙ so_far

  pub items_done : (found : List X) (bytes : List ℕ) (total : List X) → item bytes ≡ None → found ++ (cut item bytes).items ≡ total → found ≡ total
  items_done found bytes total e so_far =
      sym (append-nil found) ∙ ap (λ (xs : List X). found ++ xs) (sym (items_end item takes bytes e)) ∙ so_far

  pub cut_more : (found : List X) (bytes : List ℕ) (x : X) (rest : List ℕ) (total : Cut X) → item bytes ≡ Some (x, rest) → behind found (cut item bytes) ≡ total → behind (found ++ x ∷ []) (cut item rest) ≡ total
  cut_more found bytes x rest total e so_far =
      let shorter = takes bytes (x, rest) e in
      behind-more found x (cut item rest) ∙ ap (behind found) (sym (cut_found item takes bytes x rest (omega arith) e)) ∙ so_far

  pub all_items_none : (found : List X) (bytes field : List ℕ) → 0 < length bytes → item bytes ≡ None → behind found (cut item bytes) ≡ cut item field → all_items item field ≡ None
  all_items_none found bytes field some e so_far =
      let short = sym so_far ∙ ap (behind found) (cut_lost item takes bytes some e) in
      rw short refl

  pub all_items_some : (found : List X) (bytes field : List ℕ) → bytes ≡ [] → behind found (cut item bytes) ≡ cut item field → all_items item field ≡ Some found
  all_items_some found bytes field none so_far =
      let e = sym so_far ∙ ap (λ b. behind found (cut item b)) none ∙ ap (behind found) (cut_end item) in
      rw e (ap Some (append-nil found))

  -- the same for what the items are folded to
  pub fold_more : {Y : Type 0} (f : Y → X → Y) (done : Y) (bytes : List ℕ) (x : X) (rest : List ℕ) (total : Y) → item bytes ≡ Some (x, rest) → fold f done (cut item bytes).items ≡ total → fold f (f done x) (cut item rest).items ≡ total
  fold_more f done bytes x rest total e so_far = sym (ap (fold f done) (items_found item takes bytes x rest e)) ∙ so_far

  pub fold_done : {Y : Type 0} (f : Y → X → Y) (done : Y) (bytes : List ℕ) (total : Y) → item bytes ≡ None → fold f done (cut item bytes).items ≡ total → done ≡ total
  fold_done f done bytes total e so_far = sym (ap (fold f done) (items_end item takes bytes e)) ∙ so_far

  -- the same for whether the items are all of the field
  pub whole_more : (bytes : List ℕ) (x : X) (rest : List ℕ) → item bytes ≡ Some (x, rest) → (cut item bytes).whole ≡ (cut item rest).whole
  whole_more bytes x rest e =
      let shorter = takes bytes (x, rest) e in
      ap (λ c. c.whole) (cut_found item takes bytes x rest (omega arith) e)

  pub some_items : (field : List ℕ) (b : Bool) → (cut item field).whole ≡ b → is_some (all_items item field) ≡ b
  some_items field true e = rw e refl
  some_items field false e = rw e refl

-- what a test for emptiness says where it fails
pub not_empty : {X : Type 0} (xs : List X) → (xs ≡ [] → IsTrue false) → 0 < length xs
not_empty [] h = let e : false ≡ true = h refl in absurd cc
not_empty (x ∷ xs) h = omega arith
