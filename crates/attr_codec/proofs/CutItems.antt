-- What holds of each item that is found holds of all items of a field.
use Rattle.std.proofs.Common.{◌≡◌, ℕ, zero, suc, Bool, true, false, cond, List, length, Option, Some, None, refl}
use Rattle.std.specs.Prelude.{◌==◌, IfSome}
use Rattle.std.specs.List.{AllByRecursion}
use Rattle.attr_codec.specs.Cut.{Cut, all_cut, cut_short, cut_in, cut, all_items}
use Rattle.attr_codec.proofs.Cutting.{cut_by}

module _ {X : Type 0} (item : List ℕ → Option (X × List ℕ)) (P : X → Type 0) (Q : List ℕ → Type 0)
    (gives : (bytes : List ℕ) (found : X × List ℕ) → Q bytes → item bytes ≡ Some found → P found.0 × Q found.1) where
  found_by : (bytes : List ℕ) (rest : List ℕ → Cut X) → Q bytes → ((more : List ℕ) → Q more → AllByRecursion P (rest more).items) → (o : Option (X × List ℕ)) → item bytes ≡ o → AllByRecursion P (cut_by rest o).items
  found_by bytes rest q others None e = tt
  found_by bytes rest q others (Some found) e = let is = gives bytes found q e in (is.0, others found.1 is.1)

  in_front_by : (b : Bool) (c : Cut X) → AllByRecursion P c.items → AllByRecursion P (cond b all_cut c).items
  in_front_by true c all = tt
  in_front_by false c all = all

  items_in : (n : ℕ) (bytes : List ℕ) → Q bytes → AllByRecursion P (cut_in item n bytes).items
  unfolding cut_in
  items_in zero bytes q = in_front_by (length bytes == 0) cut_short tt
  items_in (suc n) bytes q =
      in_front_by (length bytes == 0) (cut_by (cut_in item n) (item bytes)) (found_by bytes (cut_in item n) q (λ more m. items_in n more m) (item bytes) refl)

  pub items_are : (bytes : List ℕ) → Q bytes → AllByRecursion P (cut item bytes).items
  unfolding cut
  items_are bytes q = items_in (length bytes) bytes q

  whole_by : (b : Bool) (items : List X) → AllByRecursion P items → IfSome (cond b (Some items) None) (AllByRecursion P)
  whole_by true items all = all
  whole_by false items all = tt

  pub all_are : (bytes : List ℕ) → Q bytes → IfSome (all_items item bytes) (AllByRecursion P)
  all_are bytes q = whole_by (cut item bytes).whole (cut item bytes).items (items_are bytes q)
