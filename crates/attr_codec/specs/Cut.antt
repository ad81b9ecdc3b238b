-- A field that is a list of items, one behind the other, each of which says where it ends.
use Rattle.std.specs.Prelude.{ℕ, zero, suc, Bool, true, false, ◌==◌, if◌then◌else◌, List, [], ◌∷◌, ◌++◌, length, Option, Some, None}
use Rattle.std.specs.Option.{option_map_or}

-- The items that stand whole in front, in order, and whether they are all of the field.
pub record Cut (X : Type 0) : Type 0 where
  pub items : List X
  pub whole : Bool

abbrev pub all_cut : {X : Type 0} → Cut X
all_cut = record { items = []; whole = true }

abbrev pub cut_short : {X : Type 0} → Cut X
cut_short = record { items = []; whole = false }

-- items, and then what a field is cut into
abbrev pub behind : {X : Type 0} → List X → Cut X → Cut X
behind items cut = record { items = items ++ cut.items; whole = cut.whole }

-- a field of no more than n bytes
unfoldable pub cut_in : {X : Type 0} → (List ℕ → Option (X × List ℕ)) → ℕ → List ℕ → Cut X
cut_in item zero bytes = if length bytes == 0 then all_cut else cut_short
cut_in item (suc n) bytes =
    if length bytes == 0 then all_cut
    else option_map_or (λ found. behind (found.0 ∷ []) (cut_in item n found.1)) (item bytes) cut_short

-- What a field is cut into, where `item` gives the item in front and the bytes behind it.
unfoldable pub cut : {X : Type 0} → (List ℕ → Option (X × List ℕ)) → List ℕ → Cut X
cut item bytes = cut_in item (length bytes) bytes

-- The items, where they are all of the field.
abbrev pub all_items : {X : Type 0} → (List ℕ → Option (X × List ℕ)) → List ℕ → Option (List X)
all_items item bytes = if (cut item bytes).whole then Some (cut item bytes).items else None
