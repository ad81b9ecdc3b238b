-- Rows of the kind of a table, one behind the other.
use Rattle.std.proofs.Common.{◌≡◌, Bool, true, false, ◌&&◌, List, [], ◌∷◌, ◌++◌, refl}
use Rattle.std.specs.List.{list_all}
use Rattle.core_msgs.specs.declared.row.Row.{Row}
use Rattle.core_msgs.specs.declared.row.Table.{Table}
use Rattle.rde_core.specs.Rows.{is_row_of}

both : (a b : Bool) → a ≡ true → b ≡ true → (a && b) ≡ true
both a b x y = rw x (rw y refl)

first : (a b : Bool) → (a && b) ≡ true → a ≡ true
first true b so = refl
first false b so = so

second : (a b : Bool) → (a && b) ≡ true → b ≡ true
second true b so = so
second false b so = let never : ⊥ = cc in absurd never

-- a row of the kind behind others
pub row_behind : (what : Table) (rows : List Row) (row : Row) → list_all (is_row_of what) rows ≡ true → is_row_of what row ≡ true
    → list_all (is_row_of what) (rows ++ row ∷ []) ≡ true
row_behind what [] row are is = both (is_row_of what row) true is refl
row_behind what (one ∷ rows) row are is =
    both (is_row_of what one) (list_all (is_row_of what) (rows ++ row ∷ [])) (first _ _ are) (row_behind what rows row (second (is_row_of what one) _ are) is)
