-- Of which kind the rows of a table are.
use Rattle.std.specs.Prelude.{◌≡◌, Bool, true, false, List}
use Rattle.std.specs.List.{list_all}
use Rattle.core_msgs.specs.declared.row.Table.{Table}
use Rattle.core_msgs.specs.declared.row.Table.TheVariants as table
use Rattle.core_msgs.specs.declared.row.Row.{Row}
use Rattle.core_msgs.specs.declared.row.Row.TheVariants as row

-- the kind of rows that a table has
abbrev pub is_row_of : Table → Row → Bool
is_row_of (table.Rib number) (row.Route route) = true
is_row_of table.Held (row.Route route) = true
is_row_of table.Told (row.Told route) = true
is_row_of table.Nexthops (row.Nexthop hop valid) = true
is_row_of table.Distinct (row.Distinct count) = true
is_row_of _ _ = false

-- Rows stay of the kind that a table has.
abbrev pub KeepsKind : Table → List Row → List Row → Type 0
KeepsKind what old new = list_all (is_row_of what) old ≡ true → list_all (is_row_of what) new ≡ true
