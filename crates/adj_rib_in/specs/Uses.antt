-- The references of the held routes, and how they go with a step.
use Rattle.std.specs.Prelude.{◌≡◌, ℕ, ◌+◌, List, [], ◌∷◌, map, Option, Some, None}
use Rattle.std.specs.List.{flat_map, AllByRecursion}
use Rattle.std.specs.Map.{values_of}
use Rattle.net_base.specs.declared.prefix.Prefix.{Prefix}
use Rattle.attr_model.specs.Numbered.{Numbered}
use Rattle.attr_intern.specs.Table.{Table, times, IsOf}
use Rattle.adj_rib_in.specs.declared.row.Entry.{Entry}
use Rattle.adj_rib_in.specs.Held.{Held}

abbrev pub refs_of_row : List Entry → List Numbered
refs_of_row row = map (λ entry. entry.attrs) row

-- the references of all routes that are held
abbrev pub kept : Held → List Numbered
kept held = flat_map refs_of_row (values_of held)

abbrev pub refs_of_route : Option Numbered → List Numbered
refs_of_route None = []
refs_of_route (Some one) = one ∷ []

abbrev pub refs_of_routes : List (Prefix × Numbered) → List Numbered
refs_of_routes routes = map (λ route. route.1) routes

-- Among the references of a table of attributes these come in, and those go out; all others stay.
pub record Swaps (old new coming going : List Numbered) : Type 0 where
  pub uses : (number : ℕ) → times number new + times number going ≡ times number old + times number coming
  pub each : (table : Table) → AllByRecursion (IsOf table) old → AllByRecursion (IsOf table) coming → AllByRecursion (IsOf table) new × AllByRecursion (IsOf table) going
