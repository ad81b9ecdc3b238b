-- The kernel tables that a configuration has, and how they are taken up.
use Rattle.std.specs.Prelude.{◌≡◌, ℕ, Bool, true, false, not, ◌==◌, List, ◌∷◌, filter_map, Option, Some, None, if◌then◌else◌}
use Rattle.std.specs.List.{list_any}
use Rattle.conf_tree.specs.declared.conf.Conf.{Conf}
use Rattle.kroute.specs.Table.{TableState, new_table, couples, decouples}
use Rattle.kroute.specs.Tables.{TablesState, table_at}

-- the numbers of the kernel tables: 0 of Loc-RIB, and those of the other RIBs
abbrev pub tables_of : Conf → List ℕ
tables_of conf = 0 ∷ filter_map (λ rib. rib.table) conf.ribs

abbrev pub is_among : List ℕ → ℕ → Bool
is_among numbers n = list_any (λ m. m == n) numbers

-- coupled or decoupled by the kernel switch
abbrev pub switched_to : Bool → TableState → TableState
switched_to true t = couples t
switched_to false t = decouples t

-- a table as it is taken up: one that is new, or any where the kernel switch changed, is coupled or decoupled by it
abbrev pub taken : Bool → Bool → Option TableState → TableState
taken switched on None = switched_to on new_table
taken true on (Some t) = switched_to on t
taken false on (Some t) = t

abbrev pub is_switched : Bool → Bool → Bool
is_switched true on = not on
is_switched false on = on

-- The tables are those of the new configuration, each taken up; all others are forgotten.
abbrev pub Configures : Conf → Conf → TablesState → TablesState → Type 0
Configures old new was is = (n : ℕ) → table_at is n
    ≡ (if is_among (tables_of new) n then Some (taken (is_switched old.fib_update new.fib_update) new.fib_update (table_at was n)) else None)
