-- All configured tables, with the failures that are arranged.
use Rattle.std.specs.Prelude.{◌≡◌, ℕ, cond, List, [], Option, Some, None, unwrap_or}
use Rattle.std.specs.BTreeMap.{is_at}
use Rattle.std.specs.Map.{lookup}
use Rattle.std.specs.Option.{option_map, option_map_or}
use Rattle.std.specs.Ordering.{nat_cmp}
use Rattle.std.specs.declared.cmp.Ordering.TheVariants.{Less}
use Rattle.kroute.specs.declared.phase.Work.{Work}
use Rattle.kroute.specs.declared.table.Change.{Change}
use Rattle.kroute.specs.declared.table.Change.TheVariants.{Want, WantNone, Couple, Decouple, Lose}
use Rattle.kroute.specs.Calls.{IsNext}
use Rattle.kroute.specs.Rows.{Rows}
use Rattle.kroute.specs.Table.{TableState, wants, wants_no, couples, decouples, loses}

-- the configured tables by number, and of a table number how many calls on it are left until one fails
pub record TablesState : Type 0 where
  pub tables : List (ℕ × TableState)
  pub arranged : List (ℕ × ℕ)

-- the table of that number, where it is configured
abbrev pub table_at : TablesState → ℕ → Option TableState
table_at s n = lookup (is_at (nat_cmp n)) s.tables

-- the how many next call on that number fails; 0 where none is to
abbrev pub arranged_at : TablesState → ℕ → ℕ
arranged_at s n = unwrap_or (lookup (is_at (nat_cmp n)) s.arranged) 0

-- what a change makes of a table
abbrev pub changed : Change → TableState → TableState
changed (Want p hop) t = wants p hop t
changed (WantNone p) t = wants_no p t
changed Couple t = couples t
changed Decouple t = decouples t
changed Lose t = loses t

-- The table is changed by f where it is configured, and every other is as it was.
abbrev pub ChangesTable : (TableState → TableState) → ℕ → TablesState → TablesState → Type 0
ChangesTable f n old new = (m : ℕ) → table_at new m ≡ cond (is_at (nat_cmp n) m) (option_map f (table_at old n)) (table_at old m)

-- The table is this one now, and every other is as it was.
abbrev pub SetsTable : Option TableState → ℕ → TablesState → TablesState → Type 0
SetsTable t n old new = (m : ℕ) → table_at new m ≡ cond (is_at (nat_cmp n) m) t (table_at old m)

-- The count of calls until the failure is this one now, and those of all other numbers are as they were.
abbrev pub SetsArranged : ℕ → ℕ → TablesState → TablesState → Type 0
SetsArranged left n old new = (m : ℕ) → arranged_at new m ≡ cond (is_at (nat_cmp n) m) left (arranged_at old m)

-- the table is there, and this is its next call
abbrev pub HasNext : Work → Option TableState → Type 0
HasNext work found = (t : TableState) × (found ≡ Some t) × IsNext t.phase (Some work)

-- Each configured table with a number below this one has no job.
abbrev pub NoneBelow : TablesState → ℕ → Type 0
NoneBelow s n = (m : ℕ) (t : TableState) → nat_cmp m n ≡ Less → table_at s m ≡ Some t → IsNext t.phase None

-- The lowest table with a job, and its next call; none where no table has a job.
abbrev pub IsLowest : TablesState → Option (ℕ × Work) → Type 0
IsLowest s None = (m : ℕ) (t : TableState) → table_at s m ≡ Some t → IsNext t.phase None
IsLowest s (Some (n, work)) = HasNext work (table_at s n) × NoneBelow s n

-- the number alone
abbrev pub LowestJob : TablesState → Option ℕ → Type 0
LowestJob s None = IsLowest s None
LowestJob s (Some n) = (work : Work) × IsLowest s (Some (n, work))

-- the rows that are wanted of the table of that number; none where it isn't configured
abbrev pub wanted_of : TablesState → ℕ → Rows
wanted_of s n = option_map_or (λ t. t.wanted) (table_at s n) []
