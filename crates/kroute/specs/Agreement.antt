-- That what is kept of the tables agrees with the kernel's rows.
use Rattle.std.specs.Prelude.{◌≡◌, ℕ, false, List, Option, Some, is_some}
use Rattle.net_base.specs.declared.prefix.Prefix.{Prefix}
use Rattle.net_base.specs.PrefixSet.{is_in}
use Rattle.kroute.specs.declared.phase.Phase.{Phase}
use Rattle.kroute.specs.declared.phase.Phase.TheVariants.{New, Listing, Coupled, Clearing, Lost}
use Rattle.kroute.specs.Phases.{row_at}
use Rattle.kroute.specs.Rows.{Rows, IsByPrefix, IsInOrder, IsSetOf}
use Rattle.kroute.specs.Table.{TableState}
use Rattle.kroute.specs.Tables.{TablesState, table_at}

-- Of a coupled and listed table the rows are known by their prefixes, and each that isn't to be put right is as wanted.
pub record IsRight (known job : List Prefix) (wanted rows : Rows) : Type 0 where
  pub by_prefix : IsByPrefix rows
  pub are_known : IsSetOf known (λ q. is_some (row_at rows q))
  pub in_order : IsInOrder job
  pub right : (q : Prefix) → is_in job q ≡ false → row_at rows q ≡ row_at wanted q

-- Of a table that is decoupled the rows are those that are still to be deleted.
pub record IsLeft (job : List Prefix) (rows : Rows) : Type 0 where
  pub by_prefix : IsByPrefix rows
  pub are_left : IsSetOf job (λ q. is_some (row_at rows q))

-- A table that was never coupled, or is still to be listed, or is lost, may have any rows.
abbrev pub Fits : Phase → Rows → Rows → Type 0
Fits New wanted rows = Unit {0}
Fits (Listing coupled) wanted rows = Unit {0}
Fits (Coupled known job) wanted rows = IsRight known job wanted rows
Fits (Clearing job) wanted rows = IsLeft job rows
Fits Lost wanted rows = Unit {0}

-- It fits for each configured table whose rows are told.
abbrev pub Agrees : (ℕ → Option Rows) → TablesState → Type 0
Agrees held s = (n : ℕ) (t : TableState) (rows : Rows) → table_at s n ≡ Some t → held n ≡ Some rows → Fits t.phase t.wanted rows
