-- One unit of work on the tables: a kernel call, or one that fails as it was arranged.
use Rattle.std.specs.Prelude.{◌≡◌, ◌≢◌, ◌-◌, ◌⊎◌, ℕ, Bool, Option, Some, None, if◌then◌else◌}
use Rattle.kroute.specs.declared.phase.Work.{Work}
use Rattle.kroute.specs.Calls.{IsNext, Outcome, Outside}
use Rattle.kroute.specs.Table.{TableState, loses}
use Rattle.kroute.specs.Tables.{TablesState, ChangesTable, IsLowest, SetsArranged, SetsTable, arranged_at, table_at}

-- A call was made on a table, and nothing else changed.
pub record CallsOn (lost : Bool) (number : ℕ) (work : Work) (old new : TablesState) (before after : Outside) : Type 0 where
  pub was : TableState
  pub is : TableState
  pub there : table_at old number ≡ Some was
  pub next : IsNext was.phase (Some work)
  pub outcome : Outcome lost number work was is before after
  pub tables : SetsTable (Some is) number old new

-- There was no job, and nothing is done.
pub record Idles (lost : Option ℕ) (old new : TablesState) (before after : Outside) : Type 0 where
  pub none : IsLowest old None
  pub answer : lost ≡ None
  pub same : new ≡ old
  pub untouched : after ≡ before

-- The failure that was arranged for the lowest table with a job fell due: it is lost, and no call was made.
pub record FallsDue (lost : Option ℕ) (old new : TablesState) (before after : Outside) : Type 0 where
  pub number : ℕ
  pub work : Work
  pub first : IsLowest old (Some (number, work))
  pub due : arranged_at old number ≡ 1
  pub answer : lost ≡ Some number
  pub tables : ChangesTable loses number old new
  pub arranged : SetsArranged 0 number old new
  pub untouched : after ≡ before

-- The next call of the lowest table with a job was made; the answer is that table where it failed.
pub record Calls (lost : Option ℕ) (old new : TablesState) (before after : Outside) : Type 0 where
  pub number : ℕ
  pub work : Work
  pub first : IsLowest old (Some (number, work))
  pub due : arranged_at old number ≢ 1
  pub failed : Bool
  pub answer : lost ≡ (if failed then Some number else None)
  pub call : CallsOn failed number work old new before after
  pub arranged : SetsArranged (arranged_at old number - 1) number old new

abbrev pub IsUnit : Option ℕ → TablesState → TablesState → Outside → Outside → Type 0
IsUnit lost old new before after = Idles lost old new before after ⊎ (FallsDue lost old new before after ⊎ Calls lost old new before after)
