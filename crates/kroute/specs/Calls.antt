-- The kernel call that a table's unit makes, and what is so behind it.
use Rattle.std.specs.Prelude.{◌≡◌, ◌≢◌, ◌≤◌, ◌+◌, ◌⊎◌, ℕ, min, length, Bool, true, false, List, Option, Some, None, IfSome}
use Rattle.io_edge.specs.Faults.{last_count, Rose}
use Rattle.net_base.specs.declared.addr.Addr.{Addr}
use Rattle.net_base.specs.declared.prefix.Prefix.{Prefix}
use Rattle.net_base.specs.Order.{prefix_cmp}
use Rattle.net_base.specs.PrefixSet.{is_in, IsLeastOf}
use Rattle.kroute.specs.declared.phase.Phase.{Phase}
use Rattle.kroute.specs.declared.phase.Phase.TheVariants.{New, Listing, Coupled, Clearing, Lost}
use Rattle.kroute.specs.declared.phase.Work.{Work}
use Rattle.kroute.specs.declared.phase.Work.TheVariants.{ListRows, PutRight, Delete}
use Rattle.kroute.specs.Phases.{row_at, after_set, after_del}
use Rattle.kroute.specs.Rows.{Rows, IsByPrefix, with_row, without_row}
use Rattle.kroute.specs.Table.{TableState, IsListed}

-- no prefix is among them
abbrev pub IsNone : List Prefix → Type 0
IsNone job = (q : Prefix) → is_in job q ≡ false

-- The next call on a table: a list that is still to be made, or the least prefix that is to be put right.
abbrev pub IsNext : Phase → Option Work → Type 0
IsNext New work = work ≡ None
IsNext (Listing coupled) work = work ≡ Some (ListRows coupled)
IsNext (Coupled known job) None = IsNone job
IsNext (Coupled known job) (Some (PutRight p)) = IsLeastOf (is_in job) p
IsNext (Coupled known job) (Some (ListRows coupled)) = ⊥
IsNext (Coupled known job) (Some (Delete p)) = ⊥
IsNext (Clearing job) None = IsNone job
IsNext (Clearing job) (Some (Delete p)) = IsLeastOf (is_in job) p
IsNext (Clearing job) (Some (ListRows coupled)) = ⊥
IsNext (Clearing job) (Some (PutRight p)) = ⊥
IsNext Lost work = work ≡ None

-- the rows with this one as it is wanted: set, or deleted where none is
abbrev pub put_row : Option Addr → Prefix → Option Rows → Option Rows
put_row (Some hop) p told = with_row prefix_cmp told p hop
put_row None p told = without_row prefix_cmp told p

-- what a call asks of the rows of its table
abbrev pub asked : Rows → Work → Option Rows → Option Rows
asked wanted (ListRows coupled) told = told
asked wanted (PutRight p) told = put_row (row_at wanted p) p told
asked wanted (Delete p) told = put_row None p told

abbrev pub after_put : Option Addr → Prefix → Phase → Phase
after_put (Some hop) p phase = after_set p phase
after_put None p phase = after_del p phase

-- The rows that a list gave, and what they leave to be done.
pub record Listed (coupled : Bool) (wanted : Rows) (told : Option Rows) (phase : Phase) (listed new_listed : ℕ) : Type 0 where
  pub rows : Rows
  pub by_prefix : IsByPrefix rows
  pub are_told : IfSome told (λ all. rows ≡ all)
  pub leave : IsListed coupled wanted rows phase
  pub counted : new_listed ≡ min (listed + length rows) last_count

-- how the table stands behind the call, with the count of rows that lists have given
abbrev pub IsAfter : Work → Rows → Option Rows → Phase → Phase → ℕ → ℕ → Type 0
IsAfter (ListRows coupled) wanted told old new listed new_listed = Listed coupled wanted told new listed new_listed
IsAfter (PutRight p) wanted told old new listed new_listed = (new ≡ after_put (row_at wanted p) p old) × (new_listed ≡ listed)
IsAfter (Delete p) wanted told old new listed new_listed = (new ≡ after_del p old) × (new_listed ≡ listed)

-- what the outside tells: the rows of each table, its count of faults, and the count of listed rows
pub record Outside : Type 0 where
  pub held : ℕ → Option Rows
  pub faults : ℕ → ℕ
  pub listed : ℕ

-- The rows of the table are as asked, and after a failure as before or as asked; those of all others are as before.
abbrev pub IsAsked : Bool → Option Rows → Option Rows → Option Rows → Type 0
IsAsked true old ask new = (new ≡ old) ⊎ (new ≡ ask)
IsAsked false old ask new = new ≡ ask

-- a failure raises the count of its table, without one it is as it was, and no count falls
abbrev pub CountsLoss : Bool → ℕ → (ℕ → ℕ) → (ℕ → ℕ) → Type 0
CountsLoss true number old new = Rose (old number) (new number) × ((other : ℕ) → old other ≤ new other)
CountsLoss false number old new = (new number ≡ old number) × ((other : ℕ) → old other ≤ new other)

-- how the table stands behind a call: lost where it failed
abbrev pub StandsAfter : Bool → Work → Rows → Option Rows → Phase → Phase → ℕ → ℕ → Type 0
StandsAfter true work wanted told old new listed new_listed = (new ≡ Lost) × (new_listed ≡ listed)
StandsAfter false work wanted told old new listed new_listed = IsAfter work wanted told old new listed new_listed

-- What a call on one table leaves behind it.
pub record Outcome (lost : Bool) (number : ℕ) (work : Work) (old new : TableState) (before after : Outside) : Type 0 where
  pub wanted : new.wanted ≡ old.wanted
  pub phase : StandsAfter lost work old.wanted (before.held number) old.phase new.phase before.listed after.listed
  pub rows : IsAsked lost (before.held number) (asked old.wanted work (before.held number)) (after.held number)
  pub others : (other : ℕ) → other ≢ number → after.held other ≡ before.held other
  pub faults : CountsLoss lost number before.faults after.faults
