-- What is still to come, as a number of turns: of each thing, the turn that takes it and all that it can make.
use Rattle.std.specs.Prelude.{◌≡◌, ◌≤◌, ◌⊎◌, ℕ, ◌+◌, ◌*◌, Bool, true, List, length, Option, Some, None, Ok}
use Rattle.std.specs.List.{All, sum_by}
use Rattle.std.specs.List.Sorted.{IsStrictlySortedBy}
use Rattle.std.specs.Map.{keys_of}
use Rattle.std.specs.Ordering.{nat_cmp}
use Rattle.net_base.specs.declared.addr.Addr.{Addr}
use Rattle.net_base.specs.declared.prefix.Prefix.{Prefix}
use Rattle.net_base.specs.Order.{addr_cmp}
use Rattle.net_base.specs.PrefixSet.{is_in}
use Rattle.conf_tree.specs.declared.conf.Conf.{Conf}
use Rattle.conf_tree.specs.Canonical.{canonical}
use Rattle.core_msgs.specs.declared.frame.Done.{Done}
use Rattle.core_msgs.specs.declared.frame.Frame.{Frame}
use Rattle.core_msgs.specs.declared.frame.Frame.TheVariants as frames
use Rattle.core_msgs.specs.declared.parts.Core.{Core}
use Rattle.core_msgs.specs.declared.parts.Core.TheVariants.{Session, Decision}
use Rattle.kroute.specs.declared.phase.Phase.{Phase}
use Rattle.kroute.specs.declared.phase.Phase.TheVariants.{New, Listing, Coupled, Clearing, Lost}
use Rattle.kroute.specs.Calls.{Listed, Outside}
use Rattle.kroute.specs.Rows.{CountsListed, IsInOrder, Rows}
use Rattle.kroute.specs.Table.{TableState}
use Rattle.kroute.specs.Tables.{TablesState, LowestJob, table_at}
use Rattle.nexthop_track.specs.Hops.{is_tracked_in}
use Rattle.reload_stage.specs.Stages.{stage_items}
use Rattle.parent_core.specs.declared.reloads.Stage.{Stage}
use Rattle.parent_core.specs.declared.reloads.Stage.TheVariants.{Idle, AtSession, AtDecision}
use Rattle.parent_core.specs.Frames.{staged}
use Rattle.parent_core.specs.KernelTables.{is_among, tables_of}
use Rattle.parent_core.specs.State.{ParentState}

-- What a frame of the parent costs at the core that takes it: a Nexthop, and the Commit of a stage. And what the list of a
-- kernel table costs besides its turn: nothing where its rows are counted apart, or more than the rows of any list.
pub record Weights : Type 0 where
  pub nexthop : ℕ
  pub session_commit : ℕ
  pub decision_commit : ℕ
  pub listing : ℕ

-- All that the parent may know of: the numbers of kernel tables in their order, prefixes, and next hops.
pub record Bounds : Type 0 where
  pub numbers : List ℕ
  pub prefixes : List Prefix
  pub hops : List Addr

-- the prefixes of the rows that a coupled table is known to have are in order, and among these
abbrev pub IsKnownWithin : Bounds → Phase → Type 0
IsKnownWithin b (Coupled known job) = IsInOrder known × All (λ q. is_in b.prefixes q ≡ true) known
IsKnownWithin b phase = Unit {0}

-- A kernel table of one of these numbers, with rows of these prefixes.
pub record IsTableWithin (b : Bounds) (n : ℕ) (t : TableState) : Type 0 where
  pub number : is_among b.numbers n ≡ true
  pub wanted : All (λ q. is_in b.prefixes q ≡ true) (keys_of t.wanted)
  pub known : IsKnownWithin b t.phase

-- The parent knows of nothing else.
pub record IsWithin (b : Bounds) (s : ParentState) : Type 0 where
  pub numbers : IsStrictlySortedBy nat_cmp b.numbers
  pub tables : (n : ℕ) (t : TableState) → table_at s.tables n ≡ Some t → IsTableWithin b n t
  pub tracked : IsStrictlySortedBy addr_cmp s.hops.tracked
  pub hops : All (λ a. is_tracked_in b.hops a ≡ true) s.hops.tracked

-- the kernel tables of a configuration that is still to be taken up have these numbers
abbrev pub IsStageWithin : Bounds → Stage → Type 0
IsStageWithin b (AtSession conf items) = (n : ℕ) → is_among (tables_of conf) n ≡ true → is_among b.numbers n ≡ true
IsStageWithin b stage = Unit {0}

-- what a frame brings is among these
abbrev pub BringsWithin : Bounds → Frame → ParentState → Type 0
BringsWithin b (frames.Ack generation) old = IsStageWithin b old.reloads.stage
BringsWithin b (frames.Track a) old = is_tracked_in b.hops a ≡ true
BringsWithin b (frames.FibSet n p hop) old = is_in b.prefixes p ≡ true
BringsWithin b frame old = Unit {0}

-- the rows that the list of a unit may give have prefixes among these
abbrev pub ListsWithin : Bounds → Outside → Outside → Type 0
ListsWithin b before behind = (n : ℕ) (coupled : Bool) (wanted : Rows) (phase : Phase) (list : Listed coupled wanted (before.held n) phase before.listed behind.listed)
    → All (λ q. is_in b.prefixes q ≡ true) (keys_of list.rows)

-- a table that is coupled: its list, and a row to be put right for each prefix
abbrev pub couple_cost : Weights → Bounds → ℕ
couple_cost w b = 1 + w.listing + length b.prefixes

-- the calls that are still to be made on a table
abbrev pub phase_load : Weights → Bounds → Phase → ℕ
phase_load w b New = 0
phase_load w b (Listing coupled) = couple_cost w b
phase_load w b (Coupled known job) = length job
phase_load w b (Clearing job) = length job
phase_load w b Lost = 0

abbrev pub table_load : Weights → Bounds → Option TableState → ℕ
table_load w b None = 0
table_load w b (Some t) = phase_load w b t.phase

abbrev pub tables_load : Weights → Bounds → TablesState → ℕ
tables_load w b s = sum_by (λ n. table_load w b (table_at s n)) b.numbers

-- a frame that the parent writes
abbrev pub frame_cost : Weights → Core × Frame → ℕ
frame_cost w (Session, frames.Commit generation) = w.session_commit
frame_cost w (Decision, frames.Commit generation) = w.decision_commit
frame_cost w (core, frames.Nexthop hop valid) = w.nexthop
frame_cost w (core, frame) = 1

abbrev pub written_cost : Weights → List (Core × Frame) → ℕ
written_cost w written = sum_by (frame_cost w) written

-- what the Ack of the session core still lets out: the stage for the decision core, an answer on each next hop, and kernel
-- tables that are coupled
abbrev pub stage_load : Weights → Bounds → Stage → ℕ
stage_load w b Idle = 0
stage_load w b (AtSession conf items) =
    written_cost w (staged Decision items) + length b.hops * w.nexthop + length b.numbers * couple_cost w b
stage_load w b AtDecision = 0

-- what the parent still has to do
abbrev pub load : Weights → Bounds → ParentState → ℕ
load w b s = stage_load w b s.reloads.stage + tables_load w b s.tables

-- a frame that the parent takes
abbrev pub taking_cost : Weights → Bounds → Frame → ℕ
taking_cost w b (frames.Track a) = 1 + w.nexthop
taking_cost w b (frames.FibSet n p hop) = 2
taking_cost w b (frames.FibDel n p) = 2
taking_cost w b (frames.Couple n on) = 1 + couple_cost w b
taking_cost w b frame = 1

-- a configuration that is accepted: its stage for each core, and what it lets out
abbrev pub reload_cost : Weights → Bounds → ℕ → Conf → ℕ
reload_cost w b generation conf =
    let items = stage_items generation (canonical conf) in
    written_cost w (staged Session items) + stage_load w b (AtSession conf items)

-- So many turns are taken. What is still to come behind them, with the frames that were written, isn't more than before with
-- what was paid.
abbrev pub Costs : Weights → Bounds → ℕ → ℕ → ParentState → ParentState → Done → Type 0
Costs w b turns paid old new done = load w b new + written_cost w done.frames + turns ≤ load w b old + paid

-- A unit of work. Without a job it does nothing; a list of rows takes a turn, and its rows are counted apart; any other call
-- takes a turn.
abbrev pub CostsUnit : Weights → Bounds → ℕ → ℕ → ParentState → ParentState → Type 0
CostsUnit w b listed new_listed old new =
    ((new ≡ old) × LowestJob old.tables None)
    ⊎ (((new_listed ≡ listed) × (load w b new + 1 ≤ load w b old))
    ⊎ ((rows : Rows) × CountsListed {X = Prefix × Addr} {E = Unit {0}} listed new_listed (Ok rows) × (load w b new + w.listing + 1 ≤ load w b old + length rows)))
