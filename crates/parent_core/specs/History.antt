-- What the parent did so far, the newest step first, and what it keeps and gives by that.
use Rattle.std.specs.Prelude.{◌≡◌, ℕ, ◌+◌, Bool, false, ◌==◌, List, [], ◌∷◌, ◌++◌, map, Option, Some, None, unwrap_or, if◌then◌else◌}
use Rattle.std.specs.BTreeMap.{insert_entry, is_at}
use Rattle.std.specs.BTreeSet.{insert_key}
use Rattle.std.specs.Map.{remove_entry}
use Rattle.std.specs.Option.{option_map}
use Rattle.std.specs.Set.{remove_key}
use Rattle.net_base.specs.declared.prefix.Prefix.{Prefix}
use Rattle.net_base.specs.Order.{addr_cmp, prefix_cmp}
use Rattle.conf_tree.specs.declared.conf.Conf.{Conf}
use Rattle.conf_tree.specs.Canonical.{canonical}
use Rattle.conf_tree.specs.Empty.{empty_conf}
use Rattle.core_msgs.specs.declared.answer.Line.TheVariants.{Reloaded}
use Rattle.core_msgs.specs.declared.frame.Done.{Done}
use Rattle.core_msgs.specs.declared.frame.Frame.{Frame}
use Rattle.core_msgs.specs.declared.frame.Frame.TheVariants as frames
use Rattle.core_msgs.specs.declared.parts.Core.TheVariants.{Session, Decision}
use Rattle.kroute.specs.Rows.{Rows}
use Rattle.kroute.specs.Tables.{table_at}
use Rattle.nexthop_track.specs.Hops.{Hops, with_route}
use Rattle.nexthop_track.specs.Changes.{answer_of, answers_changed}
use Rattle.reload_stage.specs.Stages.{stage_items}
use Rattle.parent_core.specs.declared.reloads.Reloads.{Reloads}
use Rattle.parent_core.specs.declared.reloads.Stage.{Stage}
use Rattle.parent_core.specs.declared.reloads.Stage.TheVariants.{Idle, AtSession, AtDecision}
use Rattle.parent_core.specs.Calls.{loss}
use Rattle.parent_core.specs.Frames.{answered, nothing, only_frames, only_line, staged}
use Rattle.parent_core.specs.KernelTables.{is_among, tables_of}
use Rattle.parent_core.specs.Reloads.{accepted, idle}
use Rattle.parent_core.specs.State.{ParentState}

-- A step of the parent.
pub data Step : Type 0 where
  -- the configuration of a text was accepted
  Accepted : (conf : Conf) → Step
  -- a frame was taken
  Took : (frame : Frame) → Step
  -- a kernel route came up or went down
  Routed : (prefix : Prefix) (up : Bool) → Step
  -- a unit of work, with the table that was lost by it
  Worked : (lost : Option ℕ) → Step
  -- the next call of this number on a table was arranged to fail
  Arranged : (table : ℕ) (calls : ℕ) → Step

abbrev pub History : Type 0
History = List Step

-- What the parent keeps of its history: how far reloads are, the configuration that is taken up, next hops, and of each kernel
-- table the rows that are wanted since it was configured.
pub record Kept : Type 0 where
  pub reloads : Reloads
  pub conf : Conf
  pub hops : Hops
  pub wanted : ℕ → Option Rows

-- before the first step
abbrev pub nothing_kept : Kept
nothing_kept = record { reloads = idle 0; conf = empty_conf; hops = record { routes = []; qualify_default = false; tracked = [] }; wanted = λ n. None }

-- each table of the configuration is kept, or new; all others are forgotten
abbrev pub wanted_by : Conf → (ℕ → Option Rows) → ℕ → Option Rows
wanted_by conf wanted n = if is_among (tables_of conf) n then Some (unwrap_or (wanted n) []) else None

-- a core has taken up the last accepted configuration: the session core, with which the parent does, or the decision core
abbrev pub advanced : Stage → Kept → Kept
advanced Idle k = k
advanced (AtSession conf items) k = record {
  reloads = record { generation = k.reloads.generation; stage = AtDecision };
  conf = conf;
  hops = record k.hops { qualify_default = conf.qualify_default };
  wanted = wanted_by conf k.wanted;
}
advanced AtDecision k = record k { reloads = idle k.reloads.generation }

-- the rows of one table are changed, if it is configured
abbrev pub rows_changed : (Rows → Rows) → ℕ → (ℕ → Option Rows) → ℕ → Option Rows
rows_changed f table wanted n = if table == n then option_map f (wanted n) else wanted n

abbrev pub after_frame : Frame → Kept → Kept
after_frame (frames.Ack generation) k = if generation == k.reloads.generation then advanced k.reloads.stage k else k
after_frame (frames.Track a) k = record k { hops = record k.hops { tracked = insert_key addr_cmp k.hops.tracked a } }
after_frame (frames.Untrack a) k = record k { hops = record k.hops { tracked = remove_key (is_at (addr_cmp a)) k.hops.tracked } }
after_frame (frames.FibSet n p hop) k = record k { wanted = rows_changed (λ rows. insert_entry prefix_cmp rows p hop) n k.wanted }
after_frame (frames.FibDel n p) k = record k { wanted = rows_changed (λ rows. remove_entry (is_at (prefix_cmp p)) rows) n k.wanted }
after_frame frame k = k

abbrev pub after : Step → Kept → Kept
after (Accepted conf) k = record k { reloads = accepted conf k.reloads }
after (Took frame) k = after_frame frame k
after (Routed p up) k = record k { hops = record k.hops { routes = with_route up k.hops.routes p } }
after (Worked lost) k = k
after (Arranged table calls) k = k

abbrev pub kept : History → Kept
kept [] = nothing_kept
kept (step ∷ h) = after step (kept h)

-- what an Ack of the last accepted configuration gives: at the session core's the answers on next hops that changed, and the
-- stage for the decision core; at the decision core's the report
abbrev pub given_at : Stage → Kept → Done
given_at Idle k = nothing
given_at (AtSession conf items) k =
    only_frames (map answered (answers_changed k.hops (record k.hops { qualify_default = conf.qualify_default })) ++ staged Decision items)
given_at AtDecision k = only_line (Reloaded k.reloads.generation)

abbrev pub given_by : Frame → Kept → Done
given_by (frames.Ack generation) k = if generation == k.reloads.generation then given_at k.reloads.stage k else nothing
given_by (frames.Track a) k = only_frames (answered (answer_of k.hops a) ∷ [])
given_by frame k = nothing

-- what a step gives, by what was kept before it
abbrev pub given : Step → Kept → Done
given (Accepted conf) k = only_frames (staged Session (stage_items (k.reloads.generation + 1) (canonical conf)))
given (Took frame) k = given_by frame k
given (Routed p up) k = only_frames (map answered (answers_changed k.hops (record k.hops { routes = with_route up k.hops.routes p })))
given (Worked lost) k = loss lost
given (Arranged table calls) k = nothing

-- the rows that are wanted of a table, where it is configured
abbrev pub rows_of : ParentState → ℕ → Option Rows
rows_of s n = option_map (λ t. t.wanted) (table_at s.tables n)

-- What the parent has is what is kept.
pub record Has (s : ParentState) (k : Kept) : Type 0 where
  pub reloads : s.reloads ≡ k.reloads
  pub conf : s.conf ≡ k.conf
  pub hops : s.hops ≡ k.hops
  pub wanted : (n : ℕ) → rows_of s n ≡ k.wanted n

-- the parent stands for a history
abbrev pub Stands : ParentState → History → Type 0
Stands s h = Has s (kept h)

-- A step gave what it gives by the history before it, and the parent stands for the history with it.
abbrev pub Follows : Step → ParentState → ParentState → Done → Type 0
Follows step old new done = (h : History) → Stands old h → (done ≡ given step (kept h)) × Stands new (step ∷ h)
