-- What the calls of the parent do.
use Rattle.std.specs.Prelude.{◌≡◌, ◌≢◌, ℕ, ◌+◌, Bool, true, false, List, [], ◌∷◌, ◌++◌, map, Option, Some, None, Result, Ok, Err}
use Rattle.std.specs.BTreeMap.{is_at}
use Rattle.std.specs.BTreeSet.{insert_key}
use Rattle.std.specs.Set.{remove_key}
use Rattle.net_base.specs.declared.addr.Addr.{Addr}
use Rattle.net_base.specs.declared.prefix.Prefix.{Prefix}
use Rattle.net_base.specs.Order.{addr_cmp}
use Rattle.conf_tree.specs.declared.conf.Conf.{Conf}
use Rattle.conf_tree.specs.Canonical.{canonical}
use Rattle.conf_tree.specs.Language.{configuration}
use Rattle.core_msgs.specs.declared.answer.Line.TheVariants.{Reloaded, KernelLost}
use Rattle.core_msgs.specs.declared.frame.Done.{Done}
use Rattle.core_msgs.specs.declared.frame.Frame.{Frame}
use Rattle.core_msgs.specs.declared.frame.Frame.TheVariants as frames
use Rattle.core_msgs.specs.declared.parts.Core.TheVariants.{Session, Decision}
use Rattle.kroute.specs.Calls.{Outside}
use Rattle.kroute.specs.Table.{TableState, wants, wants_no}
use Rattle.kroute.specs.Tables.{ChangesTable}
use Rattle.kroute.specs.Units.{IsUnit}
use Rattle.nexthop_track.specs.Hops.{with_route}
use Rattle.nexthop_track.specs.Changes.{answer_of, answers_changed}
use Rattle.reload_stage.specs.declared.item.StageItem.{StageItem}
use Rattle.reload_stage.specs.Stages.{stage_items}
use Rattle.parent_core.specs.declared.fault.ReloadRefusal.{ReloadRefusal}
use Rattle.parent_core.specs.declared.fault.ReloadRefusal.TheVariants as refusals
use Rattle.parent_core.specs.declared.reloads.Stage.{Stage}
use Rattle.parent_core.specs.declared.reloads.Stage.TheVariants.{Idle, AtSession, AtDecision}
use Rattle.parent_core.specs.Frames.{answered, nothing, only_frames, only_line, staged}
use Rattle.parent_core.specs.KernelTables.{Configures, switched_to}
use Rattle.parent_core.specs.Reloads.{accepted, idle, under_way}
use Rattle.parent_core.specs.State.{ParentState}

-- A configuration is accepted: it has the next generation, and its stage goes to the session core.
pub record Accepts (conf : Conf) (given : ℕ × Done) (old new : ParentState) : Type 0 where
  pub state : new ≡ record old { reloads = accepted conf old.reloads }
  pub generation : given.0 ≡ old.reloads.generation + 1
  pub frames : given.1 ≡ only_frames (staged Session (stage_items (old.reloads.generation + 1) (canonical conf)))

-- A text is accepted: nothing was under way, and it says this configuration.
pub record AcceptsText (text : List ℕ) (given : ℕ × Done) (old new : ParentState) : Type 0 where
  pub live : old.spent ≡ false
  pub was_idle : under_way old.reloads ≡ None
  pub conf : Conf
  pub says : configuration text ≡ Ok conf
  pub accepts : Accepts conf given old new

-- why a reload is refused
abbrev pub IsRefusedFor : List ℕ → ParentState → ReloadRefusal → Type 0
IsRefusedFor text old refusals.Spent = old.spent ≡ true
IsRefusedFor text old (refusals.UnderWay generation) = (old.spent ≡ false) × (under_way old.reloads ≡ Some generation)
IsRefusedFor text old (refusals.Refused fault) = (old.spent ≡ false) × (under_way old.reloads ≡ None) × (configuration text ≡ Err fault)
IsRefusedFor text old refusals.NoMemory = (old.spent ≡ false) × (under_way old.reloads ≡ None)

-- what a reload answers
abbrev pub AnswersReload : List ℕ → ParentState → ParentState → Result (ℕ × Done) ReloadRefusal → Type 0
AnswersReload text old new (Ok given) = AcceptsText text given old new
AnswersReload text old new (Err refusal) = IsRefusedFor text old refusal

-- nothing is done
abbrev pub PassesOver : ParentState → ParentState → Done → Type 0
PassesOver old new done = (new ≡ old) × (done ≡ nothing)

-- A kernel table is changed where it is configured, and nothing else.
pub record ChangesKernelTable (f : TableState → TableState) (n : ℕ) (old new : ParentState) : Type 0 where
  pub table : ChangesTable f n old.tables new.tables
  pub arranged : new.tables.arranged ≡ old.tables.arranged
  pub rest : new ≡ record old { tables = new.tables }

-- A configuration is taken up: its kernel tables, and whether default routes qualify next hops. The answers that change by that
-- go to the decision core, and then the stage.
pub record TakesUp (conf : Conf) (items : List StageItem) (old new : ParentState) (done : Done) : Type 0 where
  pub tables : Configures old.conf conf old.tables new.tables
  pub arranged : new.tables.arranged ≡ old.tables.arranged
  pub rest : new ≡ record {
    reloads = record { generation = old.reloads.generation; stage = AtDecision };
    conf = conf;
    tables = new.tables;
    hops = record old.hops { qualify_default = conf.qualify_default };
    spent = old.spent;
  }
  pub given : done ≡ only_frames (map answered (answers_changed old.hops new.hops) ++ staged Decision items)

-- An Ack of the last generation. Where the session core has to take it up, the parent does too; where the decision core has to,
-- the reload is done.
abbrev pub Advances : Stage → ParentState → ParentState → Done → Type 0
Advances Idle old new done = PassesOver old new done
Advances (AtSession conf items) old new done = TakesUp conf items old new done
Advances AtDecision old new done = (new ≡ record old { reloads = idle old.reloads.generation }) × (done ≡ only_line (Reloaded old.reloads.generation))

-- An Ack of another generation is passed over.
pub record Acks (generation : ℕ) (old new : ParentState) (done : Done) : Type 0 where
  pub last : generation ≡ old.reloads.generation → Advances old.reloads.stage old new done
  pub other : generation ≢ old.reloads.generation → PassesOver old new done

-- a next hop is tracked, and answered
abbrev pub Tracks : Addr → ParentState → ParentState → Done → Type 0
Tracks a old new done = (new ≡ record old { hops = record old.hops { tracked = insert_key addr_cmp old.hops.tracked a } })
    × (done ≡ only_frames (answered (answer_of old.hops a) ∷ []))

-- a next hop is tracked no longer
abbrev pub Untracks : Addr → ParentState → ParentState → Done → Type 0
Untracks a old new done = (new ≡ record old { hops = record old.hops { tracked = remove_key (is_at (addr_cmp a)) old.hops.tracked } })
    × (done ≡ nothing)

-- a kernel table is changed, and nothing written
abbrev pub Changes : (TableState → TableState) → ℕ → ParentState → ParentState → Done → Type 0
Changes f n old new done = ChangesKernelTable f n old new × (done ≡ nothing)

-- what a frame does; one of another kind is passed over
abbrev pub Takes : Frame → ParentState → ParentState → Done → Type 0
Takes (frames.Ack generation) old new done = Acks generation old new done
Takes (frames.Track a) old new done = Tracks a old new done
Takes (frames.Untrack a) old new done = Untracks a old new done
Takes (frames.FibSet n p hop) old new done = Changes (wants p hop) n old new done
Takes (frames.FibDel n p) old new done = Changes (wants_no p) n old new done
Takes (frames.Couple n on) old new done = Changes (switched_to on) n old new done
Takes frame old new done = PassesOver old new done

-- A kernel route comes up or goes down: the answers that change by it go to the decision core.
pub record Routes (p : Prefix) (up : Bool) (old new : ParentState) (done : Done) : Type 0 where
  pub state : new ≡ record old { hops = record old.hops { routes = with_route up old.hops.routes p } }
  pub given : done ≡ only_frames (map answered (answers_changed old.hops new.hops))

-- the report of a table that is lost
abbrev pub loss : Option ℕ → Done
loss None = nothing
loss (Some n) = only_line (KernelLost n)

-- One unit of work on the kernel tables. A table that is lost by it is reported.
pub record Works (old new : ParentState) (done : Done) (before after : Outside) : Type 0 where
  pub lost : Option ℕ
  pub unit : IsUnit lost old.tables new.tables before after
  pub rest : new ≡ record old { tables = new.tables }
  pub given : done ≡ loss lost
