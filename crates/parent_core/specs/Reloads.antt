-- The machine of reloads: a configuration is accepted, the session core takes it up, then the decision core, one after another.
use Rattle.std.specs.Prelude.{ℕ, ◌+◌, Option, Some, None}
use Rattle.conf_tree.specs.declared.conf.Conf.{Conf}
use Rattle.conf_tree.specs.Canonical.{canonical}
use Rattle.reload_stage.specs.Stages.{stage_items}
use Rattle.parent_core.specs.declared.reloads.Reloads.{Reloads}
use Rattle.parent_core.specs.declared.reloads.Stage.{Stage}
use Rattle.parent_core.specs.declared.reloads.Stage.TheVariants.{Idle, AtSession, AtDecision}

-- the last accepted configuration, of this generation, is taken up everywhere
abbrev pub idle : ℕ → Reloads
idle generation = record { generation = generation; stage = Idle }

-- the generation that is accepted and isn't done
abbrev pub under_way_in : Stage → ℕ → Option ℕ
under_way_in Idle generation = None
under_way_in (AtSession conf items) generation = Some generation
under_way_in AtDecision generation = Some generation

abbrev pub under_way : Reloads → Option ℕ
under_way r = under_way_in r.stage r.generation

-- a configuration is accepted: it has the next generation, and its stage is the one of its canonical text
abbrev pub accepted : Conf → Reloads → Reloads
accepted conf r = record { generation = r.generation + 1; stage = AtSession conf (stage_items (r.generation + 1) (canonical conf)) }

-- the core that has to take it up has done so
abbrev pub next_stage : Stage → Stage
next_stage Idle = Idle
next_stage (AtSession conf items) = AtDecision
next_stage AtDecision = Idle
