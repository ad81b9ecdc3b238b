-- The parent and the kernel's rows behind any calls.
use Rattle.std.specs.Prelude.{◌≡◌, ℕ, false, [], ◌∷◌, Option}
use Rattle.conf_tree.specs.Empty.{empty_conf}
use Rattle.core_msgs.specs.declared.frame.Done.{Done}
use Rattle.kroute.specs.Calls.{Outside}
use Rattle.kroute.specs.Rows.{Rows}
use Rattle.parent_core.specs.Calls.{Routes, Takes, Works}
use Rattle.parent_core.specs.History.{History, Step, Accepted, Took, Routed, Worked, Arranged}
use Rattle.parent_core.specs.Reloads.{accepted, idle}
use Rattle.parent_core.specs.State.{ParentState}

-- the rows of each kernel table, where they are told
abbrev pub Held : Type 0
Held = ℕ → Option Rows

-- before the first call
abbrev pub new_parent : ParentState
new_parent = record {
  reloads = idle 0;
  conf = empty_conf;
  tables = record { tables = []; arranged = [] };
  hops = record { routes = []; qualify_default = false; tracked = [] };
  spent = false;
}

-- A unit of work, with the table that was lost by it and the kernel's rows before and behind it.
pub record WorksOn (lost : Option ℕ) (old new : ParentState) (was held : Held) : Type 0 where
  pub done : Done
  pub before : Outside
  pub behind : Outside
  pub works : Works old new done before behind
  pub lost_by_it : works.lost ≡ lost
  pub rows_before : before.held ≡ was
  pub rows_behind : behind.held ≡ held

-- What a step does to the parent and to the kernel's rows, which no step but a unit of work changes.
abbrev pub Does : Step → ParentState → ParentState → Held → Held → Type 0
Does (Accepted conf) old new was held = (new ≡ record old { reloads = accepted conf old.reloads }) × (held ≡ was)
Does (Took frame) old new was held = (done : Done) × Takes frame old new done × (held ≡ was)
Does (Routed p up) old new was held = (done : Done) × Routes p up old new done × (held ≡ was)
Does (Worked lost) old new was held = WorksOn lost old new was held
Does (Arranged table calls) old new was held = (new.tables.tables ≡ old.tables.tables) × (new ≡ record old { tables = new.tables }) × (held ≡ was)

-- The steps lead from a new parent to this one, and to these rows of the kernel.
abbrev pub LeadsTo : History → ParentState → Held → Type 0
LeadsTo [] s held = s ≡ new_parent
LeadsTo (step ∷ h) s held = (old : ParentState) × (was : Held) × LeadsTo h old was × Does step old s was held
