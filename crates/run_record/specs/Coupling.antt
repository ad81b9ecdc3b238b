-- Which kernel tables take routes, by the events and answers so far.
use Rattle.std.specs.Prelude.{ℕ, Bool, true, false, not, ◌==◌, ◌||◌, if◌then◌else◌, List, [], ◌∷◌, map, flat_map, find, fold, Option, Some, None, option_map, option_to_list, unwrap_or, Ok}
use Rattle.std.specs.Result.{result_ok}
use Rattle.conf_tree.specs.declared.conf.Conf.{Conf}
use Rattle.conf_tree.specs.declared.conf.Rib.{Rib}
use Rattle.core_msgs.specs.declared.row.Coupling.{Coupling}
use Rattle.core_msgs.specs.declared.row.Coupling.TheVariants.{Coupled, Decoupled, Lost}
use Rattle.core_msgs.specs.declared.event.Event.{Event}
use Rattle.core_msgs.specs.declared.event.Event.TheVariants as event
use Rattle.core_msgs.specs.declared.control.CtlCommand.{CtlCommand}
use Rattle.core_msgs.specs.declared.control.CtlCommand.TheVariants as command
use Rattle.core_msgs.specs.declared.answer.Line.{Line}
use Rattle.core_msgs.specs.declared.answer.Line.TheVariants as line
use Rattle.ctl_show.specs.Commands.{command_of}
use Rattle.run_record.specs.Run.{History, conf}

-- the numbers of a configuration's kernel tables: Loc-RIB has table 0
abbrev pub table_numbers : Conf → List ℕ
table_numbers conf = 0 ∷ flat_map (λ (rib : Rib). option_to_list rib.table) conf.ribs

-- the kernel tables of the configuration that sessions have, each with its state; before the first there is none
pub record KernelTables : Type 0 where
  pub applied : Option Conf
  pub states : List (ℕ × Coupling)

abbrev pub state_of : List (ℕ × Coupling) → ℕ → Option Coupling
state_of states table = option_map (λ entry. entry.1) (find (λ entry. entry.0 == table) states)

-- A lost table that is decoupled stays lost.
abbrev pub decoupled : Coupling → Coupling
decoupled Lost = Lost
decoupled _ = Decoupled

abbrev pub turned : Bool → Coupling → Coupling
turned true state = Coupled
turned false state = decoupled state

-- A table that is new, and every table where the switch changed, goes by the switch.
abbrev pub state_under : Bool → Bool → Option Coupling → Coupling
state_under on changed None = turned on Decoupled
state_under on changed (Some state) = if changed then turned on state else state

abbrev pub has_switched : Option Conf → Conf → Bool
has_switched None conf = true
has_switched (Some before) conf = not (if before.fib_update then conf.fib_update else not conf.fib_update)

abbrev pub under : KernelTables → Conf → KernelTables
under tables conf = record {
  applied = Some conf;
  states = map (λ table. (table, state_under conf.fib_update (has_switched tables.applied conf) (state_of tables.states table))) (table_numbers conf);
}

abbrev pub with_states : (ℕ → Coupling → Coupling) → KernelTables → KernelTables
with_states change tables = record tables { states = map (λ entry. (entry.0, change entry.0 entry.1)) tables.states }

-- Sessions take up the last accepted configuration, and a call of the kernel fails.
abbrev pub line_told : Conf → KernelTables → Line → KernelTables
line_told conf tables (line.AppliedSession generation) = under tables conf
line_told conf tables (line.KernelLost table) = with_states (λ number state. if number == table then Lost else state) tables
line_told conf tables _ = tables

-- A command couples or decouples a table, or all.
abbrev pub command_told : KernelTables → Option CtlCommand → KernelTables
command_told tables (Some (command.Couple None on)) = with_states (λ number state. turned on state) tables
command_told tables (Some (command.Couple (Some table) on)) = with_states (λ number state. if number == table then turned on state else state) tables
command_told tables _ = tables

abbrev pub event_told : KernelTables → Event → Line → KernelTables
event_told tables (event.Ctl words) line.Ok = command_told tables (result_ok (command_of words))
event_told tables _ _ = tables

-- the kernel tables behind a history
abbrev pub kernel_tables : History → KernelTables
kernel_tables [] = record { applied = None; states = [] }
kernel_tables (step ∷ before) = event_told (fold (line_told (conf before)) (kernel_tables before) step.answer.lines) step.event step.answer.last
