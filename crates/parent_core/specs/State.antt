-- What the parent keeps.
use Rattle.std.specs.Prelude.{Bool}
use Rattle.conf_tree.specs.declared.conf.Conf.{Conf}
use Rattle.kroute.specs.Tables.{TablesState}
use Rattle.nexthop_track.specs.Hops.{Hops}
use Rattle.parent_core.specs.declared.reloads.Reloads.{Reloads}

-- How far reloads are, the configuration that is taken up, the kernel tables, the next hops, and whether memory ran out.
pub record ParentState : Type 0 where
  pub reloads : Reloads
  pub conf : Conf
  pub tables : TablesState
  pub hops : Hops
  pub spent : Bool
