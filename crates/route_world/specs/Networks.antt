-- The routes of the networks alone, as they are shown.
use Rattle.std.specs.Prelude.{List, map, None}
use Rattle.conf_tree.specs.declared.conf.Conf.{Conf}
use Rattle.conf_tree.specs.declared.conf.Network.{Network}
use Rattle.attr_model.specs.declared.row.Flag.TheVariants.{Best}
use Rattle.attr_model.specs.declared.row.RouteRow.{RouteRow}
use Rattle.route_world.specs.Import.{network_candidate}

-- a network with its set, where nothing else competes with it
abbrev pub network_row : Conf → Network → RouteRow
network_row conf network = record {
  flag = Best;
  prefix = network.prefix;
  who = None;
  attrs = (network_candidate conf network).attrs.attrs;
}

-- by prefix
abbrev pub network_rows : Conf → List RouteRow
network_rows conf = map (network_row conf) conf.networks
