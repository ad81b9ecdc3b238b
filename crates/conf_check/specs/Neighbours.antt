-- The flat neighbours of those that were kept.
use Rattle.std.specs.Prelude.{List, [], map, true, false, option_and_then, unwrap_or}
use Rattle.net_base.specs.declared.addr.Addr.{Addr}
use Rattle.net_base.specs.declared.addr.Family.TheVariants.{V4, V6}
use Rattle.net_base.specs.Order.{addr_cmp, same_family}
use Rattle.conf_tree.specs.declared.conf.Conf.{Conf}
use Rattle.conf_tree.specs.declared.neighbour.Neighbour.{Neighbour}
use Rattle.conf_tree.specs.Flat.{by_key, rib_number}
use Rattle.conf_check.specs.declared.placed.PlacedNeighbour.{PlacedNeighbour}

unfoldable pub neighbour_with : Conf → PlacedNeighbour → Neighbour
neighbour_with conf n = record {
  address = n.address;
  group = n.group;
  remote_as = unwrap_or n.settings.plain.remote_as 0;
  local_address = n.settings.plain.local_address;
  description = n.settings.description;
  port = unwrap_or n.settings.plain.port 179;
  passive = unwrap_or n.settings.plain.passive false;
  down = unwrap_or n.settings.plain.down false;
  multihop = n.settings.plain.multihop;
  hold = unwrap_or n.settings.plain.hold conf.hold;
  hold_min = unwrap_or n.settings.plain.hold_min conf.hold_min;
  announce_v4 = unwrap_or n.settings.plain.announce_v4 (same_family n.address.family V4);
  announce_v6 = unwrap_or n.settings.plain.announce_v6 (same_family n.address.family V6);
  announce_refresh = unwrap_or n.settings.plain.announce_refresh true;
  announce_as_4byte = unwrap_or n.settings.plain.announce_as_4byte true;
  max_prefix = n.settings.plain.max_prefix;
  rib = unwrap_or (option_and_then (rib_number conf.ribs) n.settings.rib) 0;
  set = unwrap_or n.settings.set [];
}

abbrev pub neighbours_by_address : Conf → List PlacedNeighbour → List (Addr × Neighbour)
neighbours_by_address conf all = by_key addr_cmp (map (λ n. (n.address, neighbour_with conf n)) all)

abbrev pub neighbours_with : Conf → List PlacedNeighbour → List Neighbour
neighbours_with conf all = map (λ entry. entry.1) (neighbours_by_address conf all)
