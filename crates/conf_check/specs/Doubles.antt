-- Names by their kind, and neighbours that come twice among those that were kept.
use Rattle.std.specs.Prelude.{ℕ, List, map, Option, option_map}
use Rattle.net_base.specs.declared.conf.ConfFault.{ConfFault}
use Rattle.net_base.specs.declared.conf.ConfKind.TheVariants.{DoubleNeighbour}
use Rattle.conf_tree.specs.declared.draft.Statement.{Statement}
use Rattle.conf_tree.specs.Checks.{fault_at, first_double, same_addr, rib_name_of, prefix_set_name_of, as_set_name_of, origin_set_name_of, group_name_of}
use Rattle.conf_check.specs.declared.doubles.NameKind.{NameKind}
use Rattle.conf_check.specs.declared.doubles.NameKind.TheVariants as kinds
use Rattle.conf_check.specs.declared.placed.PlacedNeighbour.{PlacedNeighbour}

abbrev pub name_of : NameKind → Statement → Option (List ℕ)
name_of kinds.Rib = rib_name_of
name_of kinds.PrefixSet = prefix_set_name_of
name_of kinds.AsSet = as_set_name_of
name_of kinds.OriginSet = origin_set_name_of
name_of kinds.Group = group_name_of

unfoldable pub double_neighbour_in : List PlacedNeighbour → Option ConfFault
double_neighbour_in all = option_map (fault_at DoubleNeighbour) (first_double same_addr (map (λ n. (n.line, n.address)) all))
