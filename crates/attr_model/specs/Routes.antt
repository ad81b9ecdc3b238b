-- Routes by prefix, as a table of a speaker holds them (RFC 4271 section 3.2).
use Rattle.std.specs.Prelude.{List, [], ◌∷◌, Option}
use Rattle.std.specs.BTreeMap.{insert_entry, is_at}
use Rattle.std.specs.Map.{remove_entry, lookup}
use Rattle.net_base.specs.declared.prefix.Prefix.{Prefix}
use Rattle.net_base.specs.Order.{prefix_cmp}
use Rattle.attr_model.specs.declared.attrs.Attrs.{Attrs}

-- the routes in the order of their prefixes, no prefix twice
abbrev pub RouteTable : Type 0
RouteTable = List (Prefix × Attrs)

-- the attributes of the route of a prefix
abbrev pub route_at : RouteTable → Prefix → Option Attrs
route_at routes prefix = lookup (is_at (prefix_cmp prefix)) routes

-- without the route of a prefix
abbrev pub without_route : RouteTable → Prefix → RouteTable
without_route routes prefix = remove_entry (is_at (prefix_cmp prefix)) routes

-- with this route of a prefix in the place of the one that was there
abbrev pub with_route : Attrs → RouteTable → Prefix → RouteTable
with_route attrs routes prefix = insert_entry prefix_cmp routes prefix attrs
