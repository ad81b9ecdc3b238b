-- Next hops, and the kernel routes by which they are valid.
use Rattle.std.specs.Prelude.{Bool, true, false, not, ◌&&◌, ◌||◌, nat_lt, List, Option, Some, None}
use Rattle.std.specs.BTreeMap.{is_at}
use Rattle.std.specs.BTreeSet.{insert_key}
use Rattle.std.specs.List.{list_any}
use Rattle.std.specs.Ordering.{eq_by_cmp}
use Rattle.std.specs.Set.{remove_key}
use Rattle.net_base.specs.declared.addr.Addr.{Addr}
use Rattle.net_base.specs.declared.prefix.Prefix.{Prefix}
use Rattle.net_base.specs.Bits.{prefix_of}
use Rattle.net_base.specs.Order.{addr_cmp, prefix_cmp}
use Rattle.net_base.specs.Prefix.{covers}
use Rattle.net_base.specs.Width.{width_of}

-- the kernel routes that are up, whether default routes qualify, and the addresses that are asked for, each in its order
pub record Hops : Type 0 where
  pub routes : List Prefix
  pub qualify_default : Bool
  pub tracked : List Addr

-- an address counts as its prefix of full length
abbrev pub host_of : Addr → Prefix
host_of a = prefix_of a (width_of a.family)

-- the route covers the address, and is longer than /0 where default routes don't qualify
abbrev pub makes_valid : Bool → Addr → Prefix → Bool
makes_valid qualify_default a p = covers p (host_of a) && (qualify_default || nat_lt 0 p.len)

-- some route makes the address valid
abbrev pub is_valid_by : Bool → List Prefix → Addr → Bool
is_valid_by qualify_default routes a = list_any (makes_valid qualify_default a) routes

unfoldable pub is_valid : Hops → Addr → Bool
is_valid hops a = is_valid_by hops.qualify_default hops.routes a

-- the prefix isn't the one left out
abbrev pub is_other : Option Prefix → Prefix → Bool
is_other None p = true
is_other (Some left_out) p = not (eq_by_cmp prefix_cmp left_out p)

-- some route but the one left out makes the address valid
abbrev pub is_valid_besides : Hops → Prefix → Addr → Bool
is_valid_besides hops left_out a = list_any (λ p. is_other (Some left_out) p && makes_valid hops.qualify_default a p) hops.routes

-- the address is one of these
abbrev pub is_tracked_in : List Addr → Addr → Bool
is_tracked_in tracked a = list_any (eq_by_cmp addr_cmp a) tracked

-- the routes with this one up, or down
abbrev pub with_route : Bool → List Prefix → Prefix → List Prefix
with_route true routes p = insert_key prefix_cmp routes p
with_route false routes p = remove_key (is_at (prefix_cmp p)) routes
