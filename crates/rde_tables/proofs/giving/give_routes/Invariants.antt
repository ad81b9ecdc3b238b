use Rattle.adj_rib_in.specs.Uses.{refs_of_routes}
use Rattle.rde_tables.specs.Uses.{Keeps}
use Rattle.rde_tables.proofs.giving.give_routes.Given as goal

-- What isn't left was given back.
abbrev pub invariant-loop-route : goal.invariant-loop-route
invariant-loop-route l = Keeps l.fn.table l.table (refs_of_routes l.fn.routes) (refs_of_routes l.route-iterator.rest.items)
