use Rattle.std.proofs.Common.{[], ◌∷◌, ap, subst}
use Rattle.attr_intern.specs.Table.{CameFrom}
use Rattle.adj_rib_in.specs.Uses.{refs_of_routes}
use Rattle.rde_tables.specs.Uses.{Keeps}
use Rattle.rde_tables.proofs.Kept.{keeps_came, keeps_then, keeps_beside, keeps_given, of_front}
use Rattle.rde_tables.proofs.giving.give_routes.Goals as goal

pub give_back-requires : goal.give_back-requires
give_back-requires c =
    let left = ap refs_of_routes c.in-Some.ensures.steps.0 in
    let table = c.loop-route.table in
    let came = keeps_came c.args.table.now table (refs_of_routes c.args.routes) (refs_of_routes c.loop-route.route-iterator.rest.items) c.loop-route.invariant c.requires in
    of_front table c.in-Some.route.1 (refs_of_routes c.next.new.self.rest.items) (subst (CameFrom table) left came)

pub loop-route-preserved : goal.loop-route-preserved
loop-route-preserved c =
    let left = ap refs_of_routes c.in-Some.ensures.steps.0 in
    let table = c.loop-route.table in
    let after = c.give_back.new.self in
    let all = refs_of_routes c.args.routes in
    let one = c.in-Some.route.1 in
    let rest = refs_of_routes c.next.new.self.rest.items in
    keeps_then c.args.table.now table after all (one ∷ rest) rest (subst (Keeps c.args.table.now table all) left c.loop-route.invariant)
    (keeps_beside table after (one ∷ []) [] rest (keeps_given table after (one ∷ []) c.give_back.ensures))
