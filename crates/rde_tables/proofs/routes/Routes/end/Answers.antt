use Rattle.std.proofs.Common.{◌++◌, sym, subst}
use Rattle.adj_rib_in.specs.Uses.{kept as held_refs, refs_of_routes}
use Rattle.rib_multi.specs.Uses.{refs_of}
use Rattle.adj_rib_out.specs.Out.{kept as told_refs}
use Rattle.rde_tables.specs.Routes.{AllRoutes, IsExact}
use Rattle.attr_intern.proofs.References.{came_front, came_back}
use Rattle.rde_tables.proofs.Kept.{keeps_came, keeps_out, keeps_beside, keeps_last, keeps_then, keeps_trades, swapped_out, exact_on, on_ok}
use Rattle.rde_tables.proofs.routes.Routes.end.Goals as goal

pub give_routes-requires : goal.give_routes-requires
give_routes-requires c =
    let table = c.self.inside.table in
    let old = held_refs c.self.inside.held in
    let new = held_refs c.drop_session.new.self in
    let going = refs_of_routes c.in_ok-dropped.dropped in
    let others = refs_of c.self.inside.ribs ++ told_refs c.self.inside.outs in
    came_front table going new (keeps_came table table old (going ++ new) (swapped_out table old new going c.in_ok-dropped.ensures.swaps) (came_front table old others c.self.invariant))

pub end-requires : goal.end-requires
end-requires c =
    let table = c.self.inside.table in
    let after = c.give_routes.new.table in
    let old = held_refs c.self.inside.held in
    let new = held_refs c.drop_session.new.self in
    let ribs = refs_of c.self.inside.ribs in
    let told = told_refs c.self.inside.outs in
    let keeps = keeps_out table after old new (refs_of_routes c.in_ok-dropped.dropped) c.in_ok-dropped.ensures.swaps c.give_routes.ensures in
    came_back after ribs told (came_back after new (ribs ++ told) (keeps.came (ribs ++ told) c.self.invariant))

pub invariant_of-self-2 : goal.invariant_of-self-2
invariant_of-self-2 c =
    let table = c.self.inside.table in
    let mid = c.give_routes.new.table in
    let after = c.end.new.table in
    let old = held_refs c.self.inside.held in
    let new = held_refs c.drop_session.new.self in
    let ribs = refs_of c.self.inside.ribs in
    let told = told_refs c.self.inside.outs in
    let left = told_refs c.end.new.self in
    let first = keeps_out table mid old new (refs_of_routes c.in_ok-dropped.dropped) c.in_ok-dropped.ensures.swaps c.give_routes.ensures in
    let second = keeps_last mid after new ribs told left (keeps_trades mid after told left c.end.ensures.uses) in
    keeps_came mid after (new ++ (ribs ++ told)) (new ++ (ribs ++ left)) second (first.came (ribs ++ told) c.self.invariant)

pub returns-clause-exact : goal.returns-clause-exact
returns-clause-exact c exact =
    let table = c.self.inside.table in
    let mid = c.give_routes.new.table in
    let after = c.end.new.table in
    let old = held_refs c.self.inside.held in
    let new = held_refs c.drop_session.new.self in
    let ribs = refs_of c.self.inside.ribs in
    let told = told_refs c.self.inside.outs in
    let left = told_refs c.end.new.self in
    let first = keeps_out table mid old new (refs_of_routes c.in_ok-dropped.dropped) c.in_ok-dropped.ensures.swaps c.give_routes.ensures in
    let second = keeps_last mid after new ribs told left (keeps_trades mid after told left c.end.ensures.uses) in
    let all = keeps_then table mid after (old ++ (ribs ++ told)) (new ++ (ribs ++ told)) (new ++ (ribs ++ left)) (keeps_beside table mid old new (ribs ++ told) first) second in
    let came = keeps_came table after (old ++ (ribs ++ told)) (new ++ (ribs ++ left)) all c.self.invariant in
    let now : AllRoutes = record { table = after; held = c.drop_session.new.self; ribs = c.self.inside.ribs; outs = c.end.new.self } in
    on_ok (IsExact now) c.prefixes_in-prefixes.result
    (exact_on table after (old ++ (ribs ++ told)) (new ++ (ribs ++ left)) came all (subst IsExact (sym c.self.view_is) exact))
