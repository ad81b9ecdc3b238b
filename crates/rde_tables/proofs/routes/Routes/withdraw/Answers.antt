use Rattle.std.proofs.Common.{◌++◌, sym, subst}
use Rattle.adj_rib_in.specs.Uses.{kept as held_refs, refs_of_route}
use Rattle.rib_multi.specs.Uses.{refs_of}
use Rattle.adj_rib_out.specs.Out.{kept as told_refs}
use Rattle.rde_tables.specs.Routes.{IsExact}
use Rattle.attr_intern.proofs.References.{came_front}
use Rattle.rde_tables.proofs.Kept.{keeps_came, keeps_beside, keeps_out, swapped_out, exact_on}
use Rattle.rde_tables.proofs.routes.Routes.withdraw.Goals as goal

pub give-requires : goal.give-requires
give-requires c =
    let table = c.self.inside.table in
    let old = held_refs c.self.inside.held in
    let new = held_refs c.unset-old.new.self in
    let going = refs_of_route c.unset-old.result in
    let others = refs_of c.self.inside.ribs ++ told_refs c.self.inside.outs in
    came_front table going new (keeps_came table table old (going ++ new) (swapped_out table old new going c.unset-old.ensures.swaps) (came_front table old others c.self.invariant))

pub invariant_of-self : goal.invariant_of-self
invariant_of-self c =
    let old = held_refs c.self.inside.held in
    let new = held_refs c.unset-old.new.self in
    let others = refs_of c.self.inside.ribs ++ told_refs c.self.inside.outs in
    let keeps = keeps_out c.self.inside.table c.give.new.table old new (refs_of_route c.unset-old.result) c.unset-old.ensures.swaps c.give.ensures in
    keeps.came others c.self.invariant

pub returns-clause-exact : goal.returns-clause-exact
returns-clause-exact c exact =
    let old = held_refs c.self.inside.held in
    let new = held_refs c.unset-old.new.self in
    let others = refs_of c.self.inside.ribs ++ told_refs c.self.inside.outs in
    let keeps = keeps_out c.self.inside.table c.give.new.table old new (refs_of_route c.unset-old.result) c.unset-old.ensures.swaps c.give.ensures in
    exact_on c.self.inside.table c.give.new.table (old ++ others) (new ++ others) (keeps.came others c.self.invariant) (keeps_beside c.self.inside.table c.give.new.table old new others keeps)
    (subst IsExact (sym c.self.view_is) exact)
