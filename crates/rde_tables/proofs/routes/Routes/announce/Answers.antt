use Rattle.std.proofs.Common.{[], ◌∷◌, ◌++◌, sym, subst}
use Rattle.adj_rib_in.specs.Uses.{kept as held_refs}
use Rattle.rib_multi.specs.Uses.{refs_of}
use Rattle.adj_rib_out.specs.Out.{kept as told_refs}
use Rattle.rde_tables.specs.Routes.{IsExact}
use Rattle.attr_intern.proofs.References.{came_front, came_back}
use Rattle.rde_tables.proofs.Kept.{keeps_handed, keeps_beside, keeps_announced, of_front, exact_on}
use Rattle.rde_tables.proofs.routes.Routes.announce.Goals as goal

pub hold_all-requires : goal.hold_all-requires
hold_all-requires c =
    let table = c.self.inside.table in
    let held = held_refs c.self.inside.held in
    let others = refs_of c.self.inside.ribs ++ told_refs c.self.inside.outs in
    (keeps_handed table c.intern.new.self (c.in_ok-one.one ∷ []) c.in_ok-one.ensures.hands).came held (came_front table held others c.self.invariant)

pub invariant_of-self-in_err-more : goal.invariant_of-self-in_err-more
invariant_of-self-in_err-more c =
    let table = c.self.inside.table in
    let held = held_refs c.self.inside.held in
    let others = refs_of c.self.inside.ribs ++ told_refs c.self.inside.outs in
    let one = c.in_ok-one.one in
    let came = (keeps_handed table c.intern.new.self (one ∷ []) c.in_ok-one.ensures.hands).came (held ++ others) c.self.invariant in
    came_back c.hold_all.new.table (one ∷ []) (held_refs c.hold_all.new.held ++ others) (c.hold_all.ensures.came others came)

pub give_back-requires : goal.give_back-requires
give_back-requires c =
    let table = c.self.inside.table in
    let held = held_refs c.self.inside.held in
    let others = refs_of c.self.inside.ribs ++ told_refs c.self.inside.outs in
    let one = c.in_ok-one.one in
    let came = (keeps_handed table c.intern.new.self (one ∷ []) c.in_ok-one.ensures.hands).came (held ++ others) c.self.invariant in
    of_front c.hold_all.new.table one (held_refs c.hold_all.new.held ++ others) (c.hold_all.ensures.came others came)

pub invariant_of-self-2 : goal.invariant_of-self-2
invariant_of-self-2 c =
    let table = c.self.inside.table in
    let held = held_refs c.self.inside.held in
    let others = refs_of c.self.inside.ribs ++ told_refs c.self.inside.outs in
    let keeps = keeps_announced table c.intern.new.self c.hold_all.new.table c.give_back.new.self c.in_ok-one.one held (held_refs c.hold_all.new.held) c.in_ok-one.ensures.hands c.hold_all.ensures c.give_back.ensures in
    keeps.came others c.self.invariant

pub returns-clause-exact : goal.returns-clause-exact
returns-clause-exact c exact =
    let table = c.self.inside.table in
    let held = held_refs c.self.inside.held in
    let new = held_refs c.hold_all.new.held in
    let others = refs_of c.self.inside.ribs ++ told_refs c.self.inside.outs in
    let keeps = keeps_announced table c.intern.new.self c.hold_all.new.table c.give_back.new.self c.in_ok-one.one held new c.in_ok-one.ensures.hands c.hold_all.ensures c.give_back.ensures in
    exact_on table c.give_back.new.self (held ++ others) (new ++ others) (keeps.came others c.self.invariant) (keeps_beside table c.give_back.new.self held new others keeps) (subst IsExact (sym c.self.view_is) exact)
