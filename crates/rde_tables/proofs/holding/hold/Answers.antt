use Rattle.adj_rib_in.specs.Uses.{kept, refs_of_route}
use Rattle.rde_tables.proofs.Kept.{held_anew, held_not}
use Rattle.rde_tables.proofs.holding.hold.Goals as goal

pub returns-in-Ok : goal.returns-in-Ok
returns-in-Ok c =
    held_anew c.args.table.now c.again.new.self c.give.new.table c.args.one.now c.in_ok-attrs.attrs (kept c.args.held.now) (kept c.set.new.self) (refs_of_route c.in-Ok.old)
    c.in_ok-attrs.ensures.hands c.in-Ok.ensures.swaps c.give.ensures

pub returns-in-Err : goal.returns-in-Err
returns-in-Err c =
    held_not c.args.table.now c.again.new.self c.give_back.new.self c.args.one.now c.in_ok-attrs.attrs c.in-Err.attrs (kept c.args.held.now) (kept c.set.new.self)
    c.in_ok-attrs.ensures.hands c.in-Err.ensures.stay c.in-Err.ensures.back c.give_back.ensures
