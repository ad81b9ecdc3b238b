use Rattle.kroute.proofs.Lists.{on_err, put_back}
use Rattle.kroute.proofs.tables.Tables.call.Goals as goal

pub returns-clause-same : goal.returns-clause-same
returns-clause-same g c =
    let maps = c.get_mut.follows in
    on_err c.call.result (λ same. put_back c.args.number c.self.inside.tables.entries (maps.lender c.call.new.self).entries c.self.inside.arranged.entries c.in-Some.table.now c.call.new.self c.args.self.now
    (maps.holds c.call.new.self).0 same c.in-Some.ensures.value c.self.view_is) c.call.ensures.same
