use Rattle.kroute.proofs.Lists.{on_err, put_back}
use Rattle.kroute.proofs.tables.Tables.change.Goals as goal

pub returns-clause-err : goal.returns-clause-err
returns-clause-err c =
    let maps = c.get_mut.follows in
    on_err c.change.result (λ same. put_back c.args.table c.self.inside.tables.entries (maps.lender c.change.new.self).entries c.self.inside.arranged.entries c.in-Some.found.now c.change.new.self c.args.self.now
    (maps.holds c.change.new.self).0 same c.in-Some.ensures.value c.self.view_is) c.change.ensures.err
