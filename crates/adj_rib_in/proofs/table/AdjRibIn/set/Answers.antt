use Rattle.adj_rib_in.specs.declared.row.Entry.{Entry}
use Rattle.adj_rib_in.proofs.Lists.{lists_put, lists_same, either}
use Rattle.adj_rib_in.proofs.table.AdjRibIn.set.Goals as goal

pub invariant_of-self-2 : goal.invariant_of-self-2
invariant_of-self-2 c =
    let route : Entry = record { session = c.args.session; attrs = c.args.attrs } in
    either c.set.result
    (λ row. lists_put c.self.inside.prefixes c.add.new.self c.self.inside.rows c.set.new.self c.args.prefix route c.self.invariant c.in-Ok.ensures.stays c.in-Ok.ensures.added row)
    (λ same. lists_same c.self.inside.prefixes c.add.new.self c.self.inside.rows c.set.new.self c.self.invariant c.in-Ok.ensures.stays same)
    c.set.ensures.row c.set.ensures.same
