use Rattle.adj_rib_in.proofs.Lists.{lists_less}
use Rattle.adj_rib_in.proofs.table.AdjRibIn.unset.Goals as goal

pub invariant_of-self : goal.invariant_of-self
invariant_of-self c = lists_less c.self.inside.prefixes c.remove.new.self c.self.inside.rows c.unset-old.new.self c.args.prefix c.args.session c.self.invariant c.remove.ensures c.unset-old.ensures.row
