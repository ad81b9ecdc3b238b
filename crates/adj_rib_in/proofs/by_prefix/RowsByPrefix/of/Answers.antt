use Rattle.net_base.specs.contracts.prefix.PrefixOrd.TheImpl.{cmp-value as derived}
use Rattle.net_base.proofs.Order.{derived_prefix_cmp}
use Rattle.adj_rib_in.proofs.Held.{ascending}
use Rattle.adj_rib_in.proofs.by_prefix.RowsByPrefix.of.Goals as goal

pub returns-in-Some-clause-by_prefix : goal.returns-in-Some-clause-by_prefix
returns-in-Some-clause-by_prefix c = ascending derived.it derived_prefix_cmp c.args.self.now c.self.inside.rows.entries c.self.view_is c.len-ascending.ensures.ordered

pub returns-in-None-clause-by_prefix : goal.returns-in-None-clause-by_prefix
returns-in-None-clause-by_prefix c = ascending derived.it derived_prefix_cmp c.args.self.now c.self.inside.rows.entries c.self.view_is c.len-ascending.ensures.ordered
