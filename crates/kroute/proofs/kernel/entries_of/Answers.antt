use Rattle.std.proofs.Common.{◌≡◌, rules}
use Rattle.net_base.specs.contracts.prefix.PrefixOrd.TheImpl.{cmp-value as derived}
use Rattle.net_base.proofs.Order.{derived_prefix_cmp}
use Rattle.kroute.proofs.Lists.{by_order}
use Rattle.kroute.proofs.kernel.entries_of.Goals as goal

pub returns-clause-by_prefix : goal.returns-clause-by_prefix
returns-clause-by_prefix c =
    let all : c.loop-prefix.list ≡ c.args.rows.now.entries = search rules in
    by_order derived.it derived_prefix_cmp c.loop-prefix.list c.args.rows.now.entries all c.iter-prefix-items.ensures.ordered
