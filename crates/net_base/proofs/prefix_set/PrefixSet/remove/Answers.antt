use Rattle.net_base.proofs.Order.{derived_prefix_cmp}
use Rattle.net_base.proofs.PrefixSets.{removed}
use Rattle.net_base.proofs.prefix_set.PrefixSet.remove.Goals as goal

pub returns-clause-members : goal.returns-clause-members
returns-clause-members c =
    let now = removed _ derived_prefix_cmp c.self.inside.prefixes.keys c.remove.new.self.keys c.args.prefix c.remove.ensures.updates.0 in
    λ q. rw (← c.self.view_is) (now q)
