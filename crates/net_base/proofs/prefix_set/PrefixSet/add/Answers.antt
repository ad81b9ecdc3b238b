use Rattle.net_base.proofs.Order.{derived_prefix_cmp}
use Rattle.net_base.proofs.PrefixSets.{added}
use Rattle.net_base.proofs.prefix_set.PrefixSet.add.Goals as goal

pub returns-clause-members : goal.returns-clause-members
returns-clause-members c =
    let now = added _ derived_prefix_cmp c.self.inside.prefixes.keys c.insert.new.self.keys c.args.prefix c.in_ok-insert.ensures.updates.0 in
    λ q. rw (← c.self.view_is) (now q)
