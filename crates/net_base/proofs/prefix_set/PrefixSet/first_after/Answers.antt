use Rattle.net_base.proofs.Order.{derived_prefix_cmp}
use Rattle.net_base.proofs.PrefixSets.{first_above}
use Rattle.net_base.proofs.prefix_set.PrefixSet.first_after.Goals as goal

pub returns : goal.returns
returns c =
    rw (c.copied.ensures, ← c.self.view_is)
    (first_above _ derived_prefix_cmp c.self.inside.prefixes c.args.after c.range.result c.next.new.self c.next.result (c.range.ensures.in_range tt) c.next.ensures.steps)
