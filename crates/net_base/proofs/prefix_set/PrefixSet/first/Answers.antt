use Rattle.net_base.proofs.Order.{derived_prefix_cmp}
use Rattle.net_base.proofs.PrefixSets.{first_of_all}
use Rattle.net_base.proofs.prefix_set.PrefixSet.first.Goals as goal

pub returns : goal.returns
returns c =
    rw (c.copied.ensures, ← c.self.view_is)
    (first_of_all _ derived_prefix_cmp c.self.inside.prefixes.keys c.first.result c.first.ensures.variant c.first.ensures.member c.first.ensures.least)
