use Rattle.std.proofs.Common.{◌∙◌}
use Rattle.std.specs.Ordering.{nat_cmp}
use Rattle.std.specs.Cmp.{unsigned_ties}
use Rattle.std.proofs.lemmas.Cmp.{nat_cmp_total}
use Rattle.std.proofs.lemmas.List.Filters.{dedup_is}
use Rattle.std.proofs.lemmas.Map.Lookups.{exact_unsigned}
use Rattle.attr_codec.proofs.Ordered.{sorted_once}
use Rattle.attr_codec.proofs.ascending.order_communities.Goals as goal

pub returns : goal.returns
returns c =
    dedup_is _ c.sort_unstable.new.self.items c.dedup.new.self.items c.dedup.ensures.filtered
    ∙ sorted_once nat_cmp nat_cmp_total exact_unsigned _ unsigned_ties c.args.communities.now.items c.sort_unstable.new.self.items c.sort_unstable.ensures.permutation c.sort_unstable.ensures.sorted
