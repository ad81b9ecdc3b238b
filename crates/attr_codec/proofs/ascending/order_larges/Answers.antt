use Rattle.std.proofs.Common.{◌∙◌}
use Rattle.attr_model.specs.Valid.{large_cmp}
use Rattle.std.proofs.lemmas.List.Filters.{dedup_is}
use Rattle.attr_model.proofs.LargeOrder.{large_total}
use Rattle.attr_codec.proofs.Ordered.{sorted_once, large_exact, large_ties}
use Rattle.attr_codec.proofs.ascending.order_larges.Goals as goal

pub returns : goal.returns
returns c =
    dedup_is _ c.sort_unstable.new.self.items c.dedup.new.self.items c.dedup.ensures.filtered
    ∙ sorted_once large_cmp large_total large_exact _ large_ties c.args.larges.now.items c.sort_unstable.new.self.items c.sort_unstable.ensures.permutation c.sort_unstable.ensures.sorted
