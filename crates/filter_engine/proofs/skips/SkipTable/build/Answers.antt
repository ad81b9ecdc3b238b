use Rattle.std.proofs.Common.{◌∙◌, arith}
use Rattle.filter_engine.proofs.Linking.{linked_none}
use Rattle.filter_engine.proofs.skips.SkipTable.build.Goals as goal

pub link-requires : goal.link-requires
link-requires c =
    linked_none _ c.as_slice-rules.result.now _ _ _ (omega arith)
    (c.deref.ensures.value ∙ c.in_ok-buckets.ensures)
    (c.deref_mut.ensures.value ∙ c.in_ok-heads.ensures.items_if_clones_equal (λ y same. same))
    (c.deref_mut-2.ensures.value ∙ c.in_ok-next.ensures.items_if_clones_equal (λ y same. same))
