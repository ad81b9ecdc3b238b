use Rattle.std.proofs.Common.{Iter, subst, sym, ap, ◌∙◌}
use Rattle.std.specs.Slice.Iter.{iter_rest}
use Rattle.net_base.specs.declared.addr.Addr.{Addr}
use Rattle.net_base.specs.declared.prefix.Prefix.{Prefix}
use Rattle.kroute.specs.Rows.{Rows}
use Rattle.kroute.proofs.Steps.{Differing, none_differ, one_differs, one_is_right, all_differing}
use Rattle.kroute.proofs.listing.differing.Goals as goal

pub loop-prefix-init : goal.loop-prefix-init
loop-prefix-init c =
    none_differ c.new-job.result c.args.wanted.now.entries (iter_rest c.into_iter-prefix-iterator.result) c.args.rows.now c.new-job.ensures
    (ap (λ (it : Iter (Prefix × Addr)). iter_rest it) c.into_iter-prefix-iterator.ensures.into_iter_gives ∙ c.iter-prefix-items.ensures.rest) c.requires

pub loop-prefix-preserved-in-Continue-1 : goal.loop-prefix-preserved-in-Continue-1
loop-prefix-preserved-in-Continue-1 c =
    let wanted = c.args.wanted.now.entries in
    one_differs c.loop-prefix.job c.add.new.self wanted c.in-Some.field-0.now (iter_rest c.next.new.self) c.args.rows.now c.in_ok-add.ensures.ok
    (sym c.differs.ensures ∙ c.if-differs.true)
    (subst (λ (rows : Rows). Differing c.loop-prefix.job wanted rows c.args.rows.now) c.in-Some.ensures.steps c.loop-prefix.invariant)

pub loop-prefix-preserved : goal.loop-prefix-preserved
loop-prefix-preserved c =
    let wanted = c.args.wanted.now.entries in
    one_is_right c.loop-prefix.job wanted c.in-Some.field-0.now (iter_rest c.next.new.self) c.args.rows.now (sym c.differs.ensures ∙ c.if-differs.false)
    (subst (λ (rows : Rows). Differing c.loop-prefix.job wanted rows c.args.rows.now) c.in-Some.ensures.steps c.loop-prefix.invariant)

pub returns : goal.returns
returns c = all_differing c.loop-prefix.job c.args.wanted.now.entries (iter_rest c.loop-prefix.prefix-iterator) c.args.rows.now c.in-None.ensures.steps.0 c.loop-prefix.invariant
