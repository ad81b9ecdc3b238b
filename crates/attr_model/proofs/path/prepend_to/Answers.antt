use Rattle.std.proofs.Common.{min, ap, sym, ◌∙◌, arith}
use Rattle.attr_model.proofs.Prepending.{without_front, with_front}
use Rattle.attr_model.proofs.path.prepend_to.Goals as goal

pub returns-in_default-clause-ok : goal.returns-in_default-clause-ok
returns-in_default-clause-ok c =
    rw (← without_front c.args.asn c.args.times c.args.segments.now.items (rw (← c.as_slice.ensures.value) (sym c.in_default.ensures)) (omega arith)) c.in_ok-begin.ensures.ok

pub returns-clause-ok : goal.returns-clause-ok
returns-clause-ok c =
    let least = c.min-filled.ensures ∙ ap (λ n. min c.args.times n) c.saturating_sub.ensures in
    rw (c.in_ok-place.ensures.ok, c.in_ok-grown.ensures) (with_front c.args.asn c.args.times c.min-filled.result _ c.in-Some.numbers.now c.args.segments.now.items (rw (← c.as_slice.ensures.value) (sym c.in-Some.ensures)) (omega arith) least c.in_ok-place.ensures.count)
