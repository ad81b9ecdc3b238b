use Rattle.std.proofs.Common.{◌≤◌, ℕ, length, ap, ◌∙◌, subst, sym, arith}
use Rattle.rib_multi.specs.Rows.{Ribs, IsEmptyRib, rib_at}
use Rattle.rib_multi.specs.Uses.{refs_of}
use Rattle.rib_multi.proofs.Beside.{empty_pushed, refs_pushed}
use Rattle.rib_multi.proofs.ribs.RibMulti.new.Goals as goal

pub loop-ribs-preserved : goal.loop-ribs-preserved
loop-ribs-preserved c =
    let more = c.in_ok-push.ensures.items in
    record {
      count = omega (arith, c.in_ok-push.ensures.len, c.loop-ribs-test.true, c.len.ensures, c.from.ensures);
      refs = ap refs_of more ∙ refs_pushed c.loop-ribs.ribs.items c.new.result c.new.ensures ∙ c.loop-ribs.invariant.refs;
      empty = subst (λ (ribs : Ribs). (number : ℕ) → IsEmptyRib (rib_at ribs number)) (sym more) (empty_pushed c.loop-ribs.ribs.items c.new.result c.new.ensures c.loop-ribs.invariant.empty);
    }
