use Rattle.std.proofs.Common.{◌≡◌, ◌≢◌, ◌<◌, ◌≤◌, ℕ, inl, inr, sym, ap, ◌∙◌, subst, arith}
use Rattle.std.proofs.lemmas.Bool.{cases_eq}
use Rattle.rib_multi.specs.Rows.{RibState, IsEmptyRib, rib_at}
use Rattle.rib_multi.specs.Uses.{refs_of}
use Rattle.rib_multi.proofs.Moved.{moves_on}
use Rattle.rib_multi.proofs.ribs.RibMulti.shrink.Goals as goal

pub loop-number-preserved : goal.loop-number-preserved
loop-number-preserved c =
    let old = c.loop-number.self in
    let new = c.empty.new.self in
    record {
      stay = λ number below. c.empty.ensures.others number (omega (arith, below, c.loop-number.auto.number)) ∙ c.loop-number.invariant.stay number below;
      gone = λ number from below. elim (cases_eq number c.loop-number.number) [
        | inl same ↦ subst (λ n. IsEmptyRib (rib_at new n)) (sym same) c.empty.ensures.empty
        | inr differ ↦ subst IsEmptyRib (sym (c.empty.ensures.others number differ)) (c.loop-number.invariant.gone number from (omega (arith, below, differ)))
      ];
      uses = moves_on c.args.table.now c.loop-number.table c.empty.new.table (refs_of c.args.self.now) (refs_of old) (refs_of new) c.loop-number.invariant.uses c.empty.ensures.uses c.empty.ensures.fewer;
      came = c.empty.ensures.came;
    }
