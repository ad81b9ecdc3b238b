use Rattle.std.proofs.Common.{◌∙◌, false, not, List, ap, sym, subst, rules}
use Rattle.std.specs.Prelude.{Bool}
use Rattle.std.specs.List.{list_any}
use Rattle.std.proofs.lemmas.List.Sorted.{list_any-IsPermutation}
use Rattle.arrayvec.proofs.ArrayVecLemmas.{items-with_items}
use Rattle.decision.specs.declared.candidate.Candidate.{Candidate}
use Rattle.decision.specs.declared.meds.NeighbourMed.{NeighbourMed}
use Rattle.decision.specs.Best.{unbeaten, has_lower_med_among}
use Rattle.decision.specs.Points.{picked}
use Rattle.decision.specs.Meds.{AreInOrder, is_lower_for}
use Rattle.decision.proofs.Flags.{picked-kept}
use Rattle.decision.proofs.Lists.{filter_on}
use Rattle.decision.proofs.LowerMeds.{in_order, lower_told}
use Rattle.decision.proofs.meds.thin_by_med.Goals as goal

pub drop_above-requires-clause-order : goal.drop_above-requires-clause-order
drop_above-requires-clause-order c =
    let sorted = c.as_slice.ensures.value ∙ items-with_items c.meds_of_flagged-meds.result c.sort_unstable.new.self (search rules) in
    subst AreInOrder (sym sorted) (in_order c.sort_unstable.new.self c.sort_unstable.ensures.sorted)

pub returns-then-always : goal.returns-then-always
returns-then-always c = c.thin.ensures ∙ ap (λ (always : Bool). unbeaten (has_lower_med_among always) (picked c.args.left.now c.args.candidates.now)) (sym c.if-always.true)

pub returns-else-always : goal.returns-else-always
returns-else-always c =
    let sorted = c.as_slice.ensures.value ∙ items-with_items c.meds_of_flagged-meds.result c.sort_unstable.new.self (search rules) in
    let all = picked c.args.left.now c.args.candidates.now in
    let told = c.deref_mut.ensures.value ∙ c.meds_of_flagged-meds.ensures in
    let lower = λ (candidate : Candidate).
    ap (λ (meds : List NeighbourMed). list_any (is_lower_for candidate) meds) sorted
    ∙ (sym (list_any-IsPermutation (is_lower_for candidate) _ _ c.sort_unstable.ensures.permutation)
    ∙ (ap (λ (meds : List NeighbourMed). list_any (is_lower_for candidate) meds) told ∙ lower_told candidate all)) in
    ap (λ flags. picked flags c.args.candidates.now) c.drop_above.ensures
    ∙ (picked-kept (λ candidate. not (list_any (is_lower_for candidate) c.as_slice.result.now)) c.args.left.now c.args.candidates.now
    ∙ (filter_on (λ candidate. not (list_any (is_lower_for candidate) c.as_slice.result.now)) (λ candidate. not (list_any (λ other. has_lower_med_among false other candidate) all)) all (λ candidate within. ap not (lower candidate))
    ∙ ap (λ (always : Bool). unbeaten (has_lower_med_among always) all) (sym c.if-always.false)))
