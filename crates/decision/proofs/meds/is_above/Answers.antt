use Rattle.std.proofs.Common.{◌&&◌, ◌∙◌, ap, sym, eq-eqb, ne_eqb, rules}
use Rattle.std.specs.Prelude.{◌==◌, nat_lt, ℕ}
use Rattle.std.specs.List.{list_any}
use Rattle.std.proofs.lemmas.Bool.{ltb-true, ltb-false}
use Rattle.decision.specs.declared.meds.NeighbourMed.{NeighbourMed}
use Rattle.decision.specs.Best.{med_of}
use Rattle.decision.proofs.LowerMeds.{lower_there, lower_nowhere}
use Rattle.decision.proofs.meds.is_above.Goals as goal

pub returns-then-least-asn : goal.returns-then-least-asn
returns-then-least-asn c =
    let asn = c.neighbour_as-asn.result in
    ap (λ b. b && nat_lt c.in-Some.least.now.med c.med.result) (sym (eq-eqb _ _ c.if-least-asn.true))
    ∙ (lower_there c.args.meds.now c.requires asn c.med.result c.first_from.result c.first_from.ensures c.in-Some.least.now (ltb-true _ _ (sym c.in-Some.ensures.lookup.0)) (search rules)
    ∙ (ap (λ (med : ℕ). list_any (λ (other : NeighbourMed). (other.neighbour_as == asn) && nat_lt other.med med) c.args.meds.now) c.med.ensures
    ∙ ap (λ (asn : ℕ). list_any (λ (other : NeighbourMed). (other.neighbour_as == asn) && nat_lt other.med (med_of c.args.candidate.now)) c.args.meds.now) c.neighbour_as-asn.ensures))

pub returns-else-least-asn : goal.returns-else-least-asn
returns-else-least-asn c =
    let asn = c.neighbour_as-asn.result in
    let other = ne_eqb _ _ c.if-least-asn.false in
    other
    ∙ (ap (λ b. b && nat_lt c.in-Some.least.now.med (med_of c.args.candidate.now)) (sym other)
    ∙ (lower_there c.args.meds.now c.requires asn (med_of c.args.candidate.now) c.first_from.result c.first_from.ensures c.in-Some.least.now (ltb-true _ _ (sym c.in-Some.ensures.lookup.0)) (search rules)
    ∙ ap (λ (asn : ℕ). list_any (λ (other : NeighbourMed). (other.neighbour_as == asn) && nat_lt other.med (med_of c.args.candidate.now)) c.args.meds.now) c.neighbour_as-asn.ensures))

pub returns-in-None : goal.returns-in-None
returns-in-None c =
    lower_nowhere c.args.meds.now c.requires c.neighbour_as-asn.result (med_of c.args.candidate.now) c.first_from.result c.first_from.ensures (ltb-false _ _ (sym c.in-None.ensures.lookup.0))
    ∙ ap (λ (asn : ℕ). list_any (λ (other : NeighbourMed). (other.neighbour_as == asn) && nat_lt other.med (med_of c.args.candidate.now)) c.args.meds.now) c.neighbour_as-asn.ensures
