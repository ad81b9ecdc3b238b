use Rattle.std.proofs.Common.{◌≡◌, [], ◌∷◌, ◌++◌, List, length, sym, ap, subst, arith}
use Rattle.decision.specs.declared.candidate.Candidate.{Candidate}
use Rattle.rib_multi.specs.Uses.{refs_in}
use Rattle.rde_tables.specs.Uses.{Keeps}
use Rattle.attr_intern.proofs.References.{came_back}
use Rattle.rde_tables.proofs.Kept.{keeps_pushed, refs_pushed, length_pushed}
use Rattle.rde_tables.proofs.keeping.numbered.Goals as goal

pub returns-in_err-candidate-clause-stays : goal.returns-in_err-candidate-clause-stays
returns-in_err-candidate-clause-stays c rest came =
    c.numbered_one.ensures.stays rest (came_back c.loop-one.table (refs_in c.loop-one.candidates) rest (c.loop-one.invariant.keeps.came rest came))

pub loop-one-preserved : goal.loop-one-preserved
loop-one-preserved c =
    let candidates = c.loop-one.candidates in
    let one = c.in_ok-candidate.candidate in
    let pushed : c.push.new.self ≡ candidates ++ one ∷ [] = c.in_ok-push.ensures.ok in
    let step = ap length c.in-Some.ensures.steps.0 in
    record {
      keeps = subst (λ (all : List Candidate). Keeps c.args.table.now c.numbered_one.new.table [] (refs_in all)) (sym pushed)
          (subst (Keeps c.args.table.now c.numbered_one.new.table []) (sym (refs_pushed candidates one))
          (keeps_pushed c.args.table.now c.loop-one.table c.numbered_one.new.table (refs_in candidates) one.attrs c.loop-one.invariant.keeps c.in_ok-candidate.ensures.keeps));
      few = omega (arith, c.loop-one.invariant.few, ap length pushed, length_pushed candidates one, step);
    }

pub returns-in_err-push-clause-stays : goal.returns-in_err-push-clause-stays
returns-in_err-push-clause-stays c rest came =
    c.numbered_one.ensures.stays rest (came_back c.loop-one.table (refs_in c.loop-one.candidates) rest (c.loop-one.invariant.keeps.came rest came))

pub returns-clause-stays : goal.returns-clause-stays
returns-clause-stays c rest came = came_back c.loop-one.table (refs_in c.loop-one.candidates) rest (c.loop-one.invariant.keeps.came rest came)
