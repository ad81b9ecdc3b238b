use Rattle.std.proofs.Common.{ℕ, ◌+◌, ◌<◌, ◌≤◌, ◌∙◌, List, get_or, length, sym, ap, subst, arith, rules}
use Rattle.filter_engine.specs.Progress.{course_of}
use Rattle.filter_engine.specs.Verdict.{Course, evaluated}
use Rattle.filter_engine.proofs.Linking.{moved}
use Rattle.filter_engine.proofs.Meets.{wanted_below}
use Rattle.filter_engine.proofs.Skipping.{followed, skipped}
use Rattle.filter_engine.proofs.evaluation.walk_skipping.Goals as goal

pub first-places-requires-clause-within : goal.first-places-requires-clause-within
first-places-requires-clause-within g c =
    λ k small. subst (λ (asked : List ℕ). get_or asked k 0 < length c.args.table.now.heads.items) (sym c.asked-buckets.ensures) (wanted_below c.args.context.now _ c.requires.built.some k small)

pub loop-at-init : goal.loop-at-init
loop-at-init g c =
    let conf = g.M.Members.conf_of c.args.sets.now in
    let built = c.requires.built in
    let course = course_of c.args.route.now c.begun-progress.result in
    record {
      rest = sym (skipped conf c.args.context.now c.args.origin _ c.args.rules.now c.args.table.now.buckets.items c.asked-buckets.result c.first-places.result 0 c.least-at.result course
          built.placed c.asked-buckets.ensures c.first-places.ensures c.least-at.ensures.low (omega arith) c.least-at.ensures.within)
          ∙ ap (λ (at : Course). evaluated conf c.args.context.now c.args.origin c.args.rules.now at) (c.begun-progress.ensures.begun c.args.route.now);
      right = search rules;
      asked = c.asked-buckets.ensures;
      next = moved _ _ _ 0 c.least-at.result (omega arith) c.least-at.ensures.low c.first-places.ensures;
      within = c.least-at.ensures.within;
    }

pub loop-at-smaller : goal.loop-at-smaller
loop-at-smaller g c =
    let further : c.loop-at.at + 1 ≤ c.least-at-in-loop-at.result = c.least-at-in-loop-at.ensures.high (c.loop-at.at + 1) (omega (arith, c.loop-at-test.true)) (λ k small. (c.go_on.ensures k small).ahead) in
    omega (arith, further, c.loop-at-test.true)

pub loop-at-preserved : goal.loop-at-preserved
loop-at-preserved g c =
    let conf = g.M.Members.conf_of c.args.sets.now in
    let built = c.requires.built in
    let before = c.loop-at.invariant in
    let old = course_of c.args.route.now c.loop-at.progress in
    let new = course_of c.args.route.now c.follow.new.progress in
    let low = c.least-at-in-loop-at.ensures.low in
    let further : c.loop-at.at + 1 ≤ c.least-at-in-loop-at.result = c.least-at-in-loop-at.ensures.high (c.loop-at.at + 1) (omega (arith, c.loop-at-test.true)) (λ k small. (c.go_on.ensures k small).ahead) in
    record {
      rest = sym (skipped conf c.args.context.now c.args.origin _ c.args.rules.now c.args.table.now.buckets.items c.asked-buckets.result c.go_on.new.places (c.loop-at.at + 1) c.least-at-in-loop-at.result new
          built.placed before.asked c.go_on.ensures low further c.least-at-in-loop-at.ensures.within)
          ∙ (followed conf c.args.context.now c.args.origin c.args.rules.now c.loop-at.at c.index-rules-at.result c.in_ok-follow.field-0 old new c.loop-at-test.true c.index-rules-at.is c.in_ok-follow.ensures.step c.if-branch.false
          ∙ before.rest);
      right = c.follow.ensures.kept;
      asked = before.asked;
      next = moved _ _ _ (c.loop-at.at + 1) c.least-at-in-loop-at.result further low c.go_on.ensures;
      within = c.least-at-in-loop-at.ensures.within;
    }
