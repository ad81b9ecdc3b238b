use Rattle.std.proofs.Common.{List, ◌++◌, ◌+◌, map, ap, sym, ◌∙◌, length, arith}
use Rattle.std.specs.List.{flat_map}
use Rattle.net_base.specs.declared.addr.Addr.{Addr}
use Rattle.decision.specs.declared.candidate.Found.{Found}
use Rattle.rde_view.specs.declared.live.Live.{Live}
use Rattle.rde_view.specs.Import.{as_candidate}
use Rattle.rde_view.proofs.EachSession.{import_of, found_step}
use Rattle.rde_view.proofs.importing.candidates.Goals as goal

pub loop-live-preserved : goal.loop-live-preserved
loop-live-preserved g c =
    let each = import_of c.args.view.now c.args.held.now c.args.rib c.args.prefix in
    let entry : Addr × Live = (c.in-Some.field-0-0.now, c.in-Some.live.now) in
    let found = c.loop-live.found in
    let one = c.in_ok-one.one in
    record {
      found =
          ap (λ (xs : List Found). map as_candidate xs ++ flat_map each c.next.new.self) c.in_ok-push_if.ensures.found
          ∙ found_step c.args.view.now c.args.held.now c.args.rib c.args.prefix entry c.next.new.self found one c.in_ok-one.ensures.found
          ∙ ap (λ (es : List (Addr × Live)). map as_candidate found ++ flat_map each es) (sym c.in-Some.ensures.steps)
          ∙ c.loop-live.invariant.found;
      few = omega (arith, c.loop-live.invariant.few, c.in_ok-push_if.ensures.few, ap (λ (es : List (Addr × Live)). length es) c.in-Some.ensures.steps);
    }
