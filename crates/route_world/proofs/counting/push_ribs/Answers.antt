use Rattle.std.proofs.Common.{◌≡◌, List, ◌++◌, sym, ap, ◌∙◌}
use Rattle.std.proofs.lemmas.List.{append_assoc}
use Rattle.std.specs.List.{flat_map}
use Rattle.attr_model.specs.declared.attrs.Attrs.{Attrs}
use Rattle.route_world.specs.Loc.{below, rib_at}
use Rattle.route_world.proofs.NextRib.{with_next}
use Rattle.route_world.proofs.counting.push_ribs.Goals as goal

-- one RIB more
pub loop-rib-preserved : goal.loop-rib-preserved
loop-rib-preserved g c =
    let at = rib_at c.args.world.now c.args.prefix in
    let rib = c.loop-rib.rib in
    c.in_ok-push_rib.ensures
    ∙ ap (λ (all : List Attrs). all ++ at rib) c.loop-rib.invariant
    ∙ append_assoc c.args.all.now (flat_map at (below rib)) (at rib)
    ∙ ap (λ (more : List Attrs). c.args.all.now ++ more) (sym (with_next c.args.world.now c.args.prefix rib))
