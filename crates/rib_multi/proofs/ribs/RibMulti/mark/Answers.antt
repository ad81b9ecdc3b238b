use Rattle.std.proofs.Common.{◌≡◌, ◌<◌, length, refl, sym, ap, ◌∙◌, arith}
use Rattle.rib_multi.specs.Rows.{RibState}
use Rattle.rib_multi.specs.Uses.{refs_of}
use Rattle.rib_multi.proofs.Beside.{rib_is, refs_same}
use Rattle.rib_multi.proofs.ribs.RibMulti.mark.Goals as goal

pub returns-clause-refs : goal.returns-clause-refs
returns-clause-refs c =
    let ribs = c.self.inside.ribs.items in
    let at = c.from.result in
    let within : c.from.result < length c.self.inside.ribs.items = omega (arith, c.requires, c.from.ensures, c.self.invariant) in
    let entry = rib_is ribs ribs at at c.index_mut.result.now refl refl within c.index_mut.ensures.value in
    refs_same ribs at c.mark.new.self within (c.mark.ensures.rows ∙ ap (λ (rib : RibState). rib.rows) entry) ∙ ap refs_of c.self.view_is
