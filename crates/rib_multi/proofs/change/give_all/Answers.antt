use Rattle.std.proofs.Common.{ap, subst}
use Rattle.attr_intern.specs.Table.{CameFrom}
use Rattle.rib_multi.specs.Uses.{refs_in, Moves}
use Rattle.rib_multi.proofs.Moved.{moves_one, came_rest}
use Rattle.rib_multi.proofs.change.give_all.Goals as goal

pub loop-candidate-preserved : goal.loop-candidate-preserved
loop-candidate-preserved c =
    let left = ap refs_in c.in-Some.ensures.steps.0 in
    let rest = refs_in c.next.new.self.rest.items in
    let old = c.loop-candidate.table in
    let new = c.give_back.new.self in
    record {
      came = came_rest old new c.in-Some.candidate.attrs rest (subst (CameFrom old) left c.loop-candidate.invariant.came) c.give_back.ensures;
      moves = moves_one c.args.table.now old new c.in-Some.candidate.attrs (refs_in c.args.candidates) rest (subst (Moves c.args.table.now old (refs_in c.args.candidates)) left c.loop-candidate.invariant.moves) c.give_back.ensures;
    }
