use Rattle.std.proofs.Common.{ap, subst, arith}
use Rattle.std.specs.List.{AllByRecursion}
use Rattle.std.specs.Vec.Iter.{into_iter_items}
use Rattle.attr_intern.specs.Table.{IsOf}
use Rattle.adj_rib_out.specs.Rows.{one_or_none}
use Rattle.adj_rib_out.specs.Looks.{wanted_in}
use Rattle.adj_rib_out.proofs.Kept.{all-front, all-back}
use Rattle.adj_rib_out.proofs.Uses.{back_of, moves_more, split_more}
use Rattle.adj_rib_out.proofs.building.give_back_all.Goals as goal

pub give_back-requires : goal.give_back-requires
give_back-requires c =
    let left = wanted_in (into_iter_items c.loop-look.look-iterator) in
    let back = one_or_none c.in-Some.look.wanted in
    let rest = wanted_in (into_iter_items c.next.new.self) in
    let split = ap wanted_in c.in-Some.ensures.steps.0 in
    back_of c.args.table.now c.loop-look.table (wanted_in c.args.looks) left back c.requires.uses
    (λ number. omega (arith, split_more left back rest split number))
    (all-front (IsOf c.args.table.now) back rest (subst (AllByRecursion (IsOf c.args.table.now)) split c.loop-look.invariant.1))
    c.loop-look.invariant.0

pub loop-look-preserved : goal.loop-look-preserved
loop-look-preserved c =
    let left = wanted_in (into_iter_items c.loop-look.look-iterator) in
    let back = one_or_none c.in-Some.look.wanted in
    let rest = wanted_in (into_iter_items c.next.new.self) in
    let split = ap wanted_in c.in-Some.ensures.steps.0 in (
      moves_more c.args.table.now c.loop-look.table c.give_back.new.table (wanted_in c.args.looks) left back rest
          (split_more left back rest split) c.loop-look.invariant.0 c.give_back.ensures,
      all-back (IsOf c.args.table.now) back rest (subst (AllByRecursion (IsOf c.args.table.now)) split c.loop-look.invariant.1),
    )
