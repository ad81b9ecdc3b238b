use Rattle.std.proofs.Common.{ap, subst, arith}
use Rattle.std.specs.List.{AllByRecursion}
use Rattle.attr_intern.specs.Table.{IsOf}
use Rattle.adj_rib_out.specs.Rows.{kept_in, one_or_none}
use Rattle.adj_rib_out.proofs.Kept.{all-front, all-back}
use Rattle.adj_rib_out.proofs.Uses.{back_of, moves_more, split_more}
use Rattle.adj_rib_out.proofs.rows.Rows.end.Goals as goal

pub give_back-requires : goal.give_back-requires
give_back-requires c =
    let back = one_or_none c.in-Some.row.told in
    let rest = kept_in c.next.new.self in
    let split = ap kept_in c.in-Some.ensures.steps in
    back_of c.args.table.now c.loop-row.table (kept_in c.args.self) (kept_in c.loop-row.row-iterator) back c.requires.uses
    (λ number. omega (arith, split_more (kept_in c.loop-row.row-iterator) back rest split number))
    (all-front (IsOf c.args.table.now) back rest (subst (AllByRecursion (IsOf c.args.table.now)) split c.loop-row.invariant.1))
    c.loop-row.invariant.0

pub loop-row-preserved : goal.loop-row-preserved
loop-row-preserved c =
    let back = one_or_none c.in-Some.row.told in
    let rest = kept_in c.next.new.self in
    let split = ap kept_in c.in-Some.ensures.steps in (
      moves_more c.args.table.now c.loop-row.table c.give_back.new.table (kept_in c.args.self) (kept_in c.loop-row.row-iterator) back rest
          (split_more (kept_in c.loop-row.row-iterator) back rest split) c.loop-row.invariant.0 c.give_back.ensures,
      all-back (IsOf c.args.table.now) back rest (subst (AllByRecursion (IsOf c.args.table.now)) split c.loop-row.invariant.1),
    )
