use Rattle.std.proofs.Common.{◌≡◌, ℕ, List, ◌∷◌, sym, ap, ◌∙◌}
use Rattle.std.specs.Slice.Iter.{iter_rest}
use Rattle.kroute.specs.Tables.{table_at}
use Rattle.parent_core.proofs.Taking.{one_taken, taken_where}
use Rattle.parent_core.proofs.kernel_tables.take_all.Goals as goal

pub loop-number-preserved : goal.loop-number-preserved
loop-number-preserved c =
    let k = c.in-Some.number.now in
    let rest = iter_rest c.next.new.self in
    let steps : iter_rest c.loop-number.number-iterator ≡ k ∷ rest = c.in-Some.ensures.steps in (
      λ n. one_taken c.args.switched c.args.on rest k c.loop-number.tables c.take.new.tables c.in_ok-take.ensures.tables n
          ∙ ap (λ (left : List ℕ). taken_where c.args.switched c.args.on left (table_at c.loop-number.tables n) n) (sym steps) ∙ c.loop-number.invariant.0 n,
      c.in_ok-take.ensures.arranged ∙ c.loop-number.invariant.1,
    )
