use Rattle.std.proofs.Common.{◌≡◌, ℕ, List, [], ◌∷◌, Iter, refl, sym, ap, ◌∙◌}
use Rattle.std.proofs.lemmas.List.{nil_from_length}
use Rattle.std.specs.Map.{keys_of}
use Rattle.std.specs.Slice.Iter.{iter_rest}
use Rattle.kroute.specs.Tables.{table_at}
use Rattle.parent_core.proofs.Taking.{all_dropped, dropped, one_looked_at}
use Rattle.parent_core.proofs.kernel_tables.drop_others.Goals as goal

pub loop-number-init : goal.loop-number-init
loop-number-init c =
    let left : iter_rest c.into_iter-number-iterator.result ≡ keys_of c.args.tables.now.tables = ap (λ (it : Iter ℕ). iter_rest it) c.into_iter-number-iterator.ensures.into_iter_gives ∙ c.iter-number-items.ensures.rest ∙ c.in_ok-numbers.ensures in
    (λ n. ap (λ (ks : List ℕ). dropped c.args.kept.now ks (table_at c.args.tables.now n) n) left, refl)

pub loop-number-preserved : goal.loop-number-preserved
loop-number-preserved c =
    let k = c.in-Some.number.now in
    let rest = iter_rest c.next.new.self in
    let looked = c.drop_unless_kept.ensures in
    let steps : iter_rest c.loop-number.number-iterator ≡ k ∷ rest = c.in-Some.ensures.steps in (
      λ n. one_looked_at c.args.kept.now rest k c.loop-number.tables c.drop_unless_kept.new.tables looked.stays looked.goes n
          ∙ ap (λ (left : List ℕ). dropped c.args.kept.now left (table_at c.loop-number.tables n) n) (sym steps) ∙ c.loop-number.invariant.0 n,
      looked.arranged ∙ c.loop-number.invariant.1,
    )

pub returns-clause-tables : goal.returns-clause-tables
returns-clause-tables c =
    let none : iter_rest c.loop-number.number-iterator ≡ [] = nil_from_length _ c.in-None.ensures.steps.0 in
    λ n. sym (ap (λ (left : List ℕ). dropped c.args.kept.now left (table_at c.loop-number.tables n) n) none) ∙ c.loop-number.invariant.0 n ∙ all_dropped c.args.kept.now c.args.tables.now n
