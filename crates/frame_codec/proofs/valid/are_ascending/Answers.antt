use Rattle.std.proofs.Common.{rules, ◌≡◌, ap, ◌∙◌}
use Rattle.std.specs.Ordering.{is_lt, is_some_and}
use Rattle.std.proofs.lemmas.Fn.{always_returns_same}
use Rattle.frame_codec.proofs.Ascending.{ascends}
use Rattle.frame_codec.proofs.valid.are_ascending.Goals as goal

pub returns : goal.returns
returns g c =
    ascends g.met.T.Ord.total c.args.items.now c.is_sorted_by.result
    (c.is_sorted_by.ensures.cases (λ x y. is_lt (g.T.Ord.cmp x y)) (always_returns_same _ _ _ (λ a r f k.
    let less : r ≡ is_some_and is_lt (g.T.PartialOrd.partial_cmp a.0.now a.1.0.now) = search rules in
    (less ∙ ap (is_some_and is_lt) (g.met.T.Ord.matches_partial_cmp a.0.now a.1.0.now), search rules))))
