use Rattle.std.proofs.Common.{◌≡◌, List, [], ◌∷◌, drop, refl, arith, drop_of_length-le}
use Rattle.ctl_show.specs.declared.pieces.Piece.{Piece}
use Rattle.ctl_show.specs.Commands.{run}
use Rattle.ctl_show.proofs.read.run.Goals as goal

-- no words follow anything
no_words : (pieces : List Piece) → run pieces [] ≡ 0
unfolding run
no_words [] = refl
no_words (p ∷ pieces) = refl

pub returns-else-count-words-clause-value : goal.returns-else-count-words-clause-value
returns-else-count-words-clause-value c =
    let count = c.loop-count.count in
    let none : drop count c.args.words.now ≡ [] = drop_of_length-le c.args.words.now c.if-count-words.false in
    let ends : run (drop count c.args.pieces.now) (drop count c.args.words.now) ≡ 0 = rw none (no_words (drop count c.args.pieces.now)) in
    omega (arith, ends, c.loop-count.invariant.counted)
