use Rattle.std.proofs.Common.{◌≡◌, ◌++◌}
use Rattle.std.specs.Slice.Iter.{chunks_rest, chunks_size}
use Rattle.reload_stage.specs.Stages.{most_piece_bytes, pieces}
use Rattle.reload_stage.proofs.staging.push_pieces.Given as goal

-- the items so far, followed by the pieces to come, are the whole
abbrev pub invariant-loop-piece : goal.invariant-loop-piece
invariant-loop-piece l =
    goal.iterator-loop-piece.can_next l.piece-iterator
    × goal.iterator-loop-piece.is_finite l.piece-iterator
    × (chunks_size l.piece-iterator ≡ most_piece_bytes)
    × (l.items ++ pieces (chunks_rest l.piece-iterator) ≡ l.fn.items ++ pieces l.fn.text)
