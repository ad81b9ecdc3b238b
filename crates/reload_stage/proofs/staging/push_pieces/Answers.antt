use Rattle.std.proofs.Common.{◌≡◌, ◌∙◌, ℕ, List, [], ◌∷◌, ◌++◌, map, ap, sym, rules, arith, append_assoc, append-nil}
use Rattle.std.proofs.lemmas.List.{nil_from_length}
use Rattle.std.specs.Slice.Iter.{chunks_rest}
use Rattle.reload_stage.specs.declared.item.StageItem.{StageItem}
use Rattle.reload_stage.specs.declared.item.StageItem.TheVariants.{Piece}
use Rattle.reload_stage.specs.Stages.{most_piece_bytes, parts_in, pieces}
use Rattle.reload_stage.proofs.Parts.{parts_step}
use Rattle.reload_stage.proofs.staging.push_pieces.Goals as goal

pub loop-piece-preserved : goal.loop-piece-preserved
loop-piece-preserved c =
    let steps = c.in-Some.ensures.steps in
    let size = c.loop-piece.invariant.2 in
    let piece = c.in-Some.piece.now in
    let old = chunks_rest c.loop-piece.piece-iterator in
    let rest = chunks_rest c.next.new.self in
    let one : pieces old ≡ Piece piece ∷ pieces rest = ap (map Piece) (parts_step most_piece_bytes old piece rest (omega arith) steps.1.2 steps.1.0 (rw size at steps.1.1)) in
    let here = ap (λ (items : List StageItem). items ++ pieces rest) c.in_ok-push.ensures.ok in
    let put = ap (λ (bytes : List ℕ). c.loop-piece.items ++ Piece bytes ∷ pieces rest) c.in_ok-from_slice.ensures in (
      search rules,
      tt,
      steps.0 ∙ size,
      here ∙ append_assoc c.loop-piece.items (Piece c.in_ok-from_slice.field-0 ∷ []) (pieces rest) ∙ put
          ∙ ap (λ (items : List StageItem). c.loop-piece.items ++ items) (sym one) ∙ c.loop-piece.invariant.3,
    )

pub returns : goal.returns
unfolding parts_in
returns c =
    let none = nil_from_length _ c.in-None.ensures.steps.1.0 in
    sym (append-nil c.loop-piece.items) ∙ sym (ap (λ (rest : List ℕ). c.loop-piece.items ++ pieces rest) none) ∙ c.loop-piece.invariant.3
