-- The items of a stage can follow one another, and make it whole.
use Rattle.std.proofs.Common.{◌≡◌, ◌∙◌, ℕ, zero, suc, ◌+◌, ◌<◌, ◌≤◌, List, [], ◌∷◌, ◌++◌, length, take, drop, map, Result, Ok, Err, refl, ap, sym, subst, arith, rules, append-nil, append_assoc, length-append, ◌⊎◌, inl, inr}
use Rattle.std.proofs.lemmas.List.{length-drop, take-append-drop}
use Rattle.conf_tree.specs.declared.conf.Conf.{Conf}
use Rattle.conf_tree.specs.Canonical.{canonical}
use Rattle.reload_stage.specs.declared.item.StageItem.{StageItem}
use Rattle.reload_stage.specs.declared.item.StageItem.TheVariants.{Begin, Piece, Commit}
use Rattle.reload_stage.specs.declared.assembly.Progress.TheVariants.{Begun}
use Rattle.reload_stage.specs.declared.fault.StageFault.{StageFault}
use Rattle.reload_stage.specs.declared.fault.StageFault.TheVariants as faults
use Rattle.reload_stage.specs.Stages.{CanBeStaged, Completes, GivesConf, Taken, can_follow, most_piece_bytes, nothing_taken, parts_in, stage_items, taken_whole}

-- what was taken of a stage that has begun
abbrev begun : ℕ → ℕ → List ℕ → Taken
begun generation most text = record { progress = Begun generation most; text = text }

-- at the length of the text only the Commit is left
last : (generation most : ℕ) (text : List ℕ) → length text ≡ most → Completes generation (text ++ []) (begun generation most text) (Commit generation ∷ [])
unfolding Completes can_follow
last generation most text h = (search rules, ap (taken_whole generation) (sym (append-nil text)))

-- the pieces of what is left of the text, and the Commit
left : (size generation most n : ℕ) (text rest : List ℕ) → 0 < size → length rest ≤ n → length text + length rest ≡ most
    → Completes generation (text ++ rest) (begun generation most text) (map Piece (parts_in size n rest) ++ Commit generation ∷ [])
unfolding Completes can_follow parts_in
left size generation most zero text [] s few all = last generation most text (omega (arith, all))
left size generation most (suc n) text [] s few all = last generation most text (omega (arith, all))
left size generation most zero text (x ∷ rest) s few all = absurd (omega (arith, few))
left size generation most (suc n) text (x ∷ rest) s few all =
    let part = take size (x ∷ rest) in
    let behind = drop size (x ∷ rest) in
    let cut = take-append-drop size (x ∷ rest) in
    let sum : length part + length behind ≡ length (x ∷ rest) = sym (length-append part behind) ∙ ap length cut in
    let fewer = length-drop size (x ∷ rest) in
    let shorter : length behind ≤ n = omega (arith, s, few, fewer) in
    let all_left : length (text ++ part) + length behind ≡ most = omega (arith, all, sum, length-append text part) in
    let more = left size generation most n (text ++ part) behind s shorter all_left in
    let fits : length text + length part ≤ most = omega (arith, all, sum) in
    let whole : (text ++ part) ++ behind ≡ text ++ (x ∷ rest) = append_assoc text part behind ∙ ap (λ (t : List ℕ). text ++ t) cut in
    let items : List StageItem = map Piece (parts_in size n behind) ++ Commit generation ∷ [] in
    (search (rules, fits), subst (λ (t : List ℕ). Completes generation t (begun generation most (text ++ part)) items) whole more)

pub stage_completes : (generation : ℕ) (text : List ℕ) → Completes generation text nothing_taken (stage_items generation text)
unfolding Completes can_follow
stage_completes generation text = (refl, left most_piece_bytes generation (length text) (length text) [] text (omega arith) (omega arith) (omega arith))

-- a whole stage of a configuration gives it
pub staged_gives : (generation : ℕ) (conf : Conf) (result : Result (ℕ × Conf) StageFault) → CanBeStaged conf → GivesConf (taken_whole generation (canonical conf)) result → (result ≡ Ok (generation, conf)) ⊎ (result ≡ Err faults.NoMemory)
staged_gives generation conf (Ok given) can gives = inl (search rules)
staged_gives generation conf (Err (faults.BadText fault)) can gives = absurd (search rules)
staged_gives generation conf (Err faults.OutOfOrder) can gives = absurd gives
staged_gives generation conf (Err faults.NoMemory) can gives = inr refl
