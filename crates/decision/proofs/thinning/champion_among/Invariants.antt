use Rattle.std.proofs.Common.{◌≡◌, drop}
use Rattle.std.specs.Prelude.{option_copied}
use Rattle.std.specs.List.{fold}
use Rattle.decision.specs.Points.{beats, better, champion_of, picked}
use Rattle.decision.proofs.thinning.champion_among.Given as goal

abbrev pub invariant-loop-at : goal.invariant-loop-at
invariant-loop-at l =
    fold (better (beats l.point)) (option_copied l.champion) (picked (drop l.at l.left) (drop l.at l.candidates))
    ≡ champion_of (beats l.point) (picked l.left l.candidates)
