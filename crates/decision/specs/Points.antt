-- The points of the choice by name, and what the walk over flagged candidates computes.
use Rattle.std.specs.Prelude.{Bool, true, false, ◌&&◌, List, [], ◌∷◌, Option, Some, None, if◌then◌else◌}
use Rattle.std.specs.List.{fold}
use Rattle.decision.specs.declared.candidate.Candidate.{Candidate}
use Rattle.decision.specs.declared.point.Point.{Point}
use Rattle.decision.specs.declared.point.Point.TheVariants as point
use Rattle.decision.specs.Best.{is_preferred, has_shorter_path, has_lower_origin, has_lower_med, has_nearer_origin, is_heavier, has_lower_id, has_lower_peer}

abbrev pub beats : Point → Candidate → Candidate → Bool
beats point.LocalPref one other = is_preferred one other
beats point.PathLength one other = has_shorter_path one other
beats point.Origin one other = has_lower_origin one other
beats point.Med one other = has_lower_med one other
beats point.Kind one other = has_nearer_origin one other
beats point.Weight one other = is_heavier one other
beats point.BgpId one other = has_lower_id one other
beats point.Peer one other = has_lower_peer one other

-- the entries whose flags are set
abbrev pub picked : {X : Type 0} → List Bool → List X → List X
picked [] xs = []
picked (flag ∷ flags) [] = []
picked (true ∷ flags) (x ∷ xs) = x ∷ picked flags xs
picked (false ∷ flags) (x ∷ xs) = picked flags xs

-- the flags of those that pass the test too
abbrev pub kept : {X : Type 0} → (X → Bool) → List Bool → List X → List Bool
kept test [] xs = []
kept test (flag ∷ flags) [] = flag ∷ flags
kept test (flag ∷ flags) (x ∷ xs) = (flag && test x) ∷ kept test flags xs

-- the better one of two, the earlier one where neither is
abbrev pub better : {X : Type 0} → (X → X → Bool) → Option X → X → Option X
better beats None x = Some x
better beats (Some held) x = if beats x held then Some x else Some held

-- the first that none beats
abbrev pub champion_of : {X : Type 0} → (X → X → Bool) → List X → Option X
champion_of beats xs = fold (better beats) None xs
