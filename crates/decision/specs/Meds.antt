-- The MEDs of candidates in order.
use Rattle.std.specs.Prelude.{◌≡◌, ℕ, ◌≤◌, ◌<◌, Bool, ◌&&◌, ◌==◌, nat_lt, List, length, slice_index_or}
use Rattle.decision.specs.declared.candidate.Candidate.{Candidate}
use Rattle.decision.specs.declared.meds.NeighbourMed.{NeighbourMed}
use Rattle.decision.specs.Best.{neighbour_as, med_of}

-- what a candidate tells
abbrev pub told_by : Candidate → NeighbourMed
told_by candidate = record { neighbour_as = neighbour_as candidate; med = med_of candidate }

-- whether a MED is lower than that of the candidate, and of its neighbour AS
abbrev pub is_lower_for : Candidate → NeighbourMed → Bool
is_lower_for candidate other = (other.neighbour_as == neighbour_as candidate) && nat_lt other.med (med_of candidate)

-- by neighbour AS, and by MED where this is the same
abbrev pub AreInOrder : List NeighbourMed → Type 0
AreInOrder meds = (i j : ℕ) (d : NeighbourMed) → i ≤ j → j < length meds →
    ((slice_index_or meds i d).neighbour_as ≤ (slice_index_or meds j d).neighbour_as)
    × ((slice_index_or meds i d).neighbour_as ≡ (slice_index_or meds j d).neighbour_as → (slice_index_or meds i d).med ≤ (slice_index_or meds j d).med)

-- the place of the first of this neighbour AS or a greater one
pub record IsFirstFrom (asn : ℕ) (meds : List NeighbourMed) (place : ℕ) : Type 0 where
  pub before : (k : ℕ) (d : NeighbourMed) → k < place → (slice_index_or meds k d).neighbour_as < asn
  pub after : (k : ℕ) (d : NeighbourMed) → place ≤ k → k < length meds → asn ≤ (slice_index_or meds k d).neighbour_as
