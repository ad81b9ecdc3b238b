-- The references that RIBs keep, and how the uses of a table of attributes go with them.
use Rattle.std.specs.Prelude.{◌≡◌, ◌<◌, ◌+◌, ℕ, List, [], ◌∷◌, ◌++◌, map, Option, Some, None}
use Rattle.std.specs.List.{flat_map}
use Rattle.std.specs.Map.{values_of}
use Rattle.attr_model.specs.declared.attrs.Attrs.{Attrs}
use Rattle.attr_model.specs.Numbered.{Numbered}
use Rattle.attr_intern.specs.Table.{Table, attrs_at, uses_at, times}
use Rattle.decision.specs.declared.candidate.Candidate.{Candidate}
use Rattle.rib_multi.specs.declared.change.Change.{Change}
use Rattle.rib_multi.specs.Rows.{Kept, RibState, Ribs}

-- ---- references

abbrev pub refs_in : List Candidate → List Numbered
refs_in candidates = map (λ candidate. candidate.attrs) candidates

abbrev pub refs_of_one : Option Candidate → List Numbered
refs_of_one None = []
refs_of_one (Some candidate) = candidate.attrs ∷ []

abbrev pub refs_of_change : Change → List Numbered
refs_of_change change = refs_of_one change.old ++ refs_of_one change.new

abbrev pub refs_of_row : Kept → List Numbered
refs_of_row row = refs_in row.candidates

abbrev pub refs_of_rib : RibState → List Numbered
refs_of_rib rib = flat_map refs_of_row (values_of rib.rows)

-- the references of all candidates that are kept
abbrev pub refs_of : Ribs → List Numbered
refs_of ribs = flat_map refs_of_rib ribs

-- ---- uses

-- Where these references used the table before, those use it now: the uses of each number are the same but for them,
-- and what is still in use stands for what it did.
pub record Moves (old new : Table) (before after : List Numbered) : Type 0 where
  pub uses : (number : ℕ) → uses_at new number + times number before ≡ uses_at old number + times number after
  pub stays : (number : ℕ) (attrs : Attrs) → attrs_at old number ≡ Some attrs → 0 < uses_at new number → attrs_at new number ≡ Some attrs
