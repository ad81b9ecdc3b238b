-- What the local RIBs keep: the rows by prefix, and the marked prefixes.
use Rattle.std.specs.Prelude.{◌≡◌, ◌≢◌, ◌<◌, ℕ, Bool, false, cond, List, [], ◌∷◌, length, Option, Some, None, IfSome, option_map, option_and_then, unwrap_or, is_some, slice_get, slice_index_or}
use Rattle.std.specs.Map.{lookup}
use Rattle.std.specs.Ordering.{is_eq}
use Rattle.net_base.specs.declared.prefix.Prefix.{Prefix}
use Rattle.net_base.specs.Order.{prefix_cmp}
use Rattle.decision.specs.declared.candidate.Candidate.{Candidate}
use Rattle.decision.specs.Best.{best_of}
use Rattle.sweep_jobs.specs.declared.cursor.Cursor.TheVariants.{Idle}
use Rattle.sweep_jobs.specs.Marks.{MarkedPrefixes, is_marked}

-- the candidates of one prefix as they were kept last, and whether MEDs of different neighbour ASes were compared then
pub record Kept : Type 0 where
  pub candidates : List Candidate
  pub always : Bool

-- The place is that of the best of the candidates.
pub record IsChoice (always : Bool) (candidates : List Candidate) (place : Option ℕ) : Type 0 where
  pub is_best : option_and_then (slice_get candidates) place ≡ best_of always candidates

-- the rows of one RIB by prefix, and its marks
pub record RibState : Type 0 where
  pub rows : List (Prefix × Kept)
  pub marks : MarkedPrefixes

abbrev pub is_same : Prefix → Prefix → Bool
is_same prefix other = is_eq (prefix_cmp prefix other)

-- ---- one RIB

abbrev pub row_in : RibState → Prefix → Option Kept
row_in rib prefix = lookup (is_same prefix) rib.rows

abbrev pub candidates_of : Option Kept → List Candidate
candidates_of row = unwrap_or (option_map (λ row. row.candidates) row) []

abbrev pub best_of_row : Option Kept → Option Candidate
best_of_row row = option_and_then (λ row. best_of row.always row.candidates) row

-- the row of some candidates; no candidates have none
abbrev pub row_for : Bool → List Candidate → Option Kept
row_for always [] = None
row_for always (candidate ∷ rest) = Some (record { candidates = candidate ∷ rest; always = always })

-- The prefix has this row now, and each other prefix the row that it had.
abbrev pub SetsRow : RibState → RibState → Prefix → Option Kept → Type 0
SetsRow old new prefix row = (other : Prefix) → row_in new other ≡ cond (is_same prefix other) row (row_in old other)

-- a RIB without rows, in which nothing is marked
pub record IsEmptyRib (rib : RibState) : Type 0 where
  pub no_rows : rib.rows ≡ []
  pub unmarked : (known : List Prefix) (prefix : Prefix) → is_marked known rib.marks prefix ≡ false

-- ---- all of them, by number

abbrev pub Ribs : Type 0
Ribs = List RibState

abbrev pub empty_rib : RibState
empty_rib = record { rows = []; marks = record { cursor = Idle; touched = [] } }

abbrev pub rib_at : Ribs → ℕ → RibState
rib_at ribs number = slice_index_or ribs number empty_rib

abbrev pub row_at : Ribs → ℕ → Prefix → Option Kept
row_at ribs number prefix = row_in (rib_at ribs number) prefix

-- the candidates that are kept of a prefix, in the order in which they were given
abbrev pub kept_at : Ribs → ℕ → Prefix → List Candidate
kept_at ribs number prefix = candidates_of (row_at ribs number prefix)

-- the best of what is kept
abbrev pub best_at : Ribs → ℕ → Prefix → Option Candidate
best_at ribs number prefix = best_of_row (row_at ribs number prefix)

abbrev pub is_marked_at : List Prefix → Ribs → ℕ → Prefix → Bool
is_marked_at known ribs number prefix = is_marked known (rib_at ribs number).marks prefix

-- Each other RIB is as it was.
abbrev pub KeepsOthers : Ribs → Ribs → ℕ → Type 0
KeepsOthers old new number = (other : ℕ) → other ≢ number → rib_at new other ≡ rib_at old other
