-- One RIB changes, and the others stay beside it.
use Rattle.std.proofs.Common.{◌≡◌, ◌≢◌, ℕ, ◌+◌, ◌<◌, ◌≤◌, zero, suc, Bool, true, false, true≢false, ◌&&◌, Some, List, [], ◌∷◌, ◌++◌, length, refl, sym, ap, ◌∙◌, arith, subst}
use Rattle.std.specs.Prelude.{slice_set, slice_index_or, Result, Ok, Err, IfOk, OnOk}
use Rattle.std.specs.Map.{values_of}
use Rattle.std.proofs.lemmas.List.{get_or_default}
use Rattle.std.proofs.lemmas.Grind.{get_or-set_at}
use Rattle.std.specs.List.{flat_map, sum_by, AllByRecursion}
use Rattle.std.proofs.lemmas.List.Sums.{sum_by-set}
use Rattle.net_base.specs.declared.prefix.Prefix.{Prefix}
use Rattle.attr_model.specs.Numbered.{Numbered}
use Rattle.attr_intern.specs.Table.{Table, times, IsOf, CameFrom}
use Rattle.decision.specs.declared.candidate.Candidate.{Candidate}
use Rattle.decision.specs.Best.{best_of}
use Rattle.net_base.specs.PrefixSet.{is_in}
use Rattle.rib_multi.specs.declared.change.Change.{Change}
use Rattle.rib_multi.proofs.Chosen.{chosen_of}
use Rattle.rib_multi.specs.Rows.{Kept, best_at, row_at, is_marked_at, RibState, Ribs, IsEmptyRib, empty_rib, rib_at, kept_at, candidates_of, row_in}
use Rattle.rib_multi.specs.Uses.{refs_in, refs_of, refs_of_rib, refs_of_row, refs_of_one, refs_of_change, Moves}
use Rattle.attr_intern.proofs.References.{times-append, all_front, all_back, all_both}
use Rattle.rib_multi.proofs.Moved.{moves_beside, moves_gone, came_on}
use Rattle.rib_multi.proofs.Replaced.{times-flat_map, each_kept, times_kept}

-- ---- references

pub refs_beside : (number : ℕ) (ribs : Ribs) (at : ℕ) (rib : RibState) → at < length ribs
    → times number (refs_of (slice_set ribs at rib)) + times number (refs_of_rib (rib_at ribs at)) ≡ times number (refs_of ribs) + times number (refs_of_rib rib)
refs_beside number ribs at rib within =
    let weigh : RibState → ℕ = λ rib. times number (refs_of_rib rib) in
    let sums = sum_by-set weigh ribs at rib empty_rib within in
    let after = times-flat_map number refs_of_rib (slice_set ribs at rib) in
    let before = times-flat_map number refs_of_rib ribs in
    omega (arith, sums, after, before)

-- a RIB with the same rows has the same references
pub refs_same : (ribs : Ribs) (at : ℕ) (rib : RibState) → at < length ribs → rib.rows ≡ (rib_at ribs at).rows → refs_of (slice_set ribs at rib) ≡ refs_of ribs
refs_same [] at rib within same = refl
refs_same (first ∷ rest) zero rib within same = ap (λ (rows : List (Prefix × Kept)). flat_map refs_of_row (values_of rows) ++ refs_of rest) same
refs_same (first ∷ rest) (suc at) rib within same = ap (λ (refs : List Numbered). refs_of_rib first ++ refs) (refs_same rest at rib (omega (arith, within)) same)

module _ (P : Numbered → Type 0) where
  pub each_set : (ribs : Ribs) (at : ℕ) (rib : RibState) → AllByRecursion P (refs_of ribs) → AllByRecursion P (refs_of_rib rib) → AllByRecursion P (refs_of (slice_set ribs at rib))
  each_set [] at rib before now = before
  each_set (first ∷ rest) zero rib before now = all_both P (refs_of_rib rib) (refs_of rest) now (all_back P (refs_of_rib first) (refs_of rest) before)
  each_set (first ∷ rest) (suc at) rib before now =
      all_both P (refs_of_rib first) (refs_of (slice_set rest at rib)) (all_front P (refs_of_rib first) (refs_of rest) before) (each_set rest at rib (all_back P (refs_of_rib first) (refs_of rest) before) now)

  pub each_at : (ribs : Ribs) (at : ℕ) → AllByRecursion P (refs_of ribs) → AllByRecursion P (refs_of_rib (rib_at ribs at))
  each_at [] at all = tt
  each_at (first ∷ rest) zero all = all_front P (refs_of_rib first) (refs_of rest) all
  each_at (first ∷ rest) (suc at) all = each_at rest at (all_back P (refs_of_rib first) (refs_of rest) all)

pub times_at : (number : ℕ) (ribs : Ribs) (at : ℕ) → times number (refs_of_rib (rib_at ribs at)) ≤ times number (refs_of ribs)
times_at number [] at = omega arith
times_at number (first ∷ rest) zero = omega (arith, times-append number (refs_of_rib first) (refs_of rest))
times_at number (first ∷ rest) (suc at) = omega (arith, times-append number (refs_of_rib first) (refs_of rest), times_at number rest at)

pub came_at : (table : Table) (ribs : Ribs) (at : ℕ) → CameFrom table (refs_of ribs) → CameFrom table (refs_of_rib (rib_at ribs at))
came_at table ribs at came = record {
  each = each_at (IsOf table) ribs at came.each;
  uses = λ number. omega (arith, came.uses number, times_at number ribs at);
}

-- what a row has, with what comes for it
pub came_kept : (table : Table) (ribs : Ribs) (at : ℕ) (prefix : Prefix) (candidates : List Candidate) → CameFrom table (refs_of ribs ++ refs_in candidates) → CameFrom table (refs_in (kept_at ribs at prefix) ++ refs_in candidates)
came_kept table ribs at prefix candidates came =
    let old = all_front (IsOf table) (refs_of ribs) (refs_in candidates) came.each in
    let now = all_back (IsOf table) (refs_of ribs) (refs_in candidates) came.each in
    let kept = refs_in (kept_at ribs at prefix) in
    record {
      each = all_both (IsOf table) kept (refs_in candidates) (each_kept (IsOf table) (rib_at ribs at) prefix (each_at (IsOf table) ribs at old)) now;
      uses = λ number. omega (arith, came.uses number, times-append number (refs_of ribs) (refs_in candidates), times-append number kept (refs_in candidates), times_at number ribs at, times_kept number (rib_at ribs at) prefix);
    }

-- ---- numbers

no_mark : (b : Bool) → (b && false) ≡ true → ⊥
no_mark true e = true≢false (sym e)
no_mark false e = true≢false (sym e)

-- only a RIB that there is has a mark
pub within_from : (known : List Prefix) (ribs : Ribs) (at : ℕ) (prefix : Prefix) → is_marked_at known ribs at prefix ≡ true → at < length ribs
within_from known [] at prefix marked = absurd (no_mark (is_in known prefix) marked)
within_from known (first ∷ rest) zero prefix marked = omega arith
within_from known (first ∷ rest) (suc at) prefix marked = omega (arith, within_from known rest at prefix marked)

pub rib_is : (ribs now : Ribs) (at number : ℕ) (rib : RibState) → ribs ≡ now → at ≡ number → at < length ribs → rib ≡ slice_index_or ribs at rib → rib ≡ rib_at now number
rib_is ribs now at number rib same is within found =
    found ∙ get_or_default ribs at rib empty_rib within ∙ ap (λ (ribs : Ribs). rib_at ribs at) same ∙ ap (rib_at now) is

pub rib_set : (ribs : Ribs) (at number : ℕ) (rib : RibState) → at ≡ number → at < length ribs → rib_at (slice_set ribs at rib) number ≡ rib
rib_set ribs at number rib is within = get_or-set_at ribs at number rib empty_rib (sym is) within

-- ---- a refresh, as all RIBs see it

abbrev pub Replaces : RibState → RibState → Prefix → List Candidate → Type 0
Replaces old new prefix candidates = (number : ℕ) → times number (refs_of_rib new) + times number (refs_in (candidates_of (row_in old prefix))) ≡ times number (refs_of_rib old) + times number (refs_in candidates)

abbrev pub Spreads : RibState → RibState → List Candidate → Type 0
Spreads old new candidates = (other : Table) → AllByRecursion (IsOf other) (refs_of_rib old) → AllByRecursion (IsOf other) (refs_in candidates) → AllByRecursion (IsOf other) (refs_of_rib new)

module _ (table after : Table) (ribs : Ribs) (at : ℕ) (rib : RibState) (prefix : Prefix) (candidates : List Candidate) (within : at < length ribs) where
  moves_all : (change : Change) → Replaces (rib_at ribs at) rib prefix candidates → Moves table after (refs_in (kept_at ribs at prefix)) (refs_of_change change)
      → Moves table after (refs_of ribs ++ refs_in candidates) (refs_of (slice_set ribs at rib) ++ refs_of_change change)
  moves_all change replaces moves =
      moves_beside table after (refs_of ribs) (refs_of (slice_set ribs at rib)) (refs_in (kept_at ribs at prefix)) (refs_in candidates) (refs_of_change change) moves (λ number. omega (arith, replaces number, refs_beside number ribs at rib within))

  pub uses_refreshed : {E : Type 0} (r : Result Change E) → OnOk r (Replaces (rib_at ribs at) rib prefix candidates) → IfOk r (λ change. Moves table after (refs_in (kept_at ribs at prefix)) (refs_of_change change))
      → IfOk r (λ change. Moves table after (refs_of ribs ++ refs_in candidates) (refs_of (slice_set ribs at rib) ++ refs_of_change change))
  uses_refreshed (Ok change) replaces moves = moves_all change replaces moves
  uses_refreshed (Err e) replaces moves = tt

  pub came_refreshed : {E : Type 0} (always : Bool) (r : Result Change E) → CameFrom table (refs_of ribs ++ refs_in candidates)
      → IfOk r (λ change. change.old ≡ best_at ribs at prefix) → IfOk r (λ change. change.new ≡ best_of always candidates)
      → OnOk r (Replaces (rib_at ribs at) rib prefix candidates) → OnOk r (Spreads (rib_at ribs at) rib candidates)
      → IfOk r (λ change. Moves table after (refs_in (kept_at ribs at prefix)) (refs_of_change change))
      → IfOk r (λ change. CameFrom after (refs_of (slice_set ribs at rib) ++ refs_of_change change))
  came_refreshed always (Ok change) came old new replaces spreads moves =
      let before = all_front (IsOf table) (refs_of ribs) (refs_in candidates) came.each in
      let now = all_back (IsOf table) (refs_of ribs) (refs_in candidates) came.each in
      let row : Kept = record { candidates = candidates; always = always } in
      let here = each_at (IsOf table) ribs at before in
      let all = each_set (IsOf table) ribs at rib before (spreads table here now) in
      let first = chosen_of table (row_at ribs at prefix) change.old old (each_kept (IsOf table) (rib_at ribs at) prefix here) in
      let second = chosen_of table (Some row) change.new new now in
      came_on table after (refs_of ribs ++ refs_in candidates) (refs_of (slice_set ribs at rib) ++ refs_of_change change) came (moves_all change replaces moves)
      (all_both (IsOf table) (refs_of (slice_set ribs at rib)) (refs_of_change change) all (all_both (IsOf table) (refs_of_one change.old) (refs_of_one change.new) first second))
  came_refreshed always (Err e) came old new replaces spreads moves = tt

-- ---- a RIB that is emptied

no_refs : (rib : RibState) → IsEmptyRib rib → refs_of_rib rib ≡ []
no_refs rib empty = ap (λ (rows : List (Prefix × Kept)). flat_map refs_of_row (values_of rows)) empty.no_rows

module _ (ribs : Ribs) (at : ℕ) (rib : RibState) (within : at < length ribs) (empty : IsEmptyRib rib) where
  pub refs_emptied : (number : ℕ) → times number (refs_of (slice_set ribs at rib)) + times number (refs_of_rib (rib_at ribs at)) ≡ times number (refs_of ribs)
  refs_emptied number = omega (arith, refs_beside number ribs at rib within, ap (times number) (no_refs rib empty))

  pub uses_emptied : (table after : Table) → Moves table after (refs_of_rib (rib_at ribs at)) [] → Moves table after (refs_of ribs) (refs_of (slice_set ribs at rib))
  uses_emptied table after moves = moves_gone table after (refs_of ribs) (refs_of (slice_set ribs at rib)) (refs_of_rib (rib_at ribs at)) moves refs_emptied

  pub came_emptied : (table after : Table) → CameFrom table (refs_of ribs) → Moves table after (refs_of_rib (rib_at ribs at)) [] → CameFrom after (refs_of (slice_set ribs at rib))
  came_emptied table after came moves =
      came_on table after (refs_of ribs) (refs_of (slice_set ribs at rib)) came (uses_emptied table after moves)
      (each_set (IsOf table) ribs at rib came.each (subst (AllByRecursion (IsOf table)) (sym (no_refs rib empty)) tt))

-- ---- RIBs that are made

nothing_at : (at : ℕ) (rib : RibState) → IsEmptyRib rib → IsEmptyRib (rib_at [] at) → IsEmptyRib (rib_at (rib ∷ []) at)
nothing_at zero rib empty none = empty
nothing_at (suc at) rib empty none = none

pub empty_pushed : (ribs : Ribs) (rib : RibState) → IsEmptyRib rib → ((at : ℕ) → IsEmptyRib (rib_at ribs at)) → (at : ℕ) → IsEmptyRib (rib_at (ribs ++ rib ∷ []) at)
empty_pushed [] rib empty all at = nothing_at at rib empty (all at)
empty_pushed (first ∷ rest) rib empty all zero = all zero
empty_pushed (first ∷ rest) rib empty all (suc at) = empty_pushed rest rib empty (λ n. all (suc n)) at

pub refs_pushed : (ribs : Ribs) (rib : RibState) → IsEmptyRib rib → refs_of (ribs ++ rib ∷ []) ≡ refs_of ribs
refs_pushed [] rib empty = ap (λ (refs : List Numbered). refs ++ []) (no_refs rib empty)
refs_pushed (first ∷ rest) rib empty = ap (λ (refs : List Numbered). refs_of_rib first ++ refs) (refs_pushed rest rib empty)
