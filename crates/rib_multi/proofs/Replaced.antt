-- One row changes, and with it the references of its RIB.
use Rattle.std.proofs.Common.{◌≡◌, ℕ, ◌+◌, ◌≤◌, Bool, true, false, cond, List, [], ◌∷◌, ◌++◌, length, Option, Some, None, option_map, refl, sym, ap, ◌∙◌, arith, subst}
use Rattle.std.specs.Prelude.{unwrap_or}
use Rattle.std.specs.List.{flat_map, sum_by, AllByRecursion}
use Rattle.std.specs.Map.{lookup, keys_of, values_of, remove_entry}
use Rattle.std.specs.BTreeMap.{insert_entry, is_at}
use Rattle.std.specs.Cmp.{IsTotalOrder}
use Rattle.std.specs.List.Sorted.{IsStrictlySortedBy}
use Rattle.std.specs.declared.cmp.Ordering.{Ordering}
use Rattle.std.specs.declared.cmp.Ordering.TheVariants.{Less, Equal, Greater}
use Rattle.std.specs.Ordering.{is_eq, match_ordering}
use Rattle.std.proofs.lemmas.List.Concat.{flat_map-cons}
use Rattle.std.proofs.lemmas.List.Sums.{sum_by-cons}
use Rattle.std.proofs.lemmas.Map.Entries.{sum_by-insert_entry, sum_by-remove_entry}
use Rattle.net_base.specs.declared.prefix.Prefix.{Prefix}
use Rattle.net_base.specs.Order.{prefix_cmp}
use Rattle.net_base.proofs.Order.{prefix_cmp-total}
use Rattle.attr_model.specs.Numbered.{Numbered}
use Rattle.attr_intern.specs.Table.{times}
use Rattle.decision.specs.declared.candidate.Candidate.{Candidate}
use Rattle.rib_multi.specs.Rows.{Kept, RibState, candidates_of, is_same, row_for, row_in, SetsRow}
use Rattle.rib_multi.specs.Uses.{refs_in, refs_of_row, refs_of_rib}
use Rattle.attr_intern.proofs.References.{times-append, all_front, all_back, all_both}

abbrev pub ByPrefix : Type 0
ByPrefix = Prefix → Prefix → Ordering

-- the row by an order of prefixes
abbrev pub row_by : ByPrefix → List (Prefix × Kept) → Prefix → Option Kept
row_by cmp rows prefix = lookup (λ other. is_eq (cmp prefix other)) rows

pub row_is : (cmp : ByPrefix) → cmp ≡ prefix_cmp → (rows : List (Prefix × Kept)) (prefix : Prefix) → row_by cmp rows prefix ≡ row_by prefix_cmp rows prefix
row_is cmp e rows prefix = ap (λ (cmp : ByPrefix). row_by cmp rows prefix) e

pub sets_row : (cmp : ByPrefix) → cmp ≡ prefix_cmp → (old new : RibState) (prefix : Prefix) (row : Option Kept)
    → ((q : Prefix) → row_by cmp new.rows q ≡ cond (is_eq (cmp prefix q)) row (row_by cmp old.rows q)) → SetsRow old new prefix row
sets_row cmp e old new prefix row updates =
    subst (λ (cmp : ByPrefix). (q : Prefix) → row_by cmp new.rows q ≡ cond (is_eq (cmp prefix q)) row (row_by cmp old.rows q)) e updates

-- ---- the row of some candidates

pub nothing : (candidates : List Candidate) → length candidates ≡ 0 → candidates ≡ []
nothing [] e = refl
nothing (candidate ∷ rest) e = absurd (omega (arith, e))

pub row_of_none : (always : Bool) (candidates : List Candidate) → length candidates ≡ 0 → None ≡ row_for always candidates
row_of_none always candidates e = sym (ap (row_for always) (nothing candidates e))

pub row_of_some : (row : Kept) → (length row.candidates ≡ 0 → ⊥) → Some row ≡ row_for row.always row.candidates
row_of_some row some = by row.candidates refl
  where
    by : (candidates : List Candidate) → row.candidates ≡ candidates → Some row ≡ row_for row.always row.candidates
    by [] e = absurd (some (ap length e))
    by (candidate ∷ rest) e = ap (λ (cs : List Candidate). Some (kept_of cs)) e ∙ sym (ap (row_for row.always) e)
      where
        kept_of : List Candidate → Kept
        kept_of cs = record { candidates = cs; always = row.always }

-- ---- references

module _ {X : Type 0} where
  pub times-flat_map : (number : ℕ) (refs : X → List Numbered) (xs : List X) → times number (flat_map refs xs) ≡ sum_by (λ x. times number (refs x)) xs
  times-flat_map number refs [] = refl
  times-flat_map number refs (x ∷ xs) =
      ap (times number) (flat_map-cons refs x xs) ∙ times-append number (refs x) (flat_map refs xs) ∙ ap (λ n. times number (refs x) + n) (times-flat_map number refs xs)
      ∙ sym (sum_by-cons (λ x. times number (refs x)) x xs)

times_was : (number : ℕ) (row : Option Kept) → times number (refs_in (candidates_of row)) ≡ unwrap_or (option_map (λ row. times number (refs_of_row row)) row) 0
times_was number None = refl
times_was number (Some row) = refl

abbrev pub Replaces : ℕ → RibState → RibState → Option Kept → List Candidate → Type 0
Replaces number old new was candidates = times number (refs_of_rib new) + times number (refs_in (candidates_of was)) ≡ times number (refs_of_rib old) + times number (refs_in candidates)

pub refs_put : (cmp : ByPrefix) → cmp ≡ prefix_cmp → (old new : RibState) (prefix : Prefix) (row : Kept) → IsStrictlySortedBy cmp (keys_of old.rows) → new.rows ≡ insert_entry cmp old.rows prefix row
    → (number : ℕ) → Replaces number old new (row_in old prefix) row.candidates
refs_put cmp e old new prefix row sorted is number =
    let weigh : Kept → ℕ = λ row. times number (refs_of_row row) in
    let total : IsTotalOrder cmp = subst IsTotalOrder (sym e) prefix_cmp-total in
    let sums = sum_by-insert_entry weigh total old.rows prefix row sorted in
    let after = times-flat_map number refs_of_row (values_of new.rows) ∙ ap (λ (rows : List (Prefix × Kept)). sum_by weigh (values_of rows)) is in
    let before = times-flat_map number refs_of_row (values_of old.rows) in
    let was = times_was number (row_in old prefix) ∙ ap (λ (o : Option Kept). unwrap_or (option_map weigh o) 0) (sym (row_is cmp e old.rows prefix)) in
    omega (arith, sums, after, before, was)

pub refs_gone : (cmp : ByPrefix) → cmp ≡ prefix_cmp → (old new : RibState) (prefix : Prefix) → new.rows ≡ remove_entry (is_at (cmp prefix)) old.rows
    → (number : ℕ) → Replaces number old new (row_in old prefix) []
refs_gone cmp e old new prefix is number =
    let weigh : Kept → ℕ = λ row. times number (refs_of_row row) in
    let sums = sum_by-remove_entry weigh (is_at (cmp prefix)) old.rows in
    let after = times-flat_map number refs_of_row (values_of new.rows) ∙ ap (λ (rows : List (Prefix × Kept)). sum_by weigh (values_of rows)) is in
    let before = times-flat_map number refs_of_row (values_of old.rows) in
    let was = times_was number (row_in old prefix) ∙ ap (λ (o : Option Kept). unwrap_or (option_map weigh o) 0) (sym (row_is cmp e old.rows prefix)) in
    omega (arith, sums, after, before, was)

-- ---- what holds of each reference

module _ (P : Numbered → Type 0) where
  all_rows : List Kept → Type 0
  all_rows rows = AllByRecursion P (flat_map refs_of_row rows)

  all_inserted : (cmp : ByPrefix) (rows : List (Prefix × Kept)) (prefix : Prefix) (row : Kept) → AllByRecursion P (flat_map refs_of_row (values_of rows)) → AllByRecursion P (refs_of_row row) → AllByRecursion P (flat_map refs_of_row (values_of (insert_entry cmp rows prefix row)))
  all_inserted cmp [] prefix row old now = all_both P (refs_of_row row) [] now tt
  all_inserted cmp (e ∷ es) prefix row old now = by (cmp prefix e.0) (all_inserted cmp es prefix row (all_back P (refs_of_row e.1) (flat_map refs_of_row (values_of es)) old) now)
    where
      by : (o : Ordering) → AllByRecursion P (flat_map refs_of_row (values_of (insert_entry cmp es prefix row))) → AllByRecursion P (flat_map refs_of_row (values_of (match_ordering o ((prefix, row) ∷ e ∷ es) ((e.0, row) ∷ es) (e ∷ insert_entry cmp es prefix row))))
      by Less behind = all_both P (refs_of_row row) (flat_map refs_of_row (values_of (e ∷ es))) now old
      by Equal behind = all_both P (refs_of_row row) (flat_map refs_of_row (values_of es)) now (all_back P (refs_of_row e.1) (flat_map refs_of_row (values_of es)) old)
      by Greater behind = all_both P (refs_of_row e.1) (flat_map refs_of_row (values_of (insert_entry cmp es prefix row))) (all_front P (refs_of_row e.1) (flat_map refs_of_row (values_of es)) old) behind

  all_removed : (test : Prefix → Bool) (rows : List (Prefix × Kept)) → AllByRecursion P (flat_map refs_of_row (values_of rows)) → AllByRecursion P (flat_map refs_of_row (values_of (remove_entry test rows)))
  all_removed test [] old = old
  all_removed test (e ∷ es) old = by (test e.0) (all_removed test es (all_back P (refs_of_row e.1) (flat_map refs_of_row (values_of es)) old))
    where
      by : (b : Bool) → AllByRecursion P (flat_map refs_of_row (values_of (remove_entry test es))) → AllByRecursion P (flat_map refs_of_row (values_of (cond b es (e ∷ remove_entry test es))))
      by true behind = all_back P (refs_of_row e.1) (flat_map refs_of_row (values_of es)) old
      by false behind = all_both P (refs_of_row e.1) (flat_map refs_of_row (values_of (remove_entry test es))) (all_front P (refs_of_row e.1) (flat_map refs_of_row (values_of es)) old) behind

  all_found : (test : Prefix → Bool) (rows : List (Prefix × Kept)) → AllByRecursion P (flat_map refs_of_row (values_of rows)) → AllByRecursion P (refs_in (candidates_of (lookup test rows)))
  all_found test [] old = tt
  all_found test (e ∷ es) old = by (test e.0) (all_found test es (all_back P (refs_of_row e.1) (flat_map refs_of_row (values_of es)) old))
    where
      by : (b : Bool) → AllByRecursion P (refs_in (candidates_of (lookup test es))) → AllByRecursion P (refs_in (candidates_of (cond b (Some e.1) (lookup test es))))
      by true behind = all_front P (refs_of_row e.1) (flat_map refs_of_row (values_of es)) old
      by false behind = behind

pub each_put : (cmp : ByPrefix) (old new : RibState) (prefix : Prefix) (row : Kept) → new.rows ≡ insert_entry cmp old.rows prefix row
    → (P : Numbered → Type 0) → AllByRecursion P (refs_of_rib old) → AllByRecursion P (refs_in row.candidates) → AllByRecursion P (refs_of_rib new)
each_put cmp old new prefix row is P before now = subst (λ (rows : List (Prefix × Kept)). AllByRecursion P (flat_map refs_of_row (values_of rows))) (sym is) (all_inserted P cmp old.rows prefix row before now)

pub each_gone : (test : Prefix → Bool) (old new : RibState) → new.rows ≡ remove_entry test old.rows → (P : Numbered → Type 0) → AllByRecursion P (refs_of_rib old) → AllByRecursion P (refs_of_rib new)
each_gone test old new is P before = subst (λ (rows : List (Prefix × Kept)). AllByRecursion P (flat_map refs_of_row (values_of rows))) (sym is) (all_removed P test old.rows before)

pub each_kept : (P : Numbered → Type 0) (rib : RibState) (prefix : Prefix) → AllByRecursion P (refs_of_rib rib) → AllByRecursion P (refs_in (candidates_of (row_in rib prefix)))
each_kept P rib prefix = all_found P (is_same prefix) rib.rows

-- ---- a row's references are among those of its RIB

times_found : (number : ℕ) (test : Prefix → Bool) (rows : List (Prefix × Kept)) → times number (refs_in (candidates_of (lookup test rows))) ≤ times number (flat_map refs_of_row (values_of rows))
times_found number test [] = omega arith
times_found number test (e ∷ es) = by (test e.0) (times_found number test es)
  where
    by : (b : Bool) → times number (refs_in (candidates_of (lookup test es))) ≤ times number (flat_map refs_of_row (values_of es))
        → times number (refs_in (candidates_of (cond b (Some e.1) (lookup test es)))) ≤ times number (refs_of_row e.1 ++ flat_map refs_of_row (values_of es))
    by true behind = omega (arith, times-append number (refs_of_row e.1) (flat_map refs_of_row (values_of es)))
    by false behind = omega (arith, behind, times-append number (refs_of_row e.1) (flat_map refs_of_row (values_of es)))

pub times_kept : (number : ℕ) (rib : RibState) (prefix : Prefix) → times number (refs_in (candidates_of (row_in rib prefix))) ≤ times number (refs_of_rib rib)
times_kept number rib prefix = times_found number (is_same prefix) rib.rows
