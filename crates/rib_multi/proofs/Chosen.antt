-- The best of a row is one of its candidates, so its reference is one of the row's.
use Rattle.std.proofs.Common.{◌≡◌, Bor, inl, inr, List, [], ◌∷◌, Option, Some, None, option_copied, refl, sym, ap, ◌∙◌, subst}
use Rattle.std.specs.List.{AllByRecursion}
use Rattle.std.specs.Prelude.{IfSome}
use Rattle.attr_intern.specs.Table.{Table, IsOf}
use Rattle.decision.specs.declared.candidate.Candidate.{Candidate}
use Rattle.decision.specs.Best.{best_of}
use Rattle.decision.proofs.Lists.{In, In_from_Contains}
use Rattle.decision.proofs.SameMembers.{best_there}
use Rattle.rib_multi.specs.Rows.{Kept, candidates_of, best_of_row}
use Rattle.rib_multi.specs.Uses.{refs_in, refs_of_one}

member_of : (table : Table) (one : Candidate) (candidates : List Candidate) → In one candidates → AllByRecursion (IsOf table) (refs_in candidates) → IsOf table one.attrs
member_of table one [] there of = absurd there
member_of table one (candidate ∷ rest) (inl same) of = subst (λ (c : Candidate). IsOf table c.attrs) (sym same) of.0
member_of table one (candidate ∷ rest) (inr there) of = member_of table one rest there of.1

pub best_is_of : (table : Table) (row : Option Kept) (found : Option (Bor Candidate)) → option_copied found ≡ best_of_row row → AllByRecursion (IsOf table) (refs_in (candidates_of row)) → IfSome found (λ one. IsOf table one.now.attrs)
best_is_of table row None is of = tt
best_is_of table None (Some found) is of = absurd (none is)
  where
    none : Some found.now ≡ None → ⊥
    none e = cc
best_is_of table (Some row) (Some found) is of =
    member_of table found.now row.candidates (In_from_Contains found.now row.candidates (best_there row.always row.candidates found.now (sym is))) of

pub chosen_of : (table : Table) (row : Option Kept) (found : Option Candidate) → found ≡ best_of_row row → AllByRecursion (IsOf table) (refs_in (candidates_of row)) → AllByRecursion (IsOf table) (refs_of_one found)
chosen_of table row None is of = tt
chosen_of table None (Some found) is of = absurd (none is)
  where
    none : Some found ≡ None → ⊥
    none e = cc
chosen_of table (Some row) (Some found) is of =
    (member_of table found row.candidates (In_from_Contains found row.candidates (best_there row.always row.candidates found (sym is))) of, tt)
