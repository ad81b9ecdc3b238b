-- How uses go: what is handed out, and then what is given back.
use Rattle.std.proofs.Common.{◌≡◌, ℕ, ◌+◌, ◌<◌, ◌≤◌, ◌==◌, cond, List, [], ◌∷◌, ◌++◌, Option, Some, None, refl, sym, ap, ◌∙◌, arith, subst}
use Rattle.std.specs.List.{AllByRecursion}
use Rattle.std.specs.Prelude.{IfSome}
use Rattle.std.proofs.lemmas.List.Sums.{sum_by-cons, sum_by-append}
use Rattle.attr_model.specs.declared.attrs.Attrs.{Attrs}
use Rattle.attr_model.specs.Numbered.{Numbered}
use Rattle.attr_intern.specs.Table.{Table, attrs_at, uses_at, times, IsOf, CameFrom, Hands, TakesBack}
use Rattle.attr_intern.proofs.References.{times-cons, times-append, all_back, still_of}
use Rattle.decision.specs.declared.candidate.Candidate.{Candidate}
use Rattle.rib_multi.specs.Uses.{refs_of_one, Moves}

-- ---- what came from a table

pub one_of : (table : Table) (one : Option Candidate) → CameFrom table (refs_of_one one) → IfSome one (λ one. IsOf table one.attrs)
one_of table None came = tt
one_of table (Some one) came = came.each.0

-- ---- handing out

pub came_still : (old new : Table) (handed ones : List Numbered) → Hands old new handed → CameFrom old ones → CameFrom new ones
came_still old new handed ones hands came = record {
  each = still ones came.each;
  uses = λ number. omega (arith, came.uses number, hands.uses number);
}
  where
    still : (ones : List Numbered) → AllByRecursion (IsOf old) ones → AllByRecursion (IsOf new) ones
    still [] of = tt
    still (one ∷ rest) of = (hands.stays one.number one.attrs of.0, still rest of.1)

pub came_handed : (old new : Table) (ones : List Numbered) → Hands old new ones → CameFrom new ones
came_handed old new ones hands = record { each = hands.each; uses = λ number. omega (arith, hands.uses number) }

-- ---- giving back

pub moves_none : (table : Table) → Moves table table [] []
moves_none table = record { uses = λ number. refl; stays = λ number attrs is used. is }

pub moves_same : (table : Table) (ones : List Numbered) → Moves table table ones ones
moves_same table ones = record { uses = λ number. refl; stays = λ number attrs is used. is }

pub moves_back : (old new : Table) (ones : List Numbered) → TakesBack old new ones → Moves old new ones []
moves_back old new ones takes = record {
  uses = λ number. omega (arith, takes.uses number);
  stays = λ number attrs is used. takes.stays number used ∙ is;
}

-- the first of what is left is given back
pub moves_one : (start old new : Table) (one : Numbered) (all rest : List Numbered) → Moves start old all (one ∷ rest) → TakesBack old new (one ∷ []) → Moves start new all rest
moves_one start old new one all rest moves takes = record {
  uses = λ number. omega (arith, moves.uses number, takes.uses number, times-cons number one rest);
  stays = λ number attrs is used. takes.stays number used ∙ moves.stays number attrs is (omega (arith, used, takes.uses number));
}

pub came_rest : (old new : Table) (one : Numbered) (rest : List Numbered) → CameFrom old (one ∷ rest) → TakesBack old new (one ∷ []) → CameFrom new rest
came_rest old new one rest came takes =
    let enough : (number : ℕ) → times number rest ≤ uses_at new number = λ number. omega (arith, came.uses number, takes.uses number, times-cons number one rest) in
    record { each = still_of old new rest (λ number attrs is used. takes.stays number used ∙ is) enough came.each.1; uses = enough }

-- all in front was given back
pub came_behind : (old new : Table) (ones others : List Numbered) → Moves old new ones [] → CameFrom old (ones ++ others) → CameFrom new others
came_behind old new ones others moves came =
    let enough : (number : ℕ) → times number others ≤ uses_at new number = λ number. omega (arith, came.uses number, moves.uses number, times-append number ones others) in
    record { each = still_of old new others moves.stays enough (all_back (IsOf old) ones others came.each); uses = enough }

pub moves_then : (old mid new : Table) (before after given : List Numbered) → Moves old mid before after → Moves mid new given [] → Moves old new (before ++ given) after
moves_then old mid new before after given first second = record {
  uses = λ number. omega (arith, first.uses number, second.uses number, times-append number before given);
  stays = λ number attrs is used. second.stays number attrs (first.stays number attrs is (omega (arith, used, second.uses number))) used;
}

-- the first ones of what is left are given back
pub moves_front : (start old new : Table) (all ones rest : List Numbered) → Moves start old all (ones ++ rest) → Moves old new ones [] → Moves start new all rest
moves_front start old new all ones rest moves given = record {
  uses = λ number. omega (arith, moves.uses number, given.uses number, times-append number ones rest);
  stays = λ number attrs is used. given.stays number attrs (moves.stays number attrs is (omega (arith, used, given.uses number))) used;
}

-- one step after another, where the second hands nothing out
pub moves_on : (start old new : Table) (all left fewer : List Numbered) → Moves start old all left → Moves old new left fewer → ((number : ℕ) → times number fewer ≤ times number left) → Moves start new all fewer
moves_on start old new all left fewer first second less = record {
  uses = λ number. omega (arith, first.uses number, second.uses number);
  stays = λ number attrs is used. second.stays number attrs (first.stays number attrs is (omega (arith, used, second.uses number, less number))) used;
}

-- what one part kept is replaced, and all else stays beside it
pub moves_beside : (old new : Table) (before after was now handed : List Numbered) → Moves old new was handed → ((number : ℕ) → times number after + times number was ≡ times number before + times number now)
    → Moves old new (before ++ now) (after ++ handed)
moves_beside old new before after was now handed moves counts = record {
  uses = λ number. omega (arith, moves.uses number, counts number, times-append number before now, times-append number after handed);
  stays = moves.stays;
}

-- a part goes
pub moves_gone : (old new : Table) (before after gone : List Numbered) → Moves old new gone [] → ((number : ℕ) → times number after + times number gone ≡ times number before) → Moves old new before after
moves_gone old new before after gone moves counts = record {
  uses = λ number. omega (arith, moves.uses number, counts number);
  stays = moves.stays;
}

-- what came from the table before comes from it behind a step
pub came_on : (old new : Table) (before after : List Numbered) → CameFrom old before → Moves old new before after → AllByRecursion (IsOf old) after → CameFrom new after
came_on old new before after came moves of =
    let enough : (number : ℕ) → times number after ≤ uses_at new number = λ number. omega (arith, came.uses number, moves.uses number) in
    record { each = still_of old new after moves.stays enough of; uses = enough }

-- some are handed out, and then others are given back
pub hands_then : (old mid new : Table) (handed given : List Numbered) → Hands old mid handed → Moves mid new given [] → Moves old new given handed
hands_then old mid new handed given hands moves = record {
  uses = λ number. omega (arith, hands.uses number, moves.uses number);
  stays = λ number attrs is used. moves.stays number attrs (hands.stays number attrs is) used;
}

-- what was handed out is given back
pub hands_undone : (old mid new : Table) (ones : List Numbered) → Hands old mid ones → Moves mid new ones [] → Moves old new [] []
hands_undone old mid new ones hands moves = record {
  uses = λ number. omega (arith, hands.uses number, moves.uses number);
  stays = λ number attrs is used. moves.stays number attrs (hands.stays number attrs is) used;
}
