-- Steps on a table of attributes, one after another.
use Rattle.std.proofs.Common.{◌≡◌, ℕ, ◌+◌, ◌<◌, ◌≤◌, ◌==◌, cond, List, [], ◌∷◌, ◌++◌, length, Some, refl, sym, ap, ◌∙◌, arith, subst}
use Rattle.std.specs.List.{AllByRecursion}
use Rattle.std.specs.Prelude.{Result, Ok, Err, IfOk, OnOk, OnErr}
use Rattle.attr_model.specs.declared.attrs.Attrs.{Attrs}
use Rattle.attr_model.specs.Numbered.{Numbered}
use Rattle.attr_intern.specs.Table.{Table, attrs_at, uses_at, times, IsOf, CameFrom, Hands, TakesBack}
use Rattle.attr_intern.proofs.References.{times-cons, times-append, all_front, all_back, all_both, still_of, came_front, came_back, Stays as IsKept}
use Rattle.adj_rib_in.specs.Uses.{Swaps}
use Rattle.decision.specs.declared.candidate.Candidate.{Candidate}
use Rattle.rib_multi.specs.Uses.{refs_in, Moves}
use Rattle.adj_rib_out.specs.Uses.{Trades}
use Rattle.rde_tables.specs.Uses.{Keeps, Stays, Accounts}

pub times-none : (number : ℕ) → times number [] ≡ 0
times-none number = refl

-- ---- what came from a table

-- the same references in another order
pub came_turned : (table : Table) (ones others : List Numbered) → CameFrom table (ones ++ others) → CameFrom table (others ++ ones)
came_turned table ones others came = record {
  each = all_both (IsOf table) others ones (all_back (IsOf table) ones others came.each) (all_front (IsOf table) ones others came.each);
  uses = λ number. omega (arith, came.uses number, times-append number ones others, times-append number others ones);
}

-- references in the place of others, where as many are of the table
pub came_as : (table : Table) (ones others rest : List Numbered) → ((number : ℕ) → times number others ≤ times number ones)
    → (AllByRecursion (IsOf table) ones → AllByRecursion (IsOf table) others) → CameFrom table (ones ++ rest) → CameFrom table (others ++ rest)
came_as table ones others rest fewer each came = record {
  each = all_both (IsOf table) others rest (each (all_front (IsOf table) ones rest came.each)) (all_back (IsOf table) ones rest came.each);
  uses = λ number. omega (arith, fewer number, came.uses number, times-append number ones rest, times-append number others rest);
}

-- ---- steps

pub keeps_moved : (old new : Table) (before after : List Numbered) → IsKept old new
    → ((number : ℕ) → uses_at new number + times number before ≡ uses_at old number + times number after)
    → (CameFrom old before → AllByRecursion (IsOf new) after) → Keeps old new before after
keeps_moved old new before after stands uses each = record {
  uses = uses;
  came = λ rest came.
      let enough : (number : ℕ) → times number (after ++ rest) ≤ uses_at new number = λ number. omega (arith, uses number, came.uses number, times-append number before rest, times-append number after rest) in
      record {
        each = all_both (IsOf new) after rest (each (came_front old before rest came)) (still_of old new rest stands (λ number. omega (arith, enough number, times-append number after rest)) (all_back (IsOf old) before rest came.each));
        uses = enough;
      };
}

pub keeps_none : (table : Table) (ones : List Numbered) → Keeps table table ones ones
keeps_none table ones = record { uses = λ number. refl; came = λ rest came. came }

pub keeps_then : (old mid new : Table) (before between after : List Numbered) → Keeps old mid before between → Keeps mid new between after → Keeps old new before after
keeps_then old mid new before between after first second = record {
  uses = λ number. omega (arith, first.uses number, second.uses number);
  came = λ rest came. second.came rest (first.came rest came);
}

-- a step beside references that it doesn't touch
pub keeps_beside : (old new : Table) (before after others : List Numbered) → Keeps old new before after → Keeps old new (before ++ others) (after ++ others)
keeps_beside old new before after others keeps = record {
  uses = λ number. omega (arith, keeps.uses number, times-append number before others, times-append number after others);
  came = λ rest came. subst (CameFrom new) (sym (joined after others rest)) (keeps.came (others ++ rest) (subst (CameFrom old) (joined before others rest) came));
}
  where
    joined : (xs ys zs : List Numbered) → (xs ++ ys) ++ zs ≡ xs ++ (ys ++ zs)
    joined [] ys zs = refl
    joined (x ∷ xs) ys zs = ap (λ (more : List Numbered). x ∷ more) (joined xs ys zs)

-- the same references, in another order or grouped otherwise
pub keeps_same : (table : Table) (before after : List Numbered) → ((number : ℕ) → times number before ≡ times number after)
    → (AllByRecursion (IsOf table) before → AllByRecursion (IsOf table) after) → Keeps table table before after
keeps_same table before after same each = record {
  uses = λ number. omega (arith, same number);
  came = λ rest came. came_as table before after rest (λ number. omega (arith, same number)) each came;
}

pub keeps_turned : (table : Table) (ones others : List Numbered) → Keeps table table (ones ++ others) (others ++ ones)
keeps_turned table ones others = keeps_same table (ones ++ others) (others ++ ones) (λ number. omega (arith, times-append number ones others, times-append number others ones))
    (λ all. all_both (IsOf table) others ones (all_back (IsOf table) ones others all) (all_front (IsOf table) ones others all))

-- a step behind references that it doesn't touch
pub keeps_behind : (old new : Table) (before after others : List Numbered) → Keeps old new before after → Keeps old new (others ++ before) (others ++ after)
keeps_behind old new before after others keeps =
    keeps_then old old new (others ++ before) (before ++ others) (others ++ after) (keeps_turned old others before)
    (keeps_then old new new (before ++ others) (after ++ others) (others ++ after) (keeps_beside old new before after others keeps) (keeps_turned new after others))

-- ---- handing out and giving back

pub keeps_handed : (old new : Table) (ones : List Numbered) → Hands old new ones → Keeps old new [] ones
keeps_handed old new ones hands =
    keeps_moved old new [] ones (λ number attrs is used. hands.stays number attrs is) (λ number. omega (arith, hands.uses number, times-none number)) (λ came. hands.each)

pub keeps_given : (old new : Table) (ones : List Numbered) → TakesBack old new ones → Keeps old new ones []
keeps_given old new ones takes =
    keeps_moved old new ones [] (λ number attrs is used. takes.stays number used ∙ is) (λ number. omega (arith, takes.uses number, times-none number)) (λ came. tt)

pub of_front : (table : Table) (one : Numbered) (rest : List Numbered) → CameFrom table (one ∷ rest) → IsOf table one
of_front table one rest came = came.each.0

-- ---- what is exact

pub exact_on : (old new : Table) (before after : List Numbered) → CameFrom new after → Keeps old new before after → Accounts old before → Accounts new after
exact_on old new before after came keeps exact = record {
  each = came.each;
  uses = λ number. omega (arith, keeps.uses number, exact.uses number);
}

-- ---- what is known of one part

nothing_more : (ones : List Numbered) → ones ++ [] ≡ ones
nothing_more [] = refl
nothing_more (one ∷ rest) = ap (λ (more : List Numbered). one ∷ more) (nothing_more rest)

pub keeps_came : (old new : Table) (before after : List Numbered) → Keeps old new before after → CameFrom old before → CameFrom new after
keeps_came old new before after keeps came = subst (CameFrom new) (nothing_more after) (keeps.came [] (subst (CameFrom old) (sym (nothing_more before)) came))

pub came_middle : (table : Table) (first second third : List Numbered) → CameFrom table (first ++ (second ++ third)) → CameFrom table second
came_middle table first second third came = came_front table second third (came_back table first (second ++ third) came)

pub keeps_middle : (old new : Table) (first before after third : List Numbered) → Keeps old new before after → Keeps old new (first ++ (before ++ third)) (first ++ (after ++ third))
keeps_middle old new first before after third keeps = keeps_behind old new (before ++ third) (after ++ third) first (keeps_beside old new before after third keeps)

pub keeps_last : (old new : Table) (first second before after : List Numbered) → Keeps old new before after → Keeps old new (first ++ (second ++ before)) (first ++ (second ++ after))
keeps_last old new first second before after keeps = keeps_behind old new (second ++ before) (second ++ after) first (keeps_behind old new before after second keeps)

-- ---- the steps of the tables

pub keeps_moves : (old new : Table) (before after : List Numbered) → Moves old new before after → CameFrom new after → Keeps old new before after
keeps_moves old new before after moves came = keeps_moved old new before after moves.stays moves.uses (λ _. came.each)

pub keeps_trades : (old new : Table) (before after : List Numbered) → Trades old new before after → Keeps old new before after
keeps_trades old new before after trades = keeps_moved old new before after (λ number attrs is used. trades.moves.stays number used ∙ is) trades.moves.uses (λ _. trades.each)

-- held routes go
pub swapped_out : (table : Table) (old new going : List Numbered) → Swaps old new [] going → Keeps table table old (going ++ new)
swapped_out table old new going swaps = keeps_same table old (going ++ new) (λ number. omega (arith, swaps.uses number, times-append number going new, times-none number))
    (λ all. let parts = swaps.each table all tt in all_both (IsOf table) going new parts.1 parts.0)

pub keeps_out : (table after : Table) (old new going : List Numbered) → Swaps old new [] going → Keeps table after going [] → Keeps table after old new
keeps_out table after old new going swaps given =
    keeps_then table table after old (going ++ new) new (swapped_out table old new going swaps) (keeps_beside table after going [] new given)

-- a held route comes in the place of another, with a use of its own, beside one of the same attributes
pub held_anew : (table mid after : Table) (one like : Numbered) (old new going : List Numbered) → Hands table mid (like ∷ []) → Swaps old new (like ∷ []) going → Keeps mid after going []
    → Keeps table after (one ∷ old) (one ∷ new)
held_anew table mid after one like old new going hands swaps given =
    keeps_then table mid after (one ∷ old) (like ∷ (one ∷ old)) (one ∷ new) (keeps_beside table mid [] (like ∷ []) (one ∷ old) (keeps_handed table mid (like ∷ []) hands))
    (keeps_then mid mid after (like ∷ (one ∷ old)) (going ++ (one ∷ new)) (one ∷ new) (keeps_same mid (like ∷ (one ∷ old)) (going ++ (one ∷ new)) counts each) (keeps_beside mid after going [] (one ∷ new) given))
  where
    counts : (number : ℕ) → times number (like ∷ (one ∷ old)) ≡ times number (going ++ (one ∷ new))
    counts number = omega (arith, swaps.uses number, times-cons number like (one ∷ old), times-cons number one old, times-append number going (one ∷ new), times-cons number one new)

    each : AllByRecursion (IsOf mid) (like ∷ (one ∷ old)) → AllByRecursion (IsOf mid) (going ++ (one ∷ new))
    each all = let parts = swaps.each mid all.1.1 (all.0, tt) in all_both (IsOf mid) going (one ∷ new) parts.1 (all.1.0, parts.0)

pub held_not : (table mid after : Table) (one like given : Numbered) (old new : List Numbered) → Hands table mid (like ∷ []) → Swaps old new [] [] → given ≡ like → TakesBack mid after (given ∷ [])
    → Keeps table after (one ∷ old) (one ∷ new)
held_not table mid after one like given old new hands swaps same takes =
    held_anew table mid after one like old new (like ∷ []) hands through (keeps_given mid after (like ∷ []) (subst (λ (one : Numbered). TakesBack mid after (one ∷ [])) same takes))
  where
    through : Swaps old new (like ∷ []) (like ∷ [])
    through = record { uses = λ number. omega (arith, swaps.uses number, times-none number); each = λ table all coming. ((swaps.each table all tt).0, coming) }

-- one is handed out or nothing changes
pub stays_handed : {E : Type 0} (old new : Table) (r : Result Numbered E) → IfOk r (λ one. Hands old new (one ∷ [])) → OnErr r (new ≡ old) → Stays old new [] []
stays_handed old new (Ok one) hands same = λ rest came. came_back new (one ∷ []) rest ((keeps_handed old new (one ∷ []) hands).came rest came)
stays_handed old new (Err e) hands same = λ rest came. subst (λ (table : Table). CameFrom table rest) (sym same) came

-- one more stands behind those that were handed out
pub keeps_pushed : (table mid after : Table) (ones : List Numbered) (one : Numbered) → Keeps table mid [] ones → Keeps mid after [] (one ∷ []) → Keeps table after [] (ones ++ one ∷ [])
keeps_pushed table mid after ones one first second =
    keeps_then table mid after [] ones (ones ++ one ∷ []) first
    (keeps_then mid after after ones (one ∷ ones) (ones ++ one ∷ []) (keeps_beside mid after [] (one ∷ []) ones second) (keeps_turned after (one ∷ []) ones))

-- more are handed out
pub keeps_more : (table mid after : Table) (ones more : List Numbered) → Keeps table mid [] ones → Keeps mid after [] more → Keeps table after [] (ones ++ more)
keeps_more table mid after ones more first second =
    keeps_then table mid after [] ones (ones ++ more) first
    (keeps_then mid after after ones (more ++ ones) (ones ++ more) (keeps_beside mid after [] more ones second) (keeps_turned after more ones))

-- routes are announced: one is handed out, those come, and it goes back
pub keeps_announced : (table first second after : Table) (one : Numbered) (old new : List Numbered) → Hands table first (one ∷ []) → Keeps first second (one ∷ old) (one ∷ new) → TakesBack second after (one ∷ [])
    → Keeps table after old new
keeps_announced table first second after one old new hands keeps takes =
    keeps_then table first after old (one ∷ old) new (keeps_beside table first [] (one ∷ []) old (keeps_handed table first (one ∷ []) hands))
    (keeps_then first second after (one ∷ old) (one ∷ new) new keeps (keeps_beside second after (one ∷ []) [] new (keeps_given second after (one ∷ []) takes)))

-- some are handed out and kept, and what a step answers goes back
pub keeps_answered : (table first second after : Table) (old new now answer : List Numbered) → Keeps table first [] now → Keeps first second (old ++ now) (new ++ answer)
    → Keeps second after answer [] → Keeps table after old new
keeps_answered table first second after old new now answer handed step given =
    keeps_then table first after old (now ++ old) new (keeps_beside table first [] now old handed)
    (keeps_then first first after (now ++ old) (old ++ now) new (keeps_turned first now old)
    (keeps_then first second after (old ++ now) (new ++ answer) new step
    (keeps_then second second after (new ++ answer) (answer ++ new) new (keeps_turned second new answer) (keeps_beside second after answer [] new given))))

pub keeps_refreshed : (table first second after : Table) (old new now change : List Numbered) → Keeps table first [] now → Moves first second (old ++ now) (new ++ change) → CameFrom second (new ++ change)
    → Keeps second after change [] → Keeps table after old new
keeps_refreshed table first second after old new now change handed moves came given =
    keeps_answered table first second after old new now change handed (keeps_moves first second (old ++ now) (new ++ change) moves came) given

pub on_ok : {X E : Type 0} (P : Type 0) (r : Result X E) → P → OnOk r P
on_ok P (Ok x) holds = holds
on_ok P (Err e) holds = tt

-- ---- lists of candidates

pub refs_pushed : (candidates : List Candidate) (one : Candidate) → refs_in (candidates ++ one ∷ []) ≡ refs_in candidates ++ one.attrs ∷ []
refs_pushed [] one = refl
refs_pushed (first ∷ rest) one = ap (λ (more : List Numbered). first.attrs ∷ more) (refs_pushed rest one)

pub length_pushed : (candidates : List Candidate) (one : Candidate) → length (candidates ++ one ∷ []) ≡ length candidates + 1
length_pushed [] one = refl
length_pushed (first ∷ rest) one = omega (arith, length_pushed rest one)
