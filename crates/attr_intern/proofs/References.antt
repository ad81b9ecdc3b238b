-- References in lists: their counts, what holds of each, and where they came from.
use Rattle.std.proofs.Common.{◌≡◌, ℕ, ◌+◌, ◌<◌, ◌≤◌, ◌==◌, cond, List, [], ◌∷◌, ◌++◌, Some, refl, arith}
use Rattle.std.specs.List.{AllByRecursion}
use Rattle.std.proofs.lemmas.List.Sums.{sum_by-cons, sum_by-append}
use Rattle.attr_model.specs.declared.attrs.Attrs.{Attrs}
use Rattle.attr_model.specs.Numbered.{Numbered}
use Rattle.attr_intern.specs.Table.{Table, attrs_at, uses_at, times, IsOf, CameFrom, Hands}
use Rattle.attr_intern.proofs.Uses.{times_itself}

-- ---- counts

pub times-cons : (number : ℕ) (one : Numbered) (rest : List Numbered) → times number (one ∷ rest) ≡ times number (one ∷ []) + times number rest
times-cons number one rest =
    let whole = sum_by-cons (λ (one : Numbered). cond (one.number == number) 1 0) one rest in
    let alone = sum_by-cons (λ (one : Numbered). cond (one.number == number) 1 0) one [] in
    omega arith

pub times-append : (number : ℕ) (ones others : List Numbered) → times number (ones ++ others) ≡ times number ones + times number others
times-append number ones others = sum_by-append (λ (one : Numbered). cond (one.number == number) 1 0) ones others

-- ---- what holds of each

pub all_front : (P : Numbered → Type 0) (ones others : List Numbered) → AllByRecursion P (ones ++ others) → AllByRecursion P ones
all_front P [] others all = tt
all_front P (one ∷ rest) others all = (all.0, all_front P rest others all.1)

pub all_back : (P : Numbered → Type 0) (ones others : List Numbered) → AllByRecursion P (ones ++ others) → AllByRecursion P others
all_back P [] others all = all
all_back P (one ∷ rest) others all = all_back P rest others all.1

pub all_both : (P : Numbered → Type 0) (ones others : List Numbered) → AllByRecursion P ones → AllByRecursion P others → AllByRecursion P (ones ++ others)
all_both P [] others front back = back
all_both P (one ∷ rest) others front back = (front.0, all_both P rest others front.1 back)

-- ---- what came from a table

-- what every number stands for stays, as far as it is in use
abbrev pub Stays : Table → Table → Type 0
Stays old new = (number : ℕ) (attrs : Attrs) → attrs_at old number ≡ Some attrs → 0 < uses_at new number → attrs_at new number ≡ Some attrs

pub still_of : (old new : Table) (ones : List Numbered) → Stays old new → ((number : ℕ) → times number ones ≤ uses_at new number) → AllByRecursion (IsOf old) ones → AllByRecursion (IsOf new) ones
still_of old new [] stays enough of = tt
still_of old new (one ∷ rest) stays enough of =
    let used : 0 < uses_at new one.number = omega (arith, enough one.number, times-cons one.number one rest, times_itself one.number one refl) in
    (stays one.number one.attrs of.0 used, still_of old new rest stays (λ number. omega (arith, enough number, times-cons number one rest)) of.1)

pub came_front : (table : Table) (ones others : List Numbered) → CameFrom table (ones ++ others) → CameFrom table ones
came_front table ones others came = record {
  each = all_front (IsOf table) ones others came.each;
  uses = λ number. omega (arith, came.uses number, times-append number ones others);
}

pub came_back : (table : Table) (ones others : List Numbered) → CameFrom table (ones ++ others) → CameFrom table others
came_back table ones others came = record {
  each = all_back (IsOf table) ones others came.each;
  uses = λ number. omega (arith, came.uses number, times-append number ones others);
}

-- ---- handing out

pub hands_none : (table : Table) → Hands table table []
hands_none table = record { each = tt; uses = λ number. omega arith; stays = λ number attrs is. is }

pub hands_both : (old mid new : Table) (ones others : List Numbered) → Hands old mid ones → Hands mid new others → Hands old new (ones ++ others)
hands_both old mid new ones others first second = record {
  each = all_both (IsOf new) ones others (handed ones first.each) second.each;
  uses = λ number. omega (arith, first.uses number, second.uses number, times-append number ones others);
  stays = λ number attrs is. second.stays number attrs (first.stays number attrs is);
}
  where
    handed : (ones : List Numbered) → AllByRecursion (IsOf mid) ones → AllByRecursion (IsOf new) ones
    handed [] of = tt
    handed (one ∷ rest) of = (second.stays one.number one.attrs of.0, handed rest of.1)
