-- References that go back, and what is still of the table.
use Rattle.std.proofs.Common.{◌≡◌, ℕ, ◌+◌, ◌<◌, ◌≤◌, ◌==◌, Bool, true, false, cond, List, [], ◌∷◌, ◌++◌, Option, Some, None, refl, sym, ap, ◌∙◌, arith}
use Rattle.std.specs.Prelude.{unwrap_or, option_map, IfSome, length}
use Rattle.std.specs.List.{AllByRecursion}
use Rattle.std.proofs.lemmas.Bool.Decides.{Decides-eqb}
use Rattle.std.proofs.lemmas.List.Sums.{sum_by-cons}
use Rattle.attr_model.specs.Numbered.{Numbered}
use Rattle.attr_model.specs.declared.attrs.Attrs.{Attrs}
use Rattle.attr_intern.specs.declared.table.Shared.{Shared}
use Rattle.attr_intern.specs.Table.{Table, shared_at, uses_at, attrs_at, times, IsOf, CameFrom, TakesBack, Hands}
use Rattle.adj_rib_out.specs.declared.look.Look.{Look}
use Rattle.adj_rib_out.specs.Packed.{Packed}
use Rattle.adj_rib_out.specs.Uses.{Moves}
use Rattle.adj_rib_out.proofs.Kept.{times-append, all-back, some_none}

pub times-cons : (number : ℕ) (one : Numbered) (rest : List Numbered) → times number (one ∷ rest) ≡ cond (one.number == number) 1 0 + times number rest
times-cons number one rest = sum_by-cons (λ (one : Numbered). cond (one.number == number) 1 0) one rest

times-itself : (one : Numbered) (rest : List Numbered) → times one.number (one ∷ rest) ≡ 1 + times one.number rest
times-itself one rest = times-cons one.number one rest ∙ ap (λ b. cond b 1 0 + times one.number rest) ((Decides-eqb one.number one.number).1 refl)

-- What is in use stands for what it stood for.
abbrev pub Stays : Table → Table → Type 0
Stays old new = (number : ℕ) → 0 < uses_at new number → attrs_at new number ≡ attrs_at old number

-- references that still have their uses are still of the table
pub still_of : (old new : Table) (ones : List Numbered) → AllByRecursion (IsOf old) ones → ((number : ℕ) → times number ones ≤ uses_at new number) → Stays old new → AllByRecursion (IsOf new) ones
still_of old new [] all counted stays = tt
still_of old new (one ∷ rest) all counted stays = (
  stays one.number (omega (arith, counted one.number, times-itself one rest)) ∙ all.0,
  still_of old new rest all.1 (λ number. omega (arith, counted number, times-cons number one rest)) stays,
)

pub times-none : (number : ℕ) → times number [] ≡ 0
times-none number = refl

pub moves_one : (old new : Table) (one : Numbered) → TakesBack old new (one ∷ []) → Moves old new (one ∷ []) []
moves_one old new one back = record { uses = λ number. omega (arith, back.uses number, times-none number); stays = back.stays }

pub moves_none : (table : Table) → Moves table table [] []
moves_none table = record { uses = λ number. refl; stays = λ number some. refl }

-- the uses that a table has at least, where references of it moved
pub counted_still : (old new : Table) (before after : List Numbered) → ((number : ℕ) → times number before ≤ uses_at old number) → Moves old new before after → (number : ℕ) → times number after ≤ uses_at new number
counted_still old new before after counted moves number = omega (arith, counted number, moves.uses number)

-- One more reference goes back: what was held, with it, is what is held, without it.
pub moves_more : (old mid new : Table) (before held back after : List Numbered) → ((number : ℕ) → times number held ≡ times number after + times number back)
    → Moves old mid before held → Moves mid new back [] → Moves old new before after
moves_more old mid new before held back after split first second = record {
  uses = λ number. omega (arith, first.uses number, second.uses number, split number, times-none number);
  stays = λ number some. second.stays number some ∙ first.stays number (omega (arith, some, second.uses number, times-none number));
}

-- what goes back is of the table
pub back_of : (old mid : Table) (before held back : List Numbered) → ((number : ℕ) → times number before ≤ uses_at old number) → ((number : ℕ) → times number back ≤ times number held) → AllByRecursion (IsOf old) back
    → Moves old mid before held → AllByRecursion (IsOf mid) back
back_of old mid before held back counted some all moves =
    still_of old mid back all (λ number. omega (arith, some number, counted_still old mid before held counted moves number)) moves.stays

pub split_more : (held back after : List Numbered) → held ≡ back ++ after → (number : ℕ) → times number held ≡ times number after + times number back
split_more held back after is number = omega (arith, ap (times number) is, times-append number back after)

-- ---- references that a table hands out again

-- what stands among references is of the table
among : (table : Table) (number : ℕ) (ones : List Numbered) → AllByRecursion (IsOf table) ones → 0 < times number ones → attrs_at table number ≡ None → ⊥
among table number [] all some none = omega (arith, some, times-none number)
among table number (one ∷ rest) all some none = go (λ later. among table number rest all.1 later none) (one.number == number) refl
  where
    skips : (one.number == number) ≡ false → times number (one ∷ rest) ≡ times number rest
    skips e = omega (arith, times-cons number one rest, ap (λ b. cond b 1 0 + times number rest) e)

    go : (0 < times number rest → ⊥) → (b : Bool) → (one.number == number) ≡ b → ⊥
    go rec true e = some_none one.attrs (sym all.0 ∙ ap (attrs_at table) ((Decides-eqb one.number number).0 e) ∙ none)
    go rec false e = rec (omega (arith, some, skips e))

unused : (table : Table) (number : ℕ) → attrs_at table number ≡ None → uses_at table number ≡ 0
unused table number none = go (shared_at table number) none
  where
    go : (o : Option Shared) → option_map (λ (shared : Shared). shared.attrs) o ≡ None → unwrap_or (option_map (λ (shared : Shared). shared.uses) o) 0 ≡ 0
    go None none = refl
    go (Some shared) none = absurd (some_none shared.attrs none)

pub hands_stays : (old new : Table) (ones : List Numbered) → AllByRecursion (IsOf old) ones → Hands old new ones → Stays old new
hands_stays old new ones all hands number some = go (attrs_at old number) refl
  where
    go : (o : Option Attrs) → attrs_at old number ≡ o → attrs_at new number ≡ attrs_at old number
    go (Some attrs) e = hands.stays number attrs e ∙ sym e
    go None e = absurd (among old number ones all (omega (arith, some, hands.uses number, unused old number e)) e)

-- what came from the table came from it still
pub came_still : (old new : Table) (ones came : List Numbered) → AllByRecursion (IsOf old) ones → Hands old new ones → CameFrom old came → CameFrom new came
came_still old new ones came all hands from = record {
  each = still_of old new came from.each counted (hands_stays old new ones all hands);
  uses = counted;
}
  where
    counted : (number : ℕ) → times number came ≤ uses_at new number
    counted number = omega (arith, from.uses number, hands.uses number)

-- Some are handed out, and then others move.
pub hands_moves : (old mid new : Table) (ones before after : List Numbered) → AllByRecursion (IsOf old) ones → Hands old mid ones → ((number : ℕ) → times number after ≤ times number before) → Moves mid new before after → Moves old new before (after ++ ones)
hands_moves old mid new ones before after all hands less moves = record {
  uses = λ number. omega (arith, moves.uses number, hands.uses number, times-append number after ones);
  stays = λ number some. moves.stays number some ∙ hands_stays old mid ones all hands number (omega (arith, some, moves.uses number, less number));
}

-- some go back, and others stay
pub moves_beside : (old new : Table) (kept back : List Numbered) → Moves old new back [] → Moves old new (kept ++ back) kept
moves_beside old new kept back moves = record { uses = λ number. omega (arith, moves.uses number, times-append number kept back, times-none number); stays = moves.stays }

pub came_back : (table : Table) (kept back : List Numbered) → CameFrom table (kept ++ back) → CameFrom table back
came_back table kept back came = record { each = all-back (IsOf table) kept back came.each; uses = λ number. omega (arith, came.uses number, times-append number kept back) }

pub room_less : (packing : Option Packed) (left : ℕ) → IfSome packing (λ packed. left + 1 ≤ packed.room) → IfSome packing (λ packed. left ≤ packed.room)
room_less None left some = some
room_less (Some packed) left some = omega (arith, some)

room_part : (packing : Option Packed) (n m : ℕ) → m ≤ n → IfSome packing (λ packed. n ≤ packed.room) → IfSome packing (λ packed. m ≤ packed.room)
room_part None n m le some = some
room_part (Some packed) n m le some = omega (arith, some, le)

one_longer : (looks : List Look) (look : Look) (more : List Look) → looks ≡ look ∷ more → length looks ≡ length more + 1
one_longer looks look more first = ap length first ∙ omega arith

-- there is room for the first look
pub room_first : (packing : Option Packed) (looks : List Look) (look : Look) (more : List Look) → looks ≡ look ∷ more → IfSome packing (λ packed. length looks ≤ packed.room) → IfSome packing (λ packed. 0 < packed.room)
room_first packing looks look more first room = room_part packing (length looks) 1 (omega (arith, one_longer looks look more first)) room

-- and then for the others
pub room_more : (packing now : Option Packed) (looks : List Look) (look : Look) (more : List Look) → looks ≡ look ∷ more → IfSome packing (λ packed. length looks ≤ packed.room)
    → (IfSome packing (λ packed. length more + 1 ≤ packed.room) → IfSome now (λ packed. length more ≤ packed.room)) → IfSome now (λ packed. length more ≤ packed.room)
room_more packing now looks look more first room step = step (room_part packing (length looks) (length more + 1) (omega (arith, one_longer looks look more first)) room)

pub moves_same : (table : Table) (ones : List Numbered) → Moves table table ones ones
moves_same table ones = record { uses = λ number. refl; stays = λ number some. refl }

pub nothing_left : {X : Type 0} (items : List X) (len : ℕ) → len ≡ length items → len ≡ 0 → items ≡ []
nothing_left [] len e z = refl
nothing_left (x ∷ xs) len e z = absurd (omega (arith, e, z))
