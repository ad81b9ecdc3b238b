-- How the joined lines of a text go on, and how long they are.
use Rattle.std.proofs.Common.{◌≡◌, ℕ, suc, ◌+◌, ◌≤◌, Bool, true, false, List, [], ◌∷◌, length, Some, None, refl, arith}
use Rattle.conf_tree.specs.Joined.{Seen, joined_from, joins, unless_gone, line_behind}

-- another byte stays
pub byte_stays : (line place b : ℕ) (text : List ℕ) → joins b text ≡ false → joined_from false line place (b ∷ text) ≡ record { byte = Some b; line = line; place = place } ∷ joined_from false (line_behind line b) (place + 1) text
unfolding joined_from
byte_stays line place b text e = rw e

pub end_stays : (line place : ℕ) → joined_from false line place [] ≡ record { byte = None; line = line; place = place } ∷ []
unfolding joined_from
end_stays line place = refl

-- the end is always there
filled : (gone : Bool) (seen : Seen) (rest : List Seen) → (rest ≡ [] → ⊥) → unless_gone gone seen rest ≡ [] → ⊥
filled true seen rest h e = h e
filled false seen rest h e = cc

pub joined_some : (gone : Bool) (line place : ℕ) (text : List ℕ) → joined_from gone line place text ≡ [] → ⊥
unfolding joined_from
joined_some gone line place [] e = cc
joined_some gone line place (b ∷ text) e = filled _ _ _ (joined_some (joins b text) (line_behind line b) (place + 1) text) e

gone_length : (gone : Bool) (seen : Seen) (rest : List Seen) (n : ℕ) → length rest ≤ suc n → length (unless_gone gone seen rest) ≤ suc (suc n)
gone_length true seen rest n h = omega arith
gone_length false seen rest n h = omega arith

-- A joined text is no longer than the text and its end.
pub joined_length : (gone : Bool) (line place : ℕ) (text : List ℕ) → length (joined_from gone line place text) ≤ suc (length text)
unfolding joined_from
joined_length gone line place [] = omega arith
joined_length gone line place (b ∷ text) = gone_length _ _ _ (length text) (joined_length (joins b text) (line_behind line b) (place + 1) text)
