-- What a reader has left of the joined lines of a text.
use Rattle.std.proofs.Common.{◌≡◌, ◌∙◌, ℕ, ◌+◌, ◌≤◌, Bool, true, false, eqb, List, [], ◌∷◌, length, length-drop, take, drop, ◌-◌, Some, None, refl, ap, sym, arith, take_all}
use Rattle.std.proofs.lemmas.Bool.{eqb-true}
use Rattle.conf_tree.specs.Joined.{Seen, joined_from, is_lf, line_behind}
use Rattle.conf_tree.proofs.Both.{and_first, and_second}
use Rattle.conf_tree.proofs.Joining.{byte_stays, end_stays, joined_some}
use Rattle.conf_lex.specs.Readers.{begins_join, left_of}

two_away : (line place : ℕ) (b c : ℕ) (text : List ℕ) → b ≡ 92 → c ≡ 10 → joined_from false line place (b ∷ c ∷ text) ≡ joined_from false (line + 1) (place + 2) text
unfolding joined_from
two_away line place b c text e f = rw (e, f) (ap (λ p. joined_from false (line + 1) p text) (omega arith))

-- the bytes of a join go away
pub join_away : (line place : ℕ) (text : List ℕ) → begins_join text ≡ true → joined_from false line place text ≡ joined_from false (line + 1) (place + 2) (drop 2 text)
join_away line place [] e = absurd (cc)
join_away line place (b ∷ []) e = absurd (let f = and_second (eqb b 92) false e in cc)
join_away line place (b ∷ c ∷ text) e = two_away line place b c text (eqb-true b 92 (and_first (eqb b 92) (is_lf c) e)) (eqb-true c 10 (and_second (eqb b 92) (is_lf c) e))

pub join_two : (text : List ℕ) → begins_join text ≡ true → 2 ≤ length text
join_two [] e = absurd (cc)
join_two (b ∷ []) e = absurd (let f = and_second (eqb b 92) false e in cc)
join_two (b ∷ c ∷ text) e = omega arith

pub left_done : (ended : Bool) (line place : ℕ) (text : List ℕ) → left_of ended line place text ≡ [] → ended ≡ true
left_done true line place text e = refl
left_done false line place text e = absurd (joined_some false line place text e)

-- A slice behind its first n bytes.
pub part_behind : (n : ℕ) (text : List ℕ) → take (length text - n) (drop n text) ≡ drop n text
part_behind n text = take_all _ _ (omega (arith, length-drop n text))

-- What a reader has left, behind the joins in front.
pub next_byte : (now : List Seen) (line place : ℕ) (text : List ℕ) (line' place' b : ℕ) (rest more : List ℕ) (ended : Bool) → ended ≡ false → left_of ended line place text ≡ now → joined_from false line' place' rest ≡ joined_from false line place text → begins_join rest ≡ false → rest ≡ b ∷ more → now ≡ record { byte = Some b; line = line'; place = place' } ∷ left_of ended (line_behind line' b) (place' + 1) more
next_byte now line place text line' place' b rest more ended e f g h r =
    sym f ∙ ap (λ (d : Bool). left_of d line place text) e ∙ sym g ∙ ap (joined_from false line' place') r
    ∙ byte_stays line' place' b more (sym (ap begins_join r) ∙ h)
    ∙ ap (λ (d : Bool). record { byte = Some b; line = line'; place = place' } ∷ left_of d (line_behind line' b) (place' + 1) more) (sym e)

pub next_end : (now : List Seen) (line place : ℕ) (text : List ℕ) (line' place' : ℕ) (rest : List ℕ) (ended : Bool) → ended ≡ false → left_of ended line place text ≡ now → joined_from false line' place' rest ≡ joined_from false line place text → rest ≡ [] → now ≡ record { byte = None; line = line'; place = place' } ∷ []
next_end now line place text line' place' rest ended e f g r =
    sym f ∙ ap (λ (b : Bool). left_of b line place text) e ∙ sym g ∙ ap (joined_from false line' place') r ∙ end_stays line' place'

pub empty_of : {A : Type 0} (xs : List A) → length xs ≡ 0 → xs ≡ []
empty_of [] e = refl
empty_of (x ∷ xs) e = absurd (omega arith)
