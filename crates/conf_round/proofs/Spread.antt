-- The bytes of a part of a line at their places.
use Rattle.std.proofs.Common.{◌≡◌, ◌∙◌, ℕ, suc, ◌+◌, Bool, true, false, ◌&&◌, eqb, List, [], ◌∷◌, ◌++◌, length, Some, refl, ap, arith}
use Rattle.conf_tree.specs.Joined.{Seen, joined_from, joins, begins_with_lf, is_lf}
use Rattle.conf_tree.proofs.Joining.{byte_stays}
use Rattle.conf_round.proofs.Plain.{ArePlain}

abbrev pub at : ℕ → ℕ → ℕ → Seen
at line place b = record { byte = Some b; line = line; place = place }

-- the bytes from a place of a line on, none of which is LF
abbrev pub spread : ℕ → ℕ → List ℕ → List Seen
spread line place [] = []
spread line place (b ∷ text) = at line place b ∷ spread line (place + 1) text

-- no byte is LF
abbrev pub AreNoLf : List ℕ → Type 0
AreNoLf [] = Unit {0}
AreNoLf (b ∷ text) = (is_lf b ≡ false) × AreNoLf text

pub and_false : (b : Bool) → (b && false) ≡ false
and_false true = refl
and_false false = refl

-- the place behind a first byte
further : (line place n : ℕ) (rest : List ℕ) → joined_from false line ((place + 1) + n) rest ≡ joined_from false line (place + suc n) rest
further line place n rest = ap (λ p. joined_from false line p rest) (omega arith)

-- one byte that is no LF and doesn't join
one : (line place b : ℕ) (text : List ℕ) → joins b text ≡ false → is_lf b ≡ false → joined_from false line place (b ∷ text) ≡ at line place b ∷ joined_from false line (place + 1) text
one line place b text j n = byte_stays line place b text j ∙ rw n refl

-- words stay as they are
pub joined_word : (line place : ℕ) (word rest : List ℕ) → ArePlain word → joined_from false line place (word ++ rest) ≡ spread line place word ++ joined_from false line (place + length word) rest
joined_word line place [] rest p = ap (λ n. joined_from false line n rest) (omega arith)
joined_word line place (b ∷ word) rest p =
    one line place b (word ++ rest) (rw p.0.backslash refl) p.0.lf
    ∙ ap (λ (s : List Seen). at line place b ∷ s) (joined_word line (place + 1) word rest p.1 ∙ ap (λ (s : List Seen). spread line (place + 1) word ++ s) (further line place (length word) rest))

-- a byte that joins nothing
pub joined_one : (line place b : ℕ) (rest : List ℕ) → eqb b 92 ≡ false → is_lf b ≡ false → joined_from false line place (b ∷ rest) ≡ at line place b ∷ joined_from false line (place + 1) rest
joined_one line place b rest e n = one line place b rest (rw e refl) n

-- the end of a line
pub joined_end : (line place : ℕ) (rest : List ℕ) → joined_from false line place (10 ∷ rest) ≡ at line place 10 ∷ joined_from false (line + 1) (place + 1) rest
joined_end line place rest = byte_stays line place 10 rest refl

-- texts without LF stay as they are where no LF follows them
no_join : (b : ℕ) (text rest : List ℕ) → AreNoLf text → begins_with_lf rest ≡ false → joins b (text ++ rest) ≡ false
no_join b [] rest p e = rw e (and_false (eqb b 92))
no_join b (c ∷ text) rest p e = rw p.0 (and_false (eqb b 92))

pub joined_inside : (line place : ℕ) (text rest : List ℕ) → AreNoLf text → begins_with_lf rest ≡ false → joined_from false line place (text ++ rest) ≡ spread line place text ++ joined_from false line (place + length text) rest
joined_inside line place [] rest p e = ap (λ n. joined_from false line n rest) (omega arith)
joined_inside line place (b ∷ text) rest p e =
    one line place b (text ++ rest) (no_join b text rest p.1 e) p.0
    ∙ ap (λ (s : List Seen). at line place b ∷ s) (joined_inside line (place + 1) text rest p.1 e ∙ ap (λ (s : List Seen). spread line (place + 1) text ++ s) (further line place (length text) rest))
