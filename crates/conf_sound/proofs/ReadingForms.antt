-- Words and marks that must stand there, and lists of members.
use Rattle.std.proofs.Common.{◌≡◌, ℕ, zero, suc, ◌+◌, ◌-◌, ◌≤◌, Bool, true, false, eqb, List, [], ◌∷◌, length, drop, codes, Ok, refl, arith}
use Rattle.std.proofs.lemmas.Bool.Decides.{nat_tests}
use Rattle.net_base.specs.declared.conf.Counted.{Counted}
use Rattle.conf_tree.specs.declared.token.Token.{Token}
use Rattle.conf_tree.specs.Faults.{◌>>=◌}
use Rattle.conf_tree.specs.Reading.{Reading, Member, behind, keyword_at, mark_at, mark_is, line_end_at, after_separators, members_at, list_at, full_list_at, one_or_list_at, unless_full}
use Rattle.conf_tree.specs.Readable.{Each}
use Rattle.conf_sound.proofs.Finds.{AreGood, Finds, Leaves, ok, err, bind, either, wider, good_behind, reading}

pub good_drop : (n : ℕ) (tokens : List Token) → AreGood tokens → AreGood (drop n tokens)
good_drop zero tokens g = g
good_drop (suc n) [] g = tt
good_drop (suc n) (token ∷ tokens) g = good_drop n tokens g.1

pub keyword_form : (name : List ℕ) (tokens : List Token) → AreGood tokens → Leaves (keyword_at name tokens)
unfolding keyword_at
keyword_form name tokens g = search (reading, g)

pub mark_form : (name : List ℕ) (tokens : List Token) → AreGood tokens → Leaves (mark_at name tokens)
unfolding mark_at
mark_form name tokens g = search (reading, g)

pub line_end_form : (tokens : List Token) → AreGood tokens → Leaves (line_end_at tokens)
unfolding line_end_at
line_end_form tokens g = search (reading, g)

pub separators_good : (tokens : List Token) → AreGood tokens → AreGood (after_separators tokens)
unfolding after_separators
separators_good tokens g = good_drop _ tokens g

-- a member of a list with no room is a fault
abbrev pub IsMember : {A : Type 0} → (A → Type 0) → Bool → A → Type 0
IsMember Is full x = Is x × (full ≡ false)

pub unless_full_form : {A : Type 0} (Is : A → Type 0) (full : Bool) (counted : Counted) (tokens : List Token) (reading : Reading A) → Finds Is reading → Finds (IsMember Is full) (unless_full full counted tokens reading)
unfolding unless_full
unless_full_form Is true counted tokens reading h = err _
unless_full_form Is false counted tokens reading h = wider reading (λ x p. (p, refl)) h

-- reads members in form
abbrev pub ReadsMembers : {A : Type 0} → (A → Type 0) → Member A → Type 0
ReadsMembers Is read = (full : Bool) (tokens : List Token) → AreGood tokens → Finds (IsMember Is full) (read full tokens)

abbrev pub AreAtMost : {A : Type 0} → (A → Type 0) → ℕ → List A → Type 0
AreAtMost Is most xs = Each Is xs × (length xs ≤ most)

room_left : (room count : ℕ) → (room ≡ 0 → ⊥) → count ≤ room - 1 → 1 + count ≤ room
room_left room count some h = omega (arith, h, some)

is_some : (room : ℕ) → eqb room 0 ≡ false → room ≡ 0 → ⊥
is_some room e z = grind (arith, nat_tests)

pub some_room : (room : ℕ) → eqb room 0 ≡ false → 1 ≤ room
some_room room e = grind (arith, nat_tests)

pub one_more : (room count : ℕ) → eqb room 0 ≡ false → count ≤ room - 1 → suc count ≤ room
one_more room count e h = grind (arith, nat_tests)

pub members_form : {A : Type 0} (Is : A → Type 0) (read : Member A) (room most : ℕ) (tokens : List Token) → ReadsMembers Is read → AreGood tokens → Finds (AreAtMost Is room) (members_at read room most tokens)
unfolding members_at
members_form Is read room zero tokens reads g = err _
members_form {A} Is read room (suc most) tokens reads g =
    let g' : AreGood (after_separators tokens) = separators_good tokens g in
    let none : AreAtMost Is room [] = (tt, omega arith) in
    let first_form : Finds (IsMember Is (eqb room 0)) (read (eqb room 0) (after_separators tokens)) = reads (eqb room 0) (after_separators tokens) g' in
    let others_form : (rest : List Token) → AreGood rest → Finds (AreAtMost Is (room - 1)) (members_at read (room - 1) most rest) = λ rest g. members_form Is read (room - 1) most rest reads g in
    let front : (x : A) (xs : List A) → IsMember Is (eqb room 0) x → AreAtMost Is (room - 1) xs → AreAtMost Is room (x ∷ xs) = λ x xs p q. ((p.0, q.0), one_more room (length xs) p.1 q.1) in
    either (mark_is (codes "}") (after_separators tokens)) (Ok ([], behind (after_separators tokens)))
    (read (eqb room 0) (after_separators tokens) >>= λ first. members_at read (room - 1) most first.1 >>= λ others. Ok (first.0 ∷ others.0, others.1))
    (λ e. ok _ _ none (good_behind _ g'))
    (λ e. bind _ _ first_form (λ first p rest. bind _ _ (others_form first.1 rest) (λ others q left. ok _ _ (front first.0 others.0 p q) left)))

pub list_form : {A : Type 0} (Is : A → Type 0) (read : Member A) (room : ℕ) (tokens : List Token) → ReadsMembers Is read → AreGood tokens → Finds (AreAtMost Is room) (list_at read room tokens)
unfolding list_at
list_form Is read room tokens reads g = members_form Is read room (length tokens) tokens reads g

-- one at least, and at most so many
abbrev pub AreSome : {A : Type 0} → (A → Type 0) → ℕ → List A → Type 0
AreSome Is most xs = AreAtMost Is most xs × (1 ≤ length xs)

pub full_list_form : {A : Type 0} (Is : A → Type 0) (read : Member A) (room : ℕ) (tokens : List Token) → ReadsMembers Is read → AreGood tokens → Finds (AreSome Is room) (full_list_at read room tokens)
unfolding full_list_at
full_list_form {A} Is read room tokens reads g =
    let first_form : Finds (IsMember Is (eqb room 0)) (read (eqb room 0) (after_separators tokens)) = reads (eqb room 0) (after_separators tokens) (separators_good tokens g) in
    let others_form : (rest : List Token) → AreGood rest → Finds (AreAtMost Is (room - 1)) (list_at read (room - 1) rest) = λ rest g. list_form Is read (room - 1) rest reads g in
    let front : (x : A) (xs : List A) → IsMember Is (eqb room 0) x → AreAtMost Is (room - 1) xs → AreSome Is room (x ∷ xs) = λ x xs p q. (((p.0, q.0), one_more room (length xs) p.1 q.1), omega arith) in
    bind _ _ first_form (λ first p rest. bind _ _ (others_form first.1 rest) (λ others q left. ok _ _ (front first.0 others.0 p q) left))

pub one_or_list_form : {A : Type 0} (Is : A → Type 0) (read : Member A) (room most : ℕ) (tokens : List Token) → room ≤ most → 1 ≤ most → ReadsMembers Is read → AreGood tokens → Finds (AreSome Is most) (one_or_list_at read room tokens)
unfolding one_or_list_at
one_or_list_form {A} Is read room most tokens h some reads g =
    let many : Finds (AreSome Is most) (full_list_at read room (behind tokens)) = wider _ (λ xs p. ((p.0.0, omega (arith, p.0.1, h)), p.1)) (full_list_form Is read room (behind tokens) reads (good_behind tokens g)) in
    let only_form : Finds (IsMember Is false) (read false tokens) = reads false tokens g in
    let only : (x : A) → IsMember Is false x → AreSome Is most (x ∷ []) = λ x p. (((p.0, tt), omega (arith, some)), omega arith) in
    search (reading, many, only_form, only) depth 9
