-- What a token and a line take of a text.
use Rattle.std.proofs.Common.{◌≡◌, ◌∙◌, ◌≤◌, ◌<◌, ◌+◌, ◌-◌, ℕ, suc, Bool, true, false, cond, List, [], ◌∷◌, length, length-append, take-append-drop, take, drop, nat_lt, Option, Some, None, Ok, Err, refl, ap, sym, arith}
use Rattle.std.specs.Option.{option_map_or}
use Rattle.conf_tree.specs.declared.token.Token.{Token}
use Rattle.conf_tree.specs.declared.token.TokenKind.TheVariants.{Quoted}
use Rattle.conf_tree.specs.Joined.{Seen, is_lf}
use Rattle.net_base.specs.declared.conf.ConfKind.TheVariants.{TooLong}
use Rattle.conf_tree.specs.Cuts.{Rules, Cut, token_at, run, behind, bytes_of, in_blanks, in_comment, in_word, in_quotes, behind_blanks, mark_size, closed, closed_by, cut_by, first_cut_at, fault_at, nothing_left, is_quote, is_word_byte, end_in_front, quoted_cut, mark_cut, word_cut, cut_at, first_cut}

-- a cut of a text of n bytes: less is left, and no more than the bytes of the token are gone
abbrev pub Takes : ℕ → Cut → Type 0
Takes n (Ok found) = (length found.1 < n) × (length found.0.text + length found.1 ≤ n)
Takes n (Err fault) = Unit {0}

takes_if : (n : ℕ) (b : Bool) (x y : Cut) → Takes n x → Takes n y → Takes n (cond b x y)
takes_if n true x y h k = h
takes_if n false x y h k = k

bytes_one : (byte : Option ℕ) (line place : ℕ) (rest : List Seen) → length (bytes_of (record { byte = byte; line = line; place = place } ∷ rest)) ≤ suc (length (bytes_of rest))
bytes_one None line place rest = omega arith
bytes_one (Some b) line place rest = omega arith

bytes_within : (seen : List Seen) → length (bytes_of seen) ≤ length seen
bytes_within [] = omega arith
bytes_within (a ∷ rest) = omega (arith, bytes_one a.byte a.line a.place rest, bytes_within rest)

run_by : (b : Bool) (a : Seen) (front left rest : List Seen) → length front + length left ≤ length rest → length (cond b (a ∷ front) []) + length (cond b left (a ∷ rest)) ≤ suc (length rest)
run_by true a front left rest h = omega arith
run_by false a front left rest h = omega arith

-- a run and what stands behind it
pub run_and_behind : (p : List Seen → Bool) (xs : List Seen) → length (run p xs) + length (behind p xs) ≤ length xs
unfolding run behind
run_and_behind p [] = omega arith
run_and_behind p (a ∷ rest) = run_by (p (a ∷ rest)) a (run p rest) (behind p rest) rest (run_and_behind p rest)

if_within : (n : ℕ) (b : Bool) (xs ys : List Seen) → length xs ≤ n → length ys ≤ n → length (cond b xs ys) ≤ n
if_within n true xs ys h k = h
if_within n false xs ys h k = k

behind_within : (p : List Seen → Bool) (xs : List Seen) → length (behind p xs) ≤ length xs
behind_within p xs = omega (arith, run_and_behind p xs)

blanks_within : (rules : Rules) (xs : List Seen) → length (behind_blanks rules xs) ≤ length xs
unfolding behind_blanks
blanks_within rules xs =
    let blanks = behind_within in_blanks xs in
    let rest : List Seen = behind in_blanks xs in
    let comment = behind_within (in_comment rules) rest in
    if_within (length xs) _ (behind (in_comment rules) rest) rest (omega (arith, blanks, comment)) blanks

closed_by_takes : (m : ℕ) (rules : Rules) (opening : Seen) (text : List ℕ) (seen : Seen) (rest : List Seen) (byte : Option ℕ) → length text + suc (length rest) ≤ m → Takes (suc m) (closed_by rules opening text seen rest byte)
closed_by_takes m rules opening text seen rest None h = tt
closed_by_takes m rules opening text seen rest (Some b) h =
    let here : Takes (suc m) (Ok (token_at opening Quoted (seen.place + 1) text, rest)) = (omega arith, omega arith) in
    takes_if (suc m) (is_quote b) _ _ here (takes_if (suc m) (is_lf b) _ _ tt tt)

closed_takes : (m : ℕ) (rules : Rules) (opening : Seen) (text : List ℕ) (rest : List Seen) → length text + length rest ≤ m → Takes (suc m) (closed rules opening text rest)
closed_takes m rules opening text [] h = tt
closed_takes m rules opening text (seen ∷ rest) h = closed_by_takes m rules opening text seen rest seen.byte h

quoted_takes : (rules : Rules) (opening : Seen) (rest : List Seen) → Takes (suc (length rest)) (quoted_cut rules opening rest)
unfolding quoted_cut
quoted_takes rules opening rest =
    closed_takes (length rest) rules opening (bytes_of (run (in_quotes rules) rest)) (behind (in_quotes rules) rest) (omega (arith, bytes_within (run (in_quotes rules) rest), run_and_behind (in_quotes rules) rest))

parts_within : (k : ℕ) (xs : List Seen) → length (take k xs) + length (drop k xs) ≡ length xs
parts_within k xs = sym (length-append (take k xs) (drop k xs)) ∙ ap length (take-append-drop k xs)

mark_takes : (size : ℕ) (seen : Seen) (rest : List Seen) → Takes (suc (length rest)) (mark_cut size seen rest)
unfolding mark_cut
mark_takes size seen rest =
    let both = parts_within (size - 1) rest in
    let text = bytes_within (seen ∷ take (size - 1) rest) in
    (omega (arith, both), omega (arith, both, text))

ended_takes : (n : ℕ) (cut : Bool) (end : Option Seen) (word : Token) (rest : List Seen) → Takes n (Ok (word, rest)) → Takes n (cond cut (option_map_or (λ e. Err (fault_at e TooLong)) end (Ok (word, rest))) (Ok (word, rest)))
ended_takes n true None word rest h = h
ended_takes n true (Some e) word rest h = tt
ended_takes n false end word rest h = h

word_takes : (rules : Rules) (seen : Seen) (rest : List Seen) → Takes (suc (length rest)) (word_cut rules seen rest)
unfolding word_cut
word_takes rules seen rest =
    let both = run_and_behind (in_word rules) rest in
    let text = bytes_within (seen ∷ run (in_word rules) rest) in
    ended_takes (suc (length rest)) rules.cut (end_in_front (behind (in_word rules) rest)) _ _ (omega (arith, both), omega (arith, both, text))

cut_by_takes : (rules : Rules) (seen : Seen) (rest : List Seen) (byte : Option ℕ) → Takes (suc (length rest)) (cut_by rules seen rest byte)
cut_by_takes rules seen rest None = takes_if _ rules.cut _ _ tt (omega arith, omega arith)
cut_by_takes rules seen rest (Some b) =
    takes_if _ (is_lf b) _ _ (omega arith, omega arith)
    (takes_if _ (is_quote b) _ _ (quoted_takes rules seen rest)
    (takes_if _ (nat_lt 0 (mark_size (seen ∷ rest))) _ _ (mark_takes (mark_size (seen ∷ rest)) seen rest)
    (takes_if _ (is_word_byte rules b) _ _ (word_takes rules seen rest) tt)))

cut_at_takes : (rules : Rules) (seen : Seen) (rest : List Seen) → Takes (suc (length rest)) (cut_at rules seen rest)
unfolding cut_at
cut_at_takes rules seen rest = cut_by_takes rules seen rest seen.byte

pub more_takes : (n m : ℕ) (cut : Cut) → n ≤ m → Takes n cut → Takes m cut
more_takes n m (Err fault) h t = tt
more_takes n m (Ok found) h t = (omega (arith, t.0), omega (arith, t.1))

first_at_takes : (n : ℕ) (rules : Rules) (rest : List Seen) → length rest ≤ n → Takes n (first_cut_at rules rest)
first_at_takes n rules [] h = tt
first_at_takes n rules (seen ∷ rest) h = more_takes (suc (length rest)) n (cut_at rules seen rest) h (cut_at_takes rules seen rest)

pub first_takes : (rules : Rules) (rest : List Seen) → Takes (length rest) (first_cut rules rest)
unfolding first_cut
first_takes rules rest = first_at_takes (length rest) rules (behind_blanks rules rest) (blanks_within rules rest)

-- a text of which nothing is left has no first token
pub first_of_none : (rules : Rules) → first_cut rules [] ≡ Err nothing_left
unfolding first_cut behind_blanks behind
first_of_none rules = refl
