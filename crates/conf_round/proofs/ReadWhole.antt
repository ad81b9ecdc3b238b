-- The statements of a printed text, one after the other.
use Rattle.std.proofs.Common.{◌≡◌, ℕ, zero, suc, ◌+◌, ◌<◌, ◌≤◌, true, false, eqb, List, [], ◌∷◌, ◌++◌, length, length-append, Ok, refl, ap, arith}
use Rattle.std.proofs.lemmas.Bool.Decides.{nat_tests}
use Rattle.conf_tree.specs.declared.token.Token.{Token}
use Rattle.conf_tree.specs.declared.token.TokenKind.{TokenKind}
use Rattle.conf_tree.specs.declared.token.TokenKind.TheVariants.{Word, Quoted, Mark, LineEnd}
use Rattle.conf_tree.specs.declared.draft.Statement.{Statement}
use Rattle.conf_tree.specs.declared.draft.StatementLine.{StatementLine}
use Rattle.conf_tree.specs.Kinds.{is_word, is_line_end}
use Rattle.conf_tree.specs.Reading.{line_of, ends_line, line_end_at}
use Rattle.conf_tree.specs.StatementReading.{Room, all_room, room_behind, statement_at, statement_line_at, after_empty_lines, statements_at, draft_of}
use Rattle.conf_round.proofs.Pieces.{Piece, line_tokens, line_finish, end_token}
use Rattle.conf_round.proofs.Texts.{last_token, lines_tokens}
use Rattle.conf_round.proofs.ReadLists.{starts_word}

-- the lines of a statement, and what it says where it begins on a line
abbrev pub Printed : Type 0
Printed = List (List Piece) × (ℕ → Statement)

abbrev pub lines_of : List Printed → List (List Piece)
lines_of [] = []
lines_of (u ∷ us) = u.0 ++ lines_of us

-- the statements, of which the first begins on this line
abbrev pub printed_from : ℕ → List Printed → List StatementLine
printed_from line [] = []
printed_from line (u ∷ us) = record { line = line; statement = u.1 line } ∷ printed_from (line + length u.0) us

-- What is read of the lines of a statement: it, the end of its last line, and then the lines behind it.
pub record Reads (room : Room) (u : Printed) (line at : ℕ) (more : List (List Piece)) : Type 0 where
  pub end_line : ℕ
  pub end_place : ℕ
  pub next : ℕ
  pub says : statement_at room (lines_tokens line at (u.0 ++ more)) ≡ Ok (u.1 line, end_token end_line end_place ∷ lines_tokens (line + length u.0) next more)
  pub starts : starts_word (lines_tokens line at (u.0 ++ more)) ≡ true
  pub begins : line_of (lines_tokens line at (u.0 ++ more)) ≡ line
  pub longer : length (lines_tokens (line + length u.0) next more) < length (lines_tokens line at (u.0 ++ more))

abbrev pub Says : Room → Printed → Type 0
Says room u = (line at : ℕ) (more : List (List Piece)) → Reads room u line at more

-- each statement is read in the room that those before it leave
abbrev pub SaysAll : Room → List Printed → Type 0
SaysAll room [] = Unit {0}
SaysAll room (u ∷ us) = Says room u × ((line : ℕ) → SaysAll (room_behind room (u.1 line)) us)

word_ends_no_line : (kind : TokenKind) → is_word kind ≡ true → is_line_end kind ≡ false
word_ends_no_line Word e = refl
word_ends_no_line Quoted e = absurd (cc)
word_ends_no_line Mark e = absurd (cc)
word_ends_no_line LineEnd e = absurd (cc)

no_empty_line : (ts : List Token) → starts_word ts ≡ true → after_empty_lines ts ≡ ts
unfolding after_empty_lines
no_empty_line [] e = absurd (cc)
no_empty_line (t ∷ ts) e = rw (word_ends_no_line t.kind e) refl

only_end : (line at : ℕ) → after_empty_lines (last_token line at ∷ []) ≡ []
unfolding after_empty_lines
only_end line at = refl

past_end : (line at : ℕ) (rest : List Token) → line_end_at (end_token line at ∷ rest) ≡ Ok rest
unfolding line_end_at ends_line
past_end line at rest = refl

not_zero : (n : ℕ) → eqb (suc n) 0 ≡ false
not_zero n = grind (arith, nat_tests)

some_tokens : (ts : List Token) → starts_word ts ≡ true → eqb (length ts) 0 ≡ false
some_tokens [] e = absurd (cc)
some_tokens (t ∷ ts) e = not_zero (length ts)

some_left : (line at : ℕ) (ls : List (List Piece)) → 0 < length (lines_tokens line at ls)
some_left line at [] = omega arith
some_left line at (l ∷ ls) = omega (arith, some_left (line + 1) (line_finish at l + 1) ls, length-append (line_tokens line at l ++ (end_token line (line_finish at l) ∷ [])) (lines_tokens (line + 1) (line_finish at l + 1) ls))

statement_line_back : (room : Room) (u : Printed) (line at : ℕ) (more : List (List Piece)) (r : Reads room u line at more)
    → statement_line_at room (lines_tokens line at (u.0 ++ more)) ≡ Ok (record { line = line; statement = u.1 line }, lines_tokens (line + length u.0) r.next more)
unfolding statement_line_at
statement_line_back room u line at more r =
    rw r.says (rw (past_end r.end_line r.end_place (lines_tokens (line + length u.0) r.next more)) (ap (λ (n : ℕ). Ok (record { line = n; statement = u.1 line }, lines_tokens (line + length u.0) r.next more)) r.begins))

pub statements_back : (n : ℕ) (room : Room) (us : List Printed) (line at : ℕ) → SaysAll room us → length (lines_tokens line at (lines_of us)) ≤ n → statements_at room n (lines_tokens line at (lines_of us)) ≡ Ok (printed_from line us)
unfolding statements_at
statements_back zero room us line at s fuel = absurd (omega (arith, some_left line at (lines_of us)))
statements_back (suc n) room [] line at s fuel = rw (only_end line at) refl
statements_back (suc n) room (u ∷ us) line at s fuel =
    let r : Reads room u line at (lines_of us) = s.0 line at (lines_of us) in
    let ts : List Token = lines_tokens line at (u.0 ++ lines_of us) in
    rw (no_empty_line ts r.starts)
    (rw (some_tokens ts r.starts)
    (rw (statement_line_back room u line at (lines_of us) r)
    (rw (statements_back n (room_behind room (u.1 line)) us (line + length u.0) r.next (s.1 line) (omega (arith, r.longer, fuel))) refl)))

-- the draft of the printed text
pub draft_back : (us : List Printed) → SaysAll all_room us → draft_of (lines_tokens 1 0 (lines_of us)) ≡ Ok (record { statements = printed_from 1 us })
unfolding draft_of
draft_back us s = rw (statements_back (length (lines_tokens 1 0 (lines_of us))) all_room us 1 0 s (omega arith)) refl
