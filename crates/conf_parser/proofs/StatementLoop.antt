-- Reading statements one after the other, as a loop does.
use Rattle.std.proofs.Common.{◌≡◌, ℕ, suc, ◌-◌, ◌+◌, ◌≤◌, ◌<◌, true, false, List, [], ◌∷◌, ◌++◌, length, Result, Ok, Err, refl, sym, ap, ◌∙◌, append_assoc, arith, ◌==◌}
use Rattle.std.proofs.lemmas.List.{append-nil}
use Rattle.net_base.specs.declared.conf.ConfFault.{ConfFault}
use Rattle.conf_tree.specs.declared.token.Token.{Token}
use Rattle.conf_tree.specs.declared.draft.StatementLine.{StatementLine}
use Rattle.conf_tree.specs.Faults.{◌>>=◌}
use Rattle.conf_tree.specs.StatementReading.{Room, room_behind, after_empty_lines, statement_line_at, statements_at}
use Rattle.conf_parser.specs.Fronts.{behind_statements}

-- the statements, or the fault, of a whole text
abbrev pub Statements : Type 0
Statements = Result (List StatementLine) ConfFault

regroup : (front : List StatementLine) (x : StatementLine) (read : Statements) → behind_statements front (read >>= λ others. Ok (x ∷ others)) ≡ behind_statements (front ++ x ∷ []) read
regroup front x (Ok others) = ap (λ (xs : List StatementLine). Ok xs) (simp append_assoc)
regroup front x (Err fault) = refl

pub closes : (front : List StatementLine) (room : Room) (count i : ℕ) (tokens : List Token) (total : Statements) → i < count
    → (length (after_empty_lines tokens) == 0) ≡ true
    → behind_statements front (statements_at room (count - i) tokens) ≡ total → total ≡ Ok front
unfolding statements_at
closes front room count i tokens total lt closed so_far =
    let k : count - i ≡ suc (count - (i + 1)) = omega arith in
    let one : behind_statements front (statements_at room (count - i) tokens) ≡ Ok front = rw (k, closed) (ap (λ (xs : List StatementLine). Ok xs) (append-nil front)) in
    sym so_far ∙ one

-- what a list that isn't empty gives
step : (front : List StatementLine) (room : Room) (count i : ℕ) (tokens : List Token) (x : StatementLine) (after : List Token) → i < count
    → (length (after_empty_lines tokens) == 0) ≡ false → statement_line_at room (after_empty_lines tokens) ≡ Ok (x, after)
    → behind_statements front (statements_at room (count - i) tokens) ≡ behind_statements (front ++ x ∷ []) (statements_at (room_behind room x.statement) (count - (i + 1)) after)
unfolding statements_at
step front room count i tokens x after lt some h =
    let k : count - i ≡ suc (count - (i + 1)) = omega arith in
    rw (k, some, h) (regroup front x (statements_at (room_behind room x.statement) (count - (i + 1)) after))

pub goes_on : (front : List StatementLine) (room : Room) (count i : ℕ) (tokens : List Token) (x : StatementLine) (after : List Token) (total : Statements) → i < count
    → (length (after_empty_lines tokens) == 0) ≡ false → statement_line_at room (after_empty_lines tokens) ≡ Ok (x, after)
    → behind_statements front (statements_at room (count - i) tokens) ≡ total
    → behind_statements (front ++ x ∷ []) (statements_at (room_behind room x.statement) (count - (i + 1)) after) ≡ total
goes_on front room count i tokens x after total lt some h so_far = sym (step front room count i tokens x after lt some h) ∙ so_far

pub ends : (front : List StatementLine) (room : Room) (count i : ℕ) (tokens : List Token) (fault : ConfFault) (total : Statements) → i < count
    → (length (after_empty_lines tokens) == 0) ≡ false → statement_line_at room (after_empty_lines tokens) ≡ Err fault
    → behind_statements front (statements_at room (count - i) tokens) ≡ total → total ≡ Err fault
unfolding statements_at
ends front room count i tokens fault total lt some h so_far =
    let k : count - i ≡ suc (count - (i + 1)) = omega arith in
    let one : behind_statements front (statements_at room (count - i) tokens) ≡ Err fault = rw (k, some, h) refl in
    sym so_far ∙ one

pub is_done : (front : List StatementLine) (room : Room) (count i : ℕ) (tokens : List Token) (total : Statements) → count ≤ i
    → behind_statements front (statements_at room (count - i) tokens) ≡ total → total ≡ Ok front
unfolding statements_at
is_done front room count i tokens total le so_far =
    let k : count - i ≡ 0 = omega arith in
    let one : behind_statements front (statements_at room (count - i) tokens) ≡ Ok front = rw k (ap (λ (xs : List StatementLine). Ok xs) (append-nil front)) in
    sym so_far ∙ one
