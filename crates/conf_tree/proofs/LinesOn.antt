-- The lines of a text follow one another, however many may come.
use Rattle.std.proofs.Common.{◌≡◌, ◌∙◌, ◌≤◌, ◌<◌, ℕ, zero, suc, List, [], ◌∷◌, ◌++◌, length, Option, Some, None, Result, Ok, Err, refl, ap, sym, subst, arith}
use Rattle.net_base.specs.declared.conf.ConfFault.{ConfFault}
use Rattle.conf_tree.specs.declared.token.Token.{Token}
use Rattle.conf_tree.specs.Joined.{Seen}
use Rattle.conf_tree.specs.Cuts.{Rules, Cut, first_line}
use Rattle.conf_tree.specs.Faults.{◌>>=◌}
use Rattle.conf_tree.specs.Macros.{Macros, Expanded, expanded, defined}
use Rattle.conf_tree.specs.Tokens.{LineRead, line_with, line_read, lines_in, lines_read}
use Rattle.conf_tree.proofs.Takes.{Takes}
use Rattle.conf_tree.proofs.FirstLines.{line_takes}

-- A line leaves less than it began with.
rest_of : (macros : Macros) (replaced : Expanded) (found : Token × List Seen) (definition : Option (List ℕ × List Token)) → (line_with macros replaced found definition).rest ≡ found.1
rest_of macros replaced found None = refl
rest_of macros replaced found (Some d) = refl

less_by : (macros : Macros) (tokens : List Token) (n : ℕ) (all : Result Expanded ConfFault) (end : Cut) (line : LineRead) → Takes n end → (all >>= (λ r. end >>= (λ f. Ok (line_with macros r f (defined tokens r.tokens))))) ≡ Ok line → length line.rest < n
less_by macros tokens n (Err fault) end line t e = absurd (cc)
less_by macros tokens n (Ok r) (Err fault) line t e = absurd (cc)
less_by macros tokens n (Ok r) (Ok found) line t e =
    let same : line_with macros r found (defined tokens r.tokens) ≡ line = cc in
    subst (λ (xs : List Seen). length xs < n) (sym (rest_of macros r found (defined tokens r.tokens)) ∙ ap (λ (l : LineRead). l.rest) same) t.0

pub rest_less : (rules : Rules) (macros : Macros) (size : ℕ) (xs : List Seen) (line : LineRead) → line_read rules macros size xs ≡ Ok line → length line.rest < length xs
unfolding line_read
rest_less rules macros size xs line e = less_by macros (first_line rules xs).tokens (length xs) (expanded macros size (first_line rules xs).tokens) (first_line rules xs).end line (line_takes rules xs) e

-- The lines don't depend on the bound on their number.
pub no_lines : (rules : Rules) (n : ℕ) (macros : Macros) (size : ℕ) → lines_in rules n macros size [] ≡ Ok []
unfolding lines_in
no_lines rules zero macros size = refl
no_lines rules (suc n) macros size = refl

same_by : (rules : Rules) (n m : ℕ) (read : Result LineRead ConfFault) → ((line : LineRead) → read ≡ Ok line → lines_in rules n line.macros line.size line.rest ≡ lines_in rules m line.macros line.size line.rest) → (read >>= (λ line. lines_in rules n line.macros line.size line.rest >>= (λ more. Ok (line.tokens ++ more)))) ≡ (read >>= (λ line. lines_in rules m line.macros line.size line.rest >>= (λ more. Ok (line.tokens ++ more))))
same_by rules n m (Err fault) ih = refl
same_by rules n m (Ok line) ih = ap (λ (all : Result (List Token) ConfFault). all >>= (λ more. Ok (line.tokens ++ more))) (ih line refl)

pub same_lines : (rules : Rules) (k n m : ℕ) (macros : Macros) (size : ℕ) (xs : List Seen) → length xs ≤ k → k ≤ n → k ≤ m → lines_in rules n macros size xs ≡ lines_in rules m macros size xs
unfolding lines_in
same_lines rules zero n m macros size [] h hn hm = no_lines rules n macros size ∙ sym (no_lines rules m macros size)
same_lines rules zero n m macros size (a ∷ xs) h hn hm = absurd (omega arith)
same_lines rules (suc k) zero m macros size xs h hn hm = absurd (omega arith)
same_lines rules (suc k) (suc n) zero macros size xs h hn hm = absurd (omega arith)
same_lines rules (suc k) (suc n) (suc m) macros size [] h hn hm = refl
same_lines rules (suc k) (suc n) (suc m) macros size (a ∷ xs) h hn hm =
    same_by rules n m (line_read rules macros size (a ∷ xs)) (λ line e. let less = rest_less rules macros size (a ∷ xs) line e in same_lines rules k n m line.macros line.size line.rest (omega (arith, less)) (omega arith) (omega arith))

-- The first line, and those behind it.
pub lines_on : (rules : Rules) (macros : Macros) (size : ℕ) (xs : List Seen) (line : LineRead) → (xs ≡ [] → ⊥) → line_read rules macros size xs ≡ Ok line → lines_read rules macros size xs ≡ (lines_read rules line.macros line.size line.rest >>= (λ more. Ok (line.tokens ++ more)))
unfolding lines_in
lines_on rules macros size [] line some e = absurd (some refl)
lines_on rules macros size (a ∷ xs) line some e =
    let less = rest_less rules macros size (a ∷ xs) line e in
    ap (λ (read : Result LineRead ConfFault). read >>= (λ l. lines_in rules (length xs) l.macros l.size l.rest >>= (λ more. Ok (l.tokens ++ more)))) e
    ∙ ap (λ (all : Result (List Token) ConfFault). all >>= (λ more. Ok (line.tokens ++ more))) (same_lines rules (length line.rest) (length xs) (length line.rest) line.macros line.size line.rest (omega arith) (omega (arith, less)) (omega arith))

pub lines_fault : (rules : Rules) (macros : Macros) (size : ℕ) (xs : List Seen) (fault : ConfFault) → (xs ≡ [] → ⊥) → line_read rules macros size xs ≡ Err fault → lines_read rules macros size xs ≡ Err fault
unfolding lines_in
lines_fault rules macros size [] fault some e = absurd (some refl)
lines_fault rules macros size (a ∷ xs) fault some e = ap (λ (read : Result LineRead ConfFault). read >>= (λ l. lines_in rules (length xs) l.macros l.size l.rest >>= (λ more. Ok (l.tokens ++ more)))) e
