-- How the lines of a text are read one after the other.
use Rattle.std.proofs.Common.{◌≡◌, ◌∙◌, ◌<◌, ℕ, List, [], ◌++◌, length, append_assoc, append-nil, Result, Ok, Err, refl, ap, sym, subst}
use Rattle.net_base.specs.declared.conf.ConfFault.{ConfFault}
use Rattle.conf_tree.specs.declared.token.Token.{Token}
use Rattle.conf_tree.specs.Joined.{Seen}
use Rattle.conf_tree.specs.Cuts.{Rules, Cut, Line, first_line}
use Rattle.conf_tree.specs.Faults.{◌>>=◌}
use Rattle.conf_tree.specs.Macros.{Macros, Expanded, expanded, defined}
use Rattle.conf_tree.specs.Tokens.{LineRead, line_with, line_read_of, line_read, lines_read}
use Rattle.net_base.specs.declared.conf.ConfError.{ConfError}
use Rattle.net_base.specs.declared.conf.ConfError.TheVariants.{Fault, NoMemory}
use Rattle.conf_lex.specs.Gives.{Fails}
use Rattle.conf_lex.specs.Reading.{put_line, put_read, put_tokens}
use Rattle.conf_tree.proofs.LinesOn.{rest_less, no_lines, lines_on, lines_fault}

-- A line whose tokens, end and replacements are known.
line_of : (macros : Macros) (size : ℕ) (line : Line) (tokens : List Token) (found : Token × List Seen) (replaced : Expanded) → line.tokens ≡ tokens → line.end ≡ Ok found → expanded macros size tokens ≡ Ok replaced → line_read_of macros size line ≡ Ok (line_with macros replaced found (defined tokens replaced.tokens))
line_of macros size line tokens found replaced t e x =
    ap (λ (ts : List Token). expanded macros size ts >>= (λ r. line.end >>= (λ f. Ok (line_with macros r f (defined ts r.tokens))))) t
    ∙ ap (λ (end : Cut). expanded macros size tokens >>= (λ r. end >>= (λ f. Ok (line_with macros r f (defined tokens r.tokens))))) e
    ∙ ap (λ (all : Result Expanded ConfFault). all >>= (λ r. Ok (line_with macros r found (defined tokens r.tokens)))) x

pub line_reads : (rules : Rules) (macros : Macros) (size : ℕ) (xs : List Seen) (tokens : List Token) (end : Token) (left : List Seen) (replaced : Expanded) (old : List Token) (out : LineRead) → (first_line rules xs).tokens ≡ tokens → (first_line rules xs).end ≡ Ok (end, left) → expanded macros size tokens ≡ Ok replaced → put_line old (line_with macros replaced (end, left) (defined tokens replaced.tokens)) ≡ out → put_read old (line_read rules macros size xs) ≡ Ok out
unfolding line_read
line_reads rules macros size xs tokens end left replaced old out t e x o =
    ap (put_read old) (line_of macros size (first_line rules xs) tokens (end, left) replaced t e x) ∙ ap (λ (line : LineRead). Ok line) o

-- A line with a macro that can't be replaced, and one with another fault.
pub line_unreplaced : (rules : Rules) (macros : Macros) (size : ℕ) (xs : List Seen) (tokens : List Token) (fault : ConfFault) → (first_line rules xs).tokens ≡ tokens → expanded macros size tokens ≡ Err fault → line_read rules macros size xs ≡ Err fault
unfolding line_read
line_unreplaced rules macros size xs tokens fault t x =
    let line : Line = first_line rules xs in
    ap (λ (ts : List Token). expanded macros size ts >>= (λ r. line.end >>= (λ f. Ok (line_with macros r f (defined ts r.tokens))))) t
    ∙ ap (λ (all : Result Expanded ConfFault). all >>= (λ r. line.end >>= (λ f. Ok (line_with macros r f (defined tokens r.tokens))))) x

pub line_faulty : (rules : Rules) (macros : Macros) (size : ℕ) (xs : List Seen) (tokens : List Token) (replaced : Expanded) (fault : ConfFault) → (first_line rules xs).tokens ≡ tokens → (first_line rules xs).end ≡ Err fault → expanded macros size tokens ≡ Ok replaced → line_read rules macros size xs ≡ Err fault
unfolding line_read
line_faulty rules macros size xs tokens replaced fault t e x =
    let line : Line = first_line rules xs in
    ap (λ (ts : List Token). expanded macros size ts >>= (λ r. line.end >>= (λ f. Ok (line_with macros r f (defined ts r.tokens))))) t
    ∙ ap (λ (end : Cut). expanded macros size tokens >>= (λ r. end >>= (λ f. Ok (line_with macros r f (defined tokens r.tokens))))) e
    ∙ ap (λ (all : Result Expanded ConfFault). all >>= (λ r. Err fault)) x

put_more : (old here : List Token) (more : Result (List Token) ConfFault) → put_tokens old (more >>= (λ rest. Ok (here ++ rest))) ≡ put_tokens (old ++ here) more
put_more old here (Ok rest) = ap (λ (tokens : List Token). Ok tokens) (sym (append_assoc old here rest))
put_more old here (Err fault) = refl

step_by : (rules : Rules) (macros : Macros) (size : ℕ) (xs : List Seen) (old : List Token) (out : LineRead) (read : Result LineRead ConfFault) → (xs ≡ [] → ⊥) → line_read rules macros size xs ≡ read → put_read old read ≡ Ok out → (put_tokens out.tokens (lines_read rules out.macros out.size out.rest) ≡ put_tokens old (lines_read rules macros size xs)) × (length out.rest < length xs)
step_by rules macros size xs old out (Err fault) some e p = absurd (cc)
step_by rules macros size xs old out (Ok line) some e p =
    let same : put_line old line ≡ out = cc in (
      sym (ap (put_tokens old) (lines_on rules macros size xs line some e)
          ∙ put_more old line.tokens (lines_read rules line.macros line.size line.rest)
          ∙ ap (λ (o : LineRead). put_tokens o.tokens (lines_read rules o.macros o.size o.rest)) same),
      subst (λ (o : LineRead). length o.rest < length xs) same (rest_less rules macros size xs line e),
    )

-- a line more, with what is left of the text
pub line_more : (rules : Rules) (macros : Macros) (size : ℕ) (xs : List Seen) (old : List Token) (out : LineRead) → (xs ≡ [] → ⊥) → put_read old (line_read rules macros size xs) ≡ Ok out → (put_tokens out.tokens (lines_read rules out.macros out.size out.rest) ≡ put_tokens old (lines_read rules macros size xs)) × (length out.rest < length xs)
line_more rules macros size xs old out some p = step_by rules macros size xs old out (line_read rules macros size xs) some refl p

-- a fault in the first line
pub line_fails : (rules : Rules) (macros : Macros) (size : ℕ) (xs : List Seen) (old : List Token) (whole : Result (List Token) ConfFault) (error : ConfError) → (xs ≡ [] → ⊥) → put_tokens old (lines_read rules macros size xs) ≡ whole → Fails error (line_read rules macros size xs) → Fails error whole
line_fails rules macros size xs old whole (Fault fault) some so_far e = sym so_far ∙ ap (put_tokens old) (lines_fault rules macros size xs fault some e)
line_fails rules macros size xs old whole NoMemory some so_far e = tt

-- nothing is left
pub lines_end : (rules : Rules) (macros : Macros) (size : ℕ) (xs : List Seen) (old : List Token) (whole : Result (List Token) ConfFault) → xs ≡ [] → put_tokens old (lines_read rules macros size xs) ≡ whole → whole ≡ Ok old
lines_end rules macros size xs old whole none so_far =
    sym so_far ∙ ap (λ (left : List Seen). put_tokens old (lines_read rules macros size left)) none
    ∙ ap (put_tokens old) (no_lines rules 0 macros size)
    ∙ ap (λ (tokens : List Token). Ok tokens) (append-nil old)

-- the whole text is left
pub lines_begin : (whole : Result (List Token) ConfFault) → put_tokens [] whole ≡ whole
lines_begin (Ok tokens) = refl
lines_begin (Err fault) = refl

pub unreplaced_fails : (rules : Rules) (macros : Macros) (size : ℕ) (xs : List Seen) (tokens : List Token) (error : ConfError) → (first_line rules xs).tokens ≡ tokens → Fails error (expanded macros size tokens) → Fails error (line_read rules macros size xs)
unreplaced_fails rules macros size xs tokens (Fault fault) t e = line_unreplaced rules macros size xs tokens fault t e
unreplaced_fails rules macros size xs tokens NoMemory t e = tt
