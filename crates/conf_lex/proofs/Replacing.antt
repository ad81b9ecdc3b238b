-- How the macros of a line are replaced, one token after the other.
use Rattle.std.proofs.Common.{◌≡◌, ◌∙◌, ◌+◌, ◌<◌, ℕ, suc, List, ◌∷◌, ◌++◌, length, drop, drop-cons, get_or, add-one, append_assoc, Result, Ok, Err, refl, ap, sym}
use Rattle.net_base.specs.declared.conf.ConfFault.{ConfFault}
use Rattle.net_base.specs.declared.conf.ConfError.{ConfError}
use Rattle.net_base.specs.declared.conf.ConfError.TheVariants.{Fault, NoMemory}
use Rattle.conf_tree.specs.declared.token.Token.{Token}
use Rattle.conf_tree.specs.Faults.{◌>>=◌}
use Rattle.conf_tree.specs.Macros.{Macros, Expanded, replaced, expanded}
use Rattle.conf_lex.specs.Gives.{Fails}
use Rattle.conf_lex.specs.Puts.{put_behind}

with_more : Expanded → Result Expanded ConfFault → Result Expanded ConfFault
with_more here more = more >>= (λ rest. Ok (record { tokens = here.tokens ++ rest.tokens; size = rest.size }))

more_behind : (old : List Token) (here : Expanded) (more : Result Expanded ConfFault) → put_behind old (more >>= (λ rest. Ok (record { tokens = here.tokens ++ rest.tokens; size = rest.size }))) ≡ put_behind (old ++ here.tokens) more
more_behind old here (Ok rest) = ap (λ (tokens : List Token). Ok (record { tokens = tokens; size = rest.size })) (sym (append_assoc old here.tokens rest.tokens))
more_behind old here (Err fault) = refl

step_by : (macros : Macros) (old : List Token) (new : Expanded) (tokens : List Token) (here : Result Expanded ConfFault) → put_behind old here ≡ Ok new → put_behind old (here >>= (λ h. expanded macros h.size tokens >>= (λ rest. Ok (record { tokens = h.tokens ++ rest.tokens; size = rest.size })))) ≡ put_behind new.tokens (expanded macros new.size tokens)
step_by macros old new tokens (Ok h) e =
    let there : record { tokens = old ++ h.tokens; size = h.size } ≡ new = cc in
    more_behind old h (expanded macros h.size tokens) ∙ ap (λ (n : Expanded). put_behind n.tokens (expanded macros n.size tokens)) there
step_by macros old new tokens (Err fault) e = absurd (cc)

-- the first token of a line
pub replaced_on : (macros : Macros) (whole : Result Expanded ConfFault) (old : List Token) (size : ℕ) (new : Expanded) (items : List Token) (token : Token) (tokens : List Token) → items ≡ token ∷ tokens → put_behind old (expanded macros size items) ≡ whole → put_behind old (replaced macros size token) ≡ Ok new → put_behind new.tokens (expanded macros new.size tokens) ≡ whole
replaced_on macros whole old size new items token tokens i so_far e =
    sym (step_by macros old new tokens (replaced macros size token) e) ∙ ap (λ (xs : List Token). put_behind old (expanded macros size xs)) (sym i) ∙ so_far

fault_by : (macros : Macros) (old : List Token) (tokens : List Token) (fault : ConfFault) (here : Result Expanded ConfFault) → here ≡ Err fault → put_behind old (here >>= (λ h. expanded macros h.size tokens >>= (λ rest. Ok (record { tokens = h.tokens ++ rest.tokens; size = rest.size })))) ≡ Err fault
fault_by macros old tokens fault (Ok h) e = absurd (cc)
fault_by macros old tokens fault (Err found) e = e

pub replaced_fails : (macros : Macros) (whole : Result Expanded ConfFault) (old : List Token) (size : ℕ) (items : List Token) (token : Token) (tokens : List Token) (error : ConfError) → items ≡ token ∷ tokens → put_behind old (expanded macros size items) ≡ whole → Fails error (replaced macros size token) → Fails error whole
replaced_fails macros whole old size items token tokens (Fault fault) i so_far e =
    sym so_far ∙ ap (λ (xs : List Token). put_behind old (expanded macros size xs)) i ∙ fault_by macros old tokens fault (replaced macros size token) e
replaced_fails macros whole old size items token tokens NoMemory i so_far e = tt

-- what is left of a list at an item
pub items_at : (items : List Token) (i : ℕ) (token : Token) → i < length items → token ≡ get_or items i token → drop i items ≡ token ∷ drop (i + 1) items
items_at items i token h e = rw (add-one) (drop-cons items i token h ∙ ap (λ (t : Token). t ∷ drop (suc i) items) (sym e))
