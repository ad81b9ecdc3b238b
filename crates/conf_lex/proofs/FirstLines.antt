-- What was read of the first line of a text.
use Rattle.std.proofs.Common.{◌≡◌, ◌∙◌, true, false, List, [], ◌∷◌, ◌++◌, append-nil, Ok, Err, ap, sym}
use Rattle.net_base.specs.declared.conf.ConfFault.{ConfFault}
use Rattle.conf_tree.specs.declared.token.Token.{Token}
use Rattle.conf_tree.specs.Joined.{Seen}
use Rattle.conf_tree.specs.Kinds.{is_line_end}
use Rattle.conf_tree.specs.Cuts.{Rules, Line, first_cut, in_front_of, first_line}
use Rattle.conf_tree.proofs.FirstLines.{line_on, line_ended, line_faulty, front_more}
use Rattle.conf_lex.specs.Lines.{LineIs}

-- A line that was read up to a fault, or up to its end.
pub read_to_fault : (said : Line) (rules : Rules) (xs : List Seen) (tokens : List Token) (fault : ConfFault) (left : List Seen) → in_front_of tokens (first_line rules xs) ≡ said → first_cut rules xs ≡ Err fault → LineIs said (record { tokens = tokens; end = Err fault }) left
read_to_fault said rules xs tokens fault left so_far e =
    let whole : said ≡ in_front_of tokens (record { tokens = []; end = Err fault }) = sym so_far ∙ ap (in_front_of tokens) (line_faulty rules xs fault e) in
    record { same_tokens = ap (λ (line : Line). line.tokens) whole ∙ append-nil tokens; same_end = ap (λ (line : Line). line.end) whole }

pub read_to_end : (said : Line) (rules : Rules) (xs : List Seen) (tokens : List Token) (token : Token) (left : List Seen) → in_front_of tokens (first_line rules xs) ≡ said → first_cut rules xs ≡ Ok (token, left) → is_line_end token.kind ≡ true → LineIs said (record { tokens = tokens; end = Ok token }) left
read_to_end said rules xs tokens token left so_far e k =
    let whole : said ≡ in_front_of tokens (record { tokens = []; end = Ok (token, left) }) = sym so_far ∙ ap (in_front_of tokens) (line_ended rules xs token left e k) in
    record { same_tokens = ap (λ (line : Line). line.tokens) whole ∙ append-nil tokens; same_end = ap (λ (line : Line). line.end) whole }

pub read_on : (said : Line) (rules : Rules) (xs : List Seen) (tokens more : List Token) (token : Token) (left : List Seen) → in_front_of tokens (first_line rules xs) ≡ said → first_cut rules xs ≡ Ok (token, left) → is_line_end token.kind ≡ false → more ≡ tokens ++ token ∷ [] → in_front_of more (first_line rules left) ≡ said
read_on said rules xs tokens more token left so_far e k m =
    ap (λ (all : List Token). in_front_of all (first_line rules left)) m
    ∙ front_more tokens token (first_line rules left)
    ∙ ap (in_front_of tokens) (sym (line_on rules xs token left e k))
    ∙ so_far
