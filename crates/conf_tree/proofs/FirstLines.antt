-- How the first line of a text begins, and what is left behind it.
use Rattle.std.proofs.Common.{◌≡◌, ◌∙◌, ◌≤◌, ◌<◌, ℕ, zero, suc, Bool, true, false, cond, List, [], ◌∷◌, ◌++◌, length, append_assoc, Ok, Err, refl, ap, sym, subst, arith}
use Rattle.std.specs.List.{All}
use Rattle.std.proofs.lemmas.List.Elements.{All-nil, All-cons}
use Rattle.net_base.specs.declared.conf.ConfFault.{ConfFault}
use Rattle.conf_tree.specs.declared.token.Token.{Token}
use Rattle.conf_tree.specs.Joined.{Seen}
use Rattle.conf_tree.specs.Kinds.{is_line_end}
use Rattle.conf_tree.specs.Cuts.{Rules, Cut, Line, first_cut, nothing_left, in_front_of, line_in, line_by, first_line}
use Rattle.conf_tree.proofs.Takes.{Takes, more_takes, first_takes, first_of_none}

-- A line doesn't depend on the bound on its tokens.
same_line_by : (rules : Rules) (n m k : ℕ) (cut : Cut) → Takes (suc k) cut → ((xs : List Seen) → length xs ≤ k → line_in rules n xs ≡ line_in rules m xs) → line_by (line_in rules n) cut ≡ line_by (line_in rules m) cut
same_line_by rules n m k (Err fault) t ih = refl
same_line_by rules n m k (Ok found) t ih =
    ap (λ (line : Line). cond (is_line_end found.0.kind) (record { tokens = []; end = Ok found }) (in_front_of (found.0 ∷ []) line)) (ih found.1 (omega (arith, t.0)))

line_none : (rules : Rules) (n : ℕ) → line_in rules n [] ≡ record { tokens = []; end = Err nothing_left }
unfolding line_in
line_none rules zero = refl
line_none rules (suc n) = ap (line_by (line_in rules n)) (first_of_none rules)

same_line : (rules : Rules) (k n m : ℕ) (xs : List Seen) → length xs ≤ k → k ≤ n → k ≤ m → line_in rules n xs ≡ line_in rules m xs
unfolding line_in
same_line rules zero n m [] h hn hm = line_none rules n ∙ sym (line_none rules m)
same_line rules zero n m (a ∷ xs) h hn hm = absurd (omega arith)
same_line rules (suc k) zero m xs h hn hm = absurd (omega arith)
same_line rules (suc k) (suc n) zero xs h hn hm = absurd (omega arith)
same_line rules (suc k) (suc n) (suc m) xs h hn hm =
    same_line_by rules n m k (first_cut rules xs) (more_takes (length xs) (suc k) (first_cut rules xs) h (first_takes rules xs)) (λ ys below. same_line rules k n m ys below (omega arith) (omega arith))

takes_of : (n : ℕ) (cut : Cut) (found : Token × List Seen) → cut ≡ Ok found → Takes n cut → Takes n (Ok found)
takes_of n cut found e t = subst (Takes n) e t

line_at : (rules : Rules) (xs : List Seen) (n : ℕ) → length xs ≡ suc n → first_line rules xs ≡ line_by (line_in rules n) (first_cut rules xs)
unfolding first_line line_in
line_at rules xs n e = ap (λ k. line_in rules k xs) e

-- a line that begins with a token
pub line_on : (rules : Rules) (xs : List Seen) (token : Token) (rest : List Seen) → first_cut rules xs ≡ Ok (token, rest) → is_line_end token.kind ≡ false → first_line rules xs ≡ in_front_of (token ∷ []) (first_line rules rest)
unfolding first_line
line_on rules [] token rest e k = absurd (let none = first_of_none rules in cc)
line_on rules (a ∷ xs) token rest e k =
    let takes = takes_of (suc (length xs)) (first_cut rules (a ∷ xs)) (token, rest) e (first_takes rules (a ∷ xs)) in
    line_at rules (a ∷ xs) (length xs) refl ∙ ap (line_by (line_in rules (length xs))) e
    ∙ ap (λ (b : Bool). cond b (record { tokens = []; end = Ok (token, rest) }) (in_front_of (token ∷ []) (line_in rules (length xs) rest))) k
    ∙ ap (in_front_of (token ∷ [])) (same_line rules (length rest) (length xs) (length rest) rest (omega arith) (omega (arith, takes.0)) (omega arith))

-- a line without tokens
pub line_ended : (rules : Rules) (xs : List Seen) (token : Token) (rest : List Seen) → first_cut rules xs ≡ Ok (token, rest) → is_line_end token.kind ≡ true → first_line rules xs ≡ record { tokens = []; end = Ok (token, rest) }
line_ended rules [] token rest e k = absurd (let none = first_of_none rules in cc)
line_ended rules (a ∷ xs) token rest e k =
    line_at rules (a ∷ xs) (length xs) refl ∙ ap (line_by (line_in rules (length xs))) e
    ∙ ap (λ (b : Bool). cond b (record { tokens = []; end = Ok (token, rest) }) (in_front_of (token ∷ []) (line_in rules (length xs) rest))) k

-- a line that begins with a fault
pub line_faulty : (rules : Rules) (xs : List Seen) (fault : ConfFault) → first_cut rules xs ≡ Err fault → first_line rules xs ≡ record { tokens = []; end = Err fault }
unfolding first_line
line_faulty rules [] fault e = line_none rules 0 ∙ ap (λ (cut : Cut). record { tokens = []; end = cut }) (sym (first_of_none rules) ∙ e)
line_faulty rules (a ∷ xs) fault e = line_at rules (a ∷ xs) (length xs) refl ∙ ap (line_by (line_in rules (length xs))) e

-- tokens in front of tokens
pub front_more : (tokens : List Token) (token : Token) (line : Line) → in_front_of (tokens ++ token ∷ []) line ≡ in_front_of tokens (in_front_of (token ∷ []) line)
front_more tokens token line = ap (λ (all : List Token). record { tokens = all; end = line.end }) (append_assoc tokens (token ∷ []) line.tokens)

end_takes_if : (k : ℕ) (b : Bool) (found : Token × List Seen) (line : Line) → Takes k (Ok found) → Takes k line.end → Takes k (cond b (record { tokens = []; end = Ok found }) (in_front_of (found.0 ∷ []) line)).end
end_takes_if k true found line t u = t
end_takes_if k false found line t u = u

-- The end of a line leaves less than the line began with.
end_takes_by : (rules : Rules) (n k : ℕ) (cut : Cut) → Takes k cut → ((xs : List Seen) → Takes (length xs) (line_in rules n xs).end) → Takes k (line_by (line_in rules n) cut).end
end_takes_by rules n k (Err fault) t ih = tt
end_takes_by rules n k (Ok found) t ih = end_takes_if k (is_line_end found.0.kind) found (line_in rules n found.1) t (more_takes (length found.1) k (line_in rules n found.1).end (omega (arith, t.0)) (ih found.1))

pub end_takes : (rules : Rules) (n : ℕ) (xs : List Seen) → Takes (length xs) (line_in rules n xs).end
unfolding line_in
end_takes rules zero xs = tt
end_takes rules (suc n) xs = end_takes_by rules n (length xs) (first_cut rules xs) (first_takes rules xs) (end_takes rules n)

pub line_takes : (rules : Rules) (xs : List Seen) → Takes (length xs) (first_line rules xs).end
unfolding first_line
line_takes rules xs = end_takes rules (length xs) xs

pub left_less : (rules : Rules) (xs : List Seen) (token : Token) (rest : List Seen) → first_cut rules xs ≡ Ok (token, rest) → length rest < length xs
left_less rules xs token rest e = (takes_of (length xs) (first_cut rules xs) (token, rest) e (first_takes rules xs)).0

short_if : (k : ℕ) (b : Bool) (found : Token × List Seen) (line : Line) → Takes k (Ok found) → All (λ token. length token.text ≤ k) line.tokens → All (λ token. length token.text ≤ k) (cond b (record { tokens = []; end = Ok found }) (in_front_of (found.0 ∷ []) line)).tokens
short_if k true found line t all = All-nil _
short_if k false found line t all =
    let here : length found.0.text ≤ k = omega (arith, t.1) in
    All-cons (λ token. length token.text ≤ k) found.0 line.tokens here all

short_by : (rules : Rules) (n k : ℕ) (cut : Cut) → Takes k cut → ((xs : List Seen) → length xs ≤ k → All (λ token. length token.text ≤ k) (line_in rules n xs).tokens) → All (λ token. length token.text ≤ k) (line_by (line_in rules n) cut).tokens
short_by rules n k (Err fault) t ih = All-nil _
short_by rules n k (Ok found) t ih = short_if k (is_line_end found.0.kind) found (line_in rules n found.1) t (ih found.1 (omega (arith, t.0)))

-- No token of a line has more bytes than there were.
short_in : (rules : Rules) (k n : ℕ) (xs : List Seen) → length xs ≤ k → All (λ token. length token.text ≤ k) (line_in rules n xs).tokens
unfolding line_in
short_in rules k zero xs h = All-nil _
short_in rules k (suc n) xs h = short_by rules n k (first_cut rules xs) (more_takes (length xs) k (first_cut rules xs) h (first_takes rules xs)) (short_in rules k n)

pub all_short : (rules : Rules) (k : ℕ) (xs : List Seen) → length xs ≤ k → All (λ token. length token.text ≤ k) (first_line rules xs).tokens
unfolding first_line
all_short rules k xs h = short_in rules k (length xs) xs h
