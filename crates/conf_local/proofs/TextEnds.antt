-- The tokens of a text: the last one ends the text, and no other does.
use Rattle.std.proofs.Common.{◌≡◌, ◌⊎◌, inl, inr, ℕ, zero, suc, ◌+◌, ◌-◌, ◌≤◌, Bool, true, false, cond, ◌&&◌, eqb, List, [], ◌∷◌, ◌++◌, append_assoc, length, take, drop, map, bytes_eq, Option, Some, None, Result, Ok, Err, refl, ap, sym, subst, arith}
use Rattle.std.specs.Prelude.{nat_le, nat_lt, is_none, option_and_then, option_map}
use Rattle.std.specs.List.{list_all}
use Rattle.std.specs.Option.{option_map_or}
use Rattle.std.proofs.lemmas.Bool.Decides.{nat_tests}
use Rattle.net_base.specs.declared.conf.ConfFault.{ConfFault}
use Rattle.net_base.specs.declared.conf.ConfKind.TheVariants.{TooLong, UnknownMacro}
use Rattle.conf_tree.specs.declared.token.Token.{Token}
use Rattle.conf_tree.specs.declared.token.TokenKind.TheVariants.{Word}
use Rattle.conf_tree.specs.Joined.{Seen, is_lf, joined, joined_from, joins, line_behind, unless_gone}
use Rattle.conf_tree.specs.Kinds.{is_word, is_quoted, is_line_end}
use Rattle.conf_tree.specs.Cuts.{Rules, Cut, Line, byte_is, front_is, is_equals, is_compare, is_mark, is_quote, is_hash, is_word_byte, mark_size, in_blanks, in_comment, in_word, in_quotes, run, behind, token_of, fault_at, text_end, closed_by, closed, quoted_cut, mark_cut, end_in_front, word_cut, cut_by, cut_at, behind_comment, behind_blanks, first_cut_at, first_cut, in_front_of, line_by, line_in, first_line, plain_rules, rules_of, split}
use Rattle.conf_tree.specs.Faults.{◌>>=◌}
use Rattle.conf_tree.specs.Macros.{Macros, no_macros, with_macro, followed, Expanded, most_replaced, text_size, moved, given, given_for, asked, unchanged, replaced, expanded, quoted_value, value_of, begins_definition, defined}
use Rattle.conf_tree.specs.Tokens.{LineRead, line_with, line_read, lines_in, tokens}
use Rattle.conf_tree.specs.Readable.{Each, IfThere}
use Rattle.conf_tree.proofs.Each.{each_append}
use Rattle.conf_tree.proofs.LinesOn.{rest_less, no_lines}
use Rattle.conf_local.specs.Texts.{ends_text, IsText}

-- ---- the end of the joined bytes

abbrev HasEnd : List Seen → Type 0
HasEnd [] = ⊥
HasEnd (seen ∷ rest) = ((seen.byte ≡ None) × (rest ≡ [])) ⊎ ((is_none seen.byte ≡ false) × HasEnd rest)

joined_end : (gone : Bool) (line place : ℕ) (text : List ℕ) → HasEnd (joined_from gone line place text)
unfolding joined_from
joined_end gone line place [] = inl (refl, refl)
joined_end gone line place (b ∷ text) = by _ (joined_end (joins b text) (line_behind line b) (place + 1) text)
  where
    by : (g : Bool) → HasEnd (joined_from (joins b text) (line_behind line b) (place + 1) text) → HasEnd (unless_gone g (record { byte = Some b; line = line; place = place }) (joined_from (joins b text) (line_behind line b) (place + 1) text))
    by true h = h
    by false h = inr (refl, h)

-- a test that the end doesn't pass
abbrev StopsAtEnd : (List Seen → Bool) → Type 0
StopsAtEnd p = (seen : Seen) (rest : List Seen) → seen.byte ≡ None → p (seen ∷ rest) ≡ false

behind_end : (p : List Seen → Bool) → StopsAtEnd p → (xs : List Seen) → HasEnd xs → HasEnd (behind p xs)
unfolding behind
behind_end p stops [] h = h
behind_end p stops (seen ∷ rest) (inl last) = subst HasEnd (sym (ap (λ (b : Bool). cond b (behind p rest) (seen ∷ rest)) (stops seen rest last.0))) (inl last)
behind_end p stops (seen ∷ rest) (inr on) = by (p (seen ∷ rest)) (behind_end p stops rest on.1)
  where
    by : (b : Bool) → HasEnd (behind p rest) → HasEnd (cond b (behind p rest) (seen ∷ rest))
    by true k = k
    by false k = inr on

some_rest : (seen : Seen) (rest : List Seen) (b : ℕ) → seen.byte ≡ Some b → HasEnd (seen ∷ rest) → HasEnd rest
some_rest seen rest b e (inl last) = absurd (let f = last.0 in cc)
some_rest seen rest b e (inr on) = on.1

front_rest : (test : ℕ → Bool) (xs : List Seen) → HasEnd xs → front_is test xs ≡ true → HasEnd (drop 1 xs)
front_rest test [] h e = absurd h
front_rest test (seen ∷ rest) (inl last) e = absurd (let f : front_is test (seen ∷ rest) ≡ false = rw last.0 refl in cc)
front_rest test (seen ∷ rest) (inr on) e = on.1

-- ---- a token and what stands behind it

-- the line goes on; or it ends, and the text goes on or ends
abbrev EndsLine : Token × List Seen → Type 0
EndsLine found = ((ends_text found.0 ≡ false) × HasEnd found.1) ⊎ ((ends_text found.0 ≡ true) × (found.1 ≡ []))

abbrev GoesOn : Token × List Seen → Type 0
GoesOn found = ((is_line_end found.0.kind ≡ false) × HasEnd found.1) ⊎ ((is_line_end found.0.kind ≡ true) × EndsLine found)

abbrev CutIn : (Token × List Seen → Type 0) → Cut → Type 0
CutIn Is (Ok found) = Is found
CutIn Is (Err fault) = Unit {0}

either : (b : Bool) (x y : Cut) → (b ≡ true → CutIn GoesOn x) → (b ≡ false → CutIn GoesOn y) → CutIn GoesOn (cond b x y)
either true x y h k = h refl
either false x y h k = k refl

place_ends : (n : ℕ) → eqb n n ≡ true
place_ends n = grind (arith, nat_tests)

place_goes_on : (n : ℕ) → eqb n (n + 1) ≡ false
place_goes_on n = grind (arith, nat_tests)

module _ (rules : Rules) where
  end_goes : (seen : Seen) (rest : List Seen) → seen.byte ≡ None → HasEnd (seen ∷ rest) → CutIn GoesOn (text_end rules seen rest)
  end_goes seen rest e (inl last) = either rules.cut _ _ (λ _. tt) (λ _. inr (refl, inr (place_ends seen.place, last.1)))
  end_goes seen rest e (inr on) = absurd (let f : is_none seen.byte ≡ true = rw e refl in let g = on.0 in cc)

  closed_goes : (opening : Seen) (text : List ℕ) (xs : List Seen) → HasEnd xs → CutIn GoesOn (closed rules opening text xs)
  closed_goes opening text [] h = tt
  closed_goes opening text (seen ∷ rest) h = by seen.byte refl
    where
      by : (byte : Option ℕ) → seen.byte ≡ byte → CutIn GoesOn (closed_by rules opening text seen rest byte)
      by None e = tt
      by (Some b) e = either (is_quote b) _ _ (λ _. inl (refl, some_rest seen rest b e h)) (λ _. either (is_lf b) _ _ (λ _. tt) (λ _. tt))

  quoted_goes : (opening : Seen) (rest : List Seen) → HasEnd rest → CutIn GoesOn (quoted_cut rules opening rest)
  unfolding quoted_cut
  quoted_goes opening rest h = closed_goes opening _ (behind (in_quotes rules) rest) (behind_end (in_quotes rules) (λ seen rest e. rw e refl) rest h)

  mark_goes : (seen : Seen) (rest : List Seen) → HasEnd rest → CutIn GoesOn (mark_cut (mark_size (seen ∷ rest)) seen rest)
  unfolding mark_cut
  mark_goes seen rest h = inl (refl, by (byte_is is_mark seen) (byte_is is_compare seen && front_is is_equals rest) refl)
    where
      two : (a b : Bool) → (a && b) ≡ true → b ≡ true
      two true b e = e
      two false b e = absurd (cc)

      by : (m k : Bool) → (byte_is is_compare seen && front_is is_equals rest) ≡ k → HasEnd (drop (cond m 1 (cond k 2 0) - 1) rest)
      by true k e = h
      by false true e = front_rest is_equals rest h (two (byte_is is_compare seen) (front_is is_equals rest) e)
      by false false e = h

  word_goes : (seen : Seen) (rest : List Seen) → HasEnd rest → CutIn GoesOn (word_cut rules seen rest)
  unfolding word_cut
  word_goes seen rest h = by rules.cut (end_in_front (behind (in_word rules) rest))
    where
      left : HasEnd (behind (in_word rules) rest)
      left = behind_end (in_word rules) (λ seen rest e. rw e refl) rest h

      by : (c : Bool) (end : Option Seen)
          → CutIn GoesOn (cond c (option_map_or (λ end. Err (fault_at end TooLong)) end (Ok (token_of Word seen (run (in_word rules) rest), behind (in_word rules) rest))) (Ok (token_of Word seen (run (in_word rules) rest), behind (in_word rules) rest)))
      by true None = inl (refl, left)
      by true (Some end) = tt
      by false end = inl (refl, left)

  cut_goes : (seen : Seen) (rest : List Seen) → HasEnd (seen ∷ rest) → CutIn GoesOn (cut_at rules seen rest)
  unfolding cut_at
  cut_goes seen rest h = by seen.byte refl
    where
      by : (byte : Option ℕ) → seen.byte ≡ byte → CutIn GoesOn (cut_by rules seen rest byte)
      by None e = end_goes seen rest e h
      by (Some b) e =
          let left : HasEnd rest = some_rest seen rest b e h in
          either (is_lf b) _ _ (λ _. inr (refl, inl (place_goes_on seen.place, left)))
          (λ _. either (is_quote b) _ _ (λ _. quoted_goes seen rest left)
          (λ _. either (nat_lt 0 (mark_size (seen ∷ rest))) _ _ (λ _. mark_goes seen rest left)
          (λ _. either (is_word_byte rules b) _ _ (λ _. word_goes seen rest left) (λ _. tt))))

  comment_end : (xs : List Seen) → HasEnd xs → HasEnd (behind_comment rules xs)
  comment_end xs h = by (front_is is_hash xs)
    where
      by : (b : Bool) → HasEnd (cond b (behind (in_comment rules) xs) xs)
      by true = behind_end (in_comment rules) (λ seen rest e. rw e refl) xs h
      by false = h

  first_at_goes : (xs : List Seen) → HasEnd xs → CutIn GoesOn (first_cut_at rules xs)
  first_at_goes [] h = tt
  first_at_goes (seen ∷ rest) h = cut_goes seen rest h

  first_goes : (xs : List Seen) → HasEnd xs → CutIn GoesOn (first_cut rules xs)
  unfolding first_cut behind_blanks
  first_goes xs h = first_at_goes (behind_comment rules (behind in_blanks xs)) (comment_end (behind in_blanks xs) (behind_end in_blanks (λ seen rest e. rw e refl) xs h))

-- ---- a line

abbrev IsInLine : Token → Type 0
IsInLine token = is_line_end token.kind ≡ false

abbrev AreInLine : List Token → Type 0
AreInLine tokens = Each IsInLine tokens

-- the tokens of a line, and what stands behind its end
record IsWhole (line : Line) : Type 0 where
  tokens : AreInLine line.tokens
  end : CutIn EndsLine line.end

module _ (rules : Rules) where
  line_by_whole : (line : List Seen → Line) → ((xs : List Seen) → HasEnd xs → IsWhole (line xs)) → (cut : Cut) → CutIn GoesOn cut → IsWhole (line_by line cut)
  line_by_whole line whole (Err fault) c = record { tokens = tt; end = tt }
  line_by_whole line whole (Ok found) (inl on) =
      let inner : IsWhole (line found.1) = whole found.1 on.1 in
      subst (λ (b : Bool). IsWhole (cond b (record { tokens = []; end = Ok found }) (in_front_of (found.0 ∷ []) (line found.1)))) (sym on.0) (record { tokens = (on.0, inner.tokens); end = inner.end })
  line_by_whole line whole (Ok found) (inr over) =
      subst (λ (b : Bool). IsWhole (cond b (record { tokens = []; end = Ok found }) (in_front_of (found.0 ∷ []) (line found.1)))) (sym over.0) (record { tokens = tt; end = over.1 })

  line_in_whole : (n : ℕ) (xs : List Seen) → HasEnd xs → IsWhole (line_in rules n xs)
  unfolding line_in
  line_in_whole zero xs h = record { tokens = tt; end = tt }
  line_in_whole (suc n) xs h = line_by_whole (line_in rules n) (line_in_whole n) (first_cut rules xs) (first_goes rules xs h)

  first_line_whole : (xs : List Seen) → HasEnd xs → IsWhole (first_line rules xs)
  unfolding first_line
  first_line_whole xs h = line_in_whole (length xs) xs h

split_in_line : (text : List ℕ) → AreInLine (split text)
unfolding split
split_in_line text = (first_line_whole plain_rules (joined text) (joined_end false 1 0 text)).tokens

-- ---- macros

abbrev AreInLines : Macros → Type 0
AreInLines macros = (name : List ℕ) → IfThere AreInLine (macros name)

abbrev Gives : {A : Type 0} → (A → Type 0) → Result A ConfFault → Type 0
Gives Is (Ok x) = Is x
Gives Is (Err fault) = Unit {0}

abbrev IsExpanded : Expanded → Type 0
IsExpanded e = AreInLine e.tokens

moved_in_line : (word : Token) (found : List Token) → AreInLine found → AreInLine (map (moved word) found)
moved_in_line word [] g = tt
moved_in_line word (token ∷ found) g = (g.0, moved_in_line word found g.1)

given_in_line : (word : Token) (size : ℕ) (found : List Token) → AreInLine found → Gives IsExpanded (given word size found)
given_in_line word size found g = by (nat_le (size + text_size found) most_replaced)
  where
    by : (b : Bool) → Gives IsExpanded (cond b (Ok (record { tokens = map (moved word) found; size = size + text_size found })) (Err (record { line = word.line; kind = TooLong })))
    by true = moved_in_line word found g
    by false = tt

followed_in_line : (value : List Token) (more : List ℕ) → AreInLine value → IfThere AreInLine (followed value more)
followed_in_line value [] g = g
followed_in_line [] (b ∷ more) g = tt
followed_in_line (token ∷ []) (b ∷ more) g = (refl, tt)
followed_in_line (token ∷ another ∷ others) (b ∷ more) g = tt

given_for_in_line : (macros : Macros) (size : ℕ) (word : Token) (asking : List ℕ × List ℕ) → AreInLines macros → Gives IsExpanded (given_for macros size word asking)
given_for_in_line macros size word asking h = by (macros asking.0) (h asking.0)
  where
    last : (value : Option (List Token)) → IfThere AreInLine value → Gives IsExpanded (option_map_or (given word size) value (Err (record { line = word.line; kind = UnknownMacro })))
    last None g = tt
    last (Some value) g = given_in_line word size value g

    by : (value : Option (List Token)) → IfThere AreInLine value → Gives IsExpanded (option_map_or (given word size) (option_and_then (λ value. followed value asking.1) value) (Err (record { line = word.line; kind = UnknownMacro })))
    by None g = tt
    by (Some value) g = last (followed value asking.1) (followed_in_line value asking.1 g)

replaced_in_line : (macros : Macros) (size : ℕ) (token : Token) → AreInLines macros → IsInLine token → Gives IsExpanded (replaced macros size token)
unfolding replaced
replaced_in_line macros size token h g = by (is_word token.kind) (asking (asked token.text))
  where
    asking : (name : Option (List ℕ × List ℕ)) → Gives IsExpanded (option_map_or (given_for macros size token) name (Ok (unchanged size token)))
    asking None = (g, tt)
    asking (Some name) = given_for_in_line macros size token name h

    by : (b : Bool) → Gives IsExpanded (option_map_or (given_for macros size token) (asked token.text) (Ok (unchanged size token)))
        → Gives IsExpanded (cond b (option_map_or (given_for macros size token) (asked token.text) (Ok (unchanged size token))) (Ok (unchanged size token)))
    by true k = k
    by false k = (g, tt)

expanded_in_line : (macros : Macros) (size : ℕ) (found : List Token) → AreInLines macros → AreInLine found → Gives IsExpanded (expanded macros size found)
expanded_in_line macros size [] h g = tt
expanded_in_line macros size (token ∷ found) h g = then (replaced macros size token) (replaced_in_line macros size token h g.0) (λ size. expanded_in_line macros size found h g.1)
  where
    both : (here : Expanded) (r : Result Expanded ConfFault) → AreInLine here.tokens → Gives IsExpanded r → Gives IsExpanded (r >>= λ more. Ok (record { tokens = here.tokens ++ more.tokens; size = more.size }))
    both here (Ok more) g k = each_append IsInLine here.tokens more.tokens g k
    both here (Err fault) g k = tt

    then : (r : Result Expanded ConfFault) → Gives IsExpanded r → ((size : ℕ) → Gives IsExpanded (expanded macros size found))
        → Gives IsExpanded (r >>= λ here. expanded macros here.size found >>= λ more. Ok (record { tokens = here.tokens ++ more.tokens; size = more.size }))
    then (Ok here) g k = both here (expanded macros here.size found) g (k here.size)
    then (Err fault) g k = tt

quoted_value_in_line : (found : List Token) → IfThere AreInLine (quoted_value found)
quoted_value_in_line [] = tt
quoted_value_in_line (token ∷ []) = by (is_quoted token.kind)
  where
    by : (b : Bool) → IfThere AreInLine (cond b (Some (split token.text)) None)
    by true = split_in_line token.text
    by false = tt
quoted_value_in_line (token ∷ another ∷ others) = tt

value_in_line : (found instead : List Token) → AreInLine instead → IfThere AreInLine (value_of found instead)
value_in_line found instead k = by (list_all (λ token. is_word token.kind) found)
  where
    by : (b : Bool) → IfThere AreInLine (cond b (Some instead) (quoted_value found))
    by true = k
    by false = quoted_value_in_line found

drop_in_line : (n : ℕ) (found : List Token) → AreInLine found → AreInLine (drop n found)
drop_in_line zero found h = h
drop_in_line (suc n) [] h = tt
drop_in_line (suc n) (token ∷ found) h = drop_in_line n found h.1

abbrev IsDefinition : List ℕ × List Token → Type 0
IsDefinition definition = AreInLine definition.1

defined_in_line : (found instead : List Token) → AreInLine instead → IfThere IsDefinition (defined found instead)
defined_in_line [] instead k = tt
defined_in_line (name ∷ []) instead k = tt
defined_in_line (name ∷ equals ∷ value) instead k = by (begins_definition name equals) (value_of value (drop 2 instead)) (value_in_line value (drop 2 instead) (drop_in_line 2 instead k))
  where
    by : (b : Bool) (o : Option (List Token)) → IfThere AreInLine o → IfThere IsDefinition (cond b (option_map (λ found. (name.text, found)) o) None)
    by true None h = tt
    by true (Some found) h = h
    by false o h = tt

with_macro_in_line : (macros : Macros) (name : List ℕ) (value : List Token) → AreInLines macros → AreInLine value → AreInLines (with_macro macros name value)
with_macro_in_line macros name value h g other = by (bytes_eq name other)
  where
    by : (b : Bool) → IfThere AreInLine (cond b (Some value) (macros other))
    by true = g
    by false = h other

-- ---- lines

-- the tokens of a line, its end among them, and what stands behind it
record IsRead (line : LineRead) : Type 0 where
  front : List Token
  end : Token
  tokens : line.tokens ≡ front ++ (end ∷ [])
  in_line : AreInLine front
  macros : AreInLines line.macros
  rest : EndsLine (end, line.rest)

line_with_read : (macros : Macros) (e : Expanded) (end : Token × List Seen) (definition : Option (List ℕ × List Token)) → AreInLines macros → AreInLine e.tokens → EndsLine end → IfThere IsDefinition definition → IsRead (line_with macros e end definition)
line_with_read macros e end None h g s d = record { front = e.tokens; end = end.0; tokens = refl; in_line = g; macros = h; rest = s }
line_with_read macros e end (Some definition) h g s d = record { front = []; end = end.0; tokens = refl; in_line = tt; macros = with_macro_in_line macros definition.0 definition.1 h d; rest = s }

line_read_whole : (rules : Rules) (macros : Macros) (size : ℕ) (xs : List Seen) → AreInLines macros → HasEnd xs → Gives IsRead (line_read rules macros size xs)
unfolding line_read
line_read_whole rules macros size xs h k = by (expanded macros size line.tokens) (expanded_in_line macros size line.tokens h whole.tokens)
  where
    line : Line
    line = first_line rules xs

    whole : IsWhole (first_line rules xs)
    whole = first_line_whole rules xs k

    ended : (e : Expanded) → AreInLine e.tokens → (end : Cut) → CutIn EndsLine end → Gives IsRead (end >>= λ end. Ok (line_with macros e end (defined (first_line rules xs).tokens e.tokens)))
    ended e g (Ok end) c = line_with_read macros e end (defined (first_line rules xs).tokens e.tokens) h g c (defined_in_line (first_line rules xs).tokens e.tokens g)
    ended e g (Err fault) c = tt

    by : (r : Result Expanded ConfFault) → Gives IsExpanded r → Gives IsRead (r >>= λ replaced. (first_line rules xs).end >>= λ end. Ok (line_with macros replaced end (defined (first_line rules xs).tokens replaced.tokens)))
    by (Ok e) g = ended e g (first_line rules xs).end whole.end
    by (Err fault) g = tt

-- tokens that go on with a text are one
text_of : (front : List Token) (t : List Token) → AreInLine front → IsText t → IsText (front ++ t)
text_of [] t g h = h
text_of (z ∷ front) t g h = inr (rw g.0 refl, text_of front t g.1 h)

text_with_end : (front : List Token) (end : Token) (more : List Token) → AreInLine front → ((ends_text end ≡ false) × IsText more) ⊎ ((ends_text end ≡ true) × (more ≡ [])) → IsText ((front ++ (end ∷ [])) ++ more)
text_with_end front end more g e = subst IsText (sym (append_assoc front (end ∷ []) more)) (text_of front (end ∷ more) g (by e))
  where
    by : ((ends_text end ≡ false) × IsText more) ⊎ ((ends_text end ≡ true) × (more ≡ [])) → IsText (end ∷ more)
    by (inl on) = inr on
    by (inr last) = inl last

abbrev AreText : Result (List Token) ConfFault → Type 0
AreText (Ok found) = IsText found
AreText (Err fault) = Unit {0}

abbrev LinesAreText : Rules → ℕ → Type 0
LinesAreText rules n = (macros : Macros) (size : ℕ) (xs : List Seen) → length xs ≤ n → AreInLines macros → HasEnd xs → AreText (lines_in rules n macros size xs)

lines_text : (rules : Rules) (n : ℕ) → LinesAreText rules n
unfolding lines_in
lines_text rules zero macros size [] short h k = absurd k
lines_text rules zero macros size (seen ∷ xs) short h k = absurd (omega arith)
lines_text rules (suc n) macros size [] short h k = absurd k
lines_text rules (suc n) macros size (seen ∷ xs) short h k = by (line_read rules macros size (seen ∷ xs)) refl (line_read_whole rules macros size (seen ∷ xs) h k) (lines_text rules n)
  where
    more : (line : LineRead) (p : IsRead line) (r : Result (List Token) ConfFault) → ((found : List Token) → r ≡ Ok found → ((ends_text p.end ≡ false) × IsText found) ⊎ ((ends_text p.end ≡ true) × (found ≡ []))) → AreText (r >>= λ more. Ok (line.tokens ++ more))
    more line p (Ok found) e = subst (λ (front : List Token). IsText (front ++ found)) (sym p.tokens) (text_with_end p.front p.end found p.in_line (e found refl))
    more line p (Err fault) e = tt

    by : (r : Result LineRead ConfFault) → line_read rules macros size (seen ∷ xs) ≡ r → Gives IsRead r → LinesAreText rules n → AreText (r >>= λ line. lines_in rules n line.macros line.size line.rest >>= λ more. Ok (line.tokens ++ more))
    by (Err fault) e p others = tt
    by (Ok line) e p others = more line p (lines_in rules n line.macros line.size line.rest) (λ found f. ended p.rest found f)
      where
        ended : EndsLine (p.end, line.rest) → (found : List Token) → lines_in rules n line.macros line.size line.rest ≡ Ok found → ((ends_text p.end ≡ false) × IsText found) ⊎ ((ends_text p.end ≡ true) × (found ≡ []))
        ended (inl on) found f = inl (on.0, subst AreText f (others line.macros line.size line.rest (omega (arith, short, rest_less rules macros size (seen ∷ xs) line e)) p.macros on.1))
        ended (inr last) found f = inr (last.0, let none : lines_in rules n line.macros line.size [] ≡ Ok found = subst (λ (rest : List Seen). lines_in rules n line.macros line.size rest ≡ Ok found) last.1 f in let nothing = no_lines rules n line.macros line.size in let s : found ≡ [] = cc in s)

pub tokens_are_text : (limit : ℕ) (text : List ℕ) (found : List Token) → tokens limit text ≡ Ok found → IsText found
unfolding tokens
tokens_are_text limit text found e =
    subst AreText e (lines_text (rules_of limit text) (length (joined (take limit text))) no_macros 0 (joined (take limit text)) (omega arith) (λ name. tt) (joined_end false 1 0 (take limit text)))
