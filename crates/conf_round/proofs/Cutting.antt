-- The first token of a line of a canonical text.
use Rattle.std.proofs.Common.{◌≡◌, ◌∙◌, ℕ, ◌+◌, ◌<◌, ◌≤◌, Bool, true, false, eqb, List, [], ◌∷◌, ◌++◌, length, Ok, refl, ap, arith}
use Rattle.std.proofs.lemmas.Bool.Decides.{nat_tests}
use Rattle.conf_tree.specs.declared.token.Token.{Token}
use Rattle.conf_tree.specs.declared.token.TokenKind.TheVariants.{Word, Quoted, Mark, LineEnd}
use Rattle.conf_tree.specs.Joined.{Seen, is_lf}
use Rattle.conf_tree.specs.Cuts.{Rules, is_blank, is_hash, is_quote, is_mark, in_blanks, in_word, in_quotes, run, behind, bytes_of, end_of, token_at, first_cut, first_cut_at, behind_blanks, behind_comment, cut_at, word_cut, token_of, quoted_cut, closed, mark_cut}
use Rattle.conf_tree.proofs.Runs.{run_on, run_off, behind_on, behind_off}
use Rattle.conf_round.proofs.Plain.{IsPlain, ArePlain}
use Rattle.conf_round.proofs.Spread.{at, spread}

-- the rules of a text within its limit, of which the bytes before a place are good
abbrev pub rules_at : ℕ → Rules
rules_at bad = record { strict = true; bad = bad; cut = false }

-- ---- what tokens are made of

pub end_spread : (line place : ℕ) (text : List ℕ) → end_of place (spread line place text) ≡ place + length text
end_spread line place [] = omega arith
end_spread line place (b ∷ text) = end_spread line (place + 1) text ∙ omega arith

pub bytes_spread : (line place : ℕ) (text : List ℕ) → bytes_of (spread line place text) ≡ text
bytes_spread line place [] = refl
bytes_spread line place (b ∷ text) = ap (λ (l : List ℕ). b ∷ l) (bytes_spread line (place + 1) text)

-- ---- blanks

abbrev pub AreBlank : List ℕ → Type 0
AreBlank [] = Unit {0}
AreBlank (b ∷ text) = (is_blank b ≡ true) × AreBlank text

blanks_away : (line place : ℕ) (gap : List ℕ) (rest : List Seen) → AreBlank gap → in_blanks rest ≡ false → behind in_blanks (spread line place gap ++ rest) ≡ rest
blanks_away line place [] rest p e = behind_off in_blanks rest e
blanks_away line place (b ∷ gap) rest p e =
    behind_on in_blanks (at line place b ∷ (spread line (place + 1) gap ++ rest)) (at line place b) (spread line (place + 1) gap ++ rest) refl p.0 ∙ blanks_away line (place + 1) gap rest p.1 e

-- the first token begins behind the blanks, with a byte that begins no comment
behind_gap : (bad line place p b : ℕ) (gap : List ℕ) (rest : List Seen) → AreBlank gap → is_blank b ≡ false → is_hash b ≡ false
    → first_cut (rules_at bad) (spread line place gap ++ (at line p b ∷ rest)) ≡ cut_at (rules_at bad) (at line p b) rest
unfolding first_cut behind_blanks
behind_gap bad line place p b gap rest g blank hash =
    ap (λ (xs : List Seen). first_cut_at (rules_at bad) (behind_comment (rules_at bad) xs)) (blanks_away line place gap (at line p b ∷ rest) g blank) ∙ rw hash refl

-- ---- words

on_word : (bad line place b : ℕ) (rest : List Seen) → IsPlain b → in_word (rules_at bad) (at line place b ∷ rest) ≡ true
on_word bad line place b rest p = rw (p.quote, p.hash, p.printable, p.mark, p.compare) refl

run_word : (bad line place : ℕ) (word : List ℕ) (rest : List Seen) → ArePlain word → in_word (rules_at bad) rest ≡ false → run (in_word (rules_at bad)) (spread line place word ++ rest) ≡ spread line place word
run_word bad line place [] rest p e = run_off (in_word (rules_at bad)) rest e
run_word bad line place (b ∷ word) rest p e =
    run_on (in_word (rules_at bad)) (at line place b ∷ (spread line (place + 1) word ++ rest)) (at line place b) (spread line (place + 1) word ++ rest) refl (on_word bad line place b (spread line (place + 1) word ++ rest) p.0)
    ∙ ap (λ (xs : List Seen). at line place b ∷ xs) (run_word bad line (place + 1) word rest p.1 e)

behind_word : (bad line place : ℕ) (word : List ℕ) (rest : List Seen) → ArePlain word → in_word (rules_at bad) rest ≡ false → behind (in_word (rules_at bad)) (spread line place word ++ rest) ≡ rest
behind_word bad line place [] rest p e = behind_off (in_word (rules_at bad)) rest e
behind_word bad line place (b ∷ word) rest p e =
    behind_on (in_word (rules_at bad)) (at line place b ∷ (spread line (place + 1) word ++ rest)) (at line place b) (spread line (place + 1) word ++ rest) refl (on_word bad line place b (spread line (place + 1) word ++ rest) p.0)
    ∙ behind_word bad line (place + 1) word rest p.1 e

-- a token whose bytes are known
token_spread : (line place b : ℕ) (text : List ℕ) → token_of Word (at line place b) (spread line (place + 1) text) ≡ token_at (at line place b) Word ((place + 1) + length text) (b ∷ text)
token_spread line place b text =
    ap (λ (end : ℕ). token_at (at line place b) Word end (b ∷ bytes_of (spread line (place + 1) text))) (end_spread line (place + 1) text)
    ∙ ap (λ (bytes : List ℕ). token_at (at line place b) Word ((place + 1) + length text) (b ∷ bytes)) (bytes_spread line (place + 1) text)

word_here : (bad line place b : ℕ) (rest : List Seen) → IsPlain b → cut_at (rules_at bad) (at line place b) rest ≡ Ok (token_of Word (at line place b) (run (in_word (rules_at bad)) rest), behind (in_word (rules_at bad)) rest)
unfolding cut_at word_cut
word_here bad line place b rest p = rw (p.lf, p.quote, p.mark, p.compare, p.hash, p.printable) refl

pub cut_word : (bad line place p b : ℕ) (gap word : List ℕ) (rest : List Seen) → AreBlank gap → IsPlain b → ArePlain word → in_word (rules_at bad) rest ≡ false
    → first_cut (rules_at bad) (spread line place gap ++ (spread line p (b ∷ word) ++ rest)) ≡ Ok (token_at (at line p b) Word ((p + 1) + length word) (b ∷ word), rest)
cut_word bad line place p b gap word rest g plain plains e =
    behind_gap bad line place p b gap (spread line (p + 1) word ++ rest) g plain.blank plain.hash
    ∙ word_here bad line p b (spread line (p + 1) word ++ rest) plain
    ∙ ap (λ (xs : List Seen). Ok (token_of Word (at line p b) xs, behind (in_word (rules_at bad)) (spread line (p + 1) word ++ rest))) (run_word bad line (p + 1) word rest plains e)
    ∙ ap (λ (xs : List Seen). Ok (token_of Word (at line p b) (spread line (p + 1) word), xs)) (behind_word bad line (p + 1) word rest plains e)
    ∙ ap (λ (token : Token). Ok (token, rest)) (token_spread line p b word)

-- ---- marks of one byte, and line ends

pub record IsMark (b : ℕ) : Type 0 where
  pub lf : is_lf b ≡ false
  pub backslash : eqb b 92 ≡ false
  pub blank : is_blank b ≡ false
  pub hash : is_hash b ≡ false
  pub quote : is_quote b ≡ false
  pub mark : is_mark b ≡ true
  pub equals : eqb b 61 ≡ false

mark_here : (bad line place b : ℕ) (rest : List Seen) → IsMark b → cut_at (rules_at bad) (at line place b) rest ≡ Ok (token_at (at line place b) Mark (place + 1) (b ∷ []), rest)
unfolding cut_at mark_cut
mark_here bad line place b rest p = rw (p.lf, p.quote, p.mark) refl

pub cut_mark : (bad line place p b : ℕ) (gap : List ℕ) (rest : List Seen) → AreBlank gap → IsMark b
    → first_cut (rules_at bad) (spread line place gap ++ (at line p b ∷ rest)) ≡ Ok (token_at (at line p b) Mark (p + 1) (b ∷ []), rest)
cut_mark bad line place p b gap rest g mark = behind_gap bad line place p b gap rest g mark.blank mark.hash ∙ mark_here bad line p b rest mark

end_here : (bad line place : ℕ) (rest : List Seen) → cut_at (rules_at bad) (at line place 10) rest ≡ Ok (token_at (at line place 10) LineEnd (place + 1) [], rest)
unfolding cut_at
end_here bad line place rest = refl

pub cut_end : (bad line place : ℕ) (rest : List Seen) → first_cut (rules_at bad) (at line place 10 ∷ rest) ≡ Ok (token_at (at line place 10) LineEnd (place + 1) [], rest)
cut_end bad line place rest = behind_gap bad line place place 10 [] rest tt refl refl ∙ end_here bad line place rest

-- ---- quoted texts

-- no byte is `"` or LF
abbrev pub AreInside : List ℕ → Type 0
AreInside [] = Unit {0}
AreInside (b ∷ text) = (is_quote b ≡ false) × (is_lf b ≡ false) × AreInside text

elsewhere : (place bad : ℕ) → place < bad → eqb place bad ≡ false
elsewhere place bad h = grind (arith, nat_tests)

on_inside : (bad line place b : ℕ) (rest : List Seen) → is_quote b ≡ false → is_lf b ≡ false → place < bad → in_quotes (rules_at bad) (at line place b ∷ rest) ≡ true
on_inside bad line place b rest q n h = rw (q, n, elsewhere place bad h) refl

run_inside : (bad line place : ℕ) (text : List ℕ) (rest : List Seen) → AreInside text → place + length text ≤ bad → in_quotes (rules_at bad) rest ≡ false → run (in_quotes (rules_at bad)) (spread line place text ++ rest) ≡ spread line place text
run_inside bad line place [] rest p h e = run_off (in_quotes (rules_at bad)) rest e
run_inside bad line place (b ∷ text) rest p h e =
    run_on (in_quotes (rules_at bad)) (at line place b ∷ (spread line (place + 1) text ++ rest)) (at line place b) (spread line (place + 1) text ++ rest) refl (on_inside bad line place b (spread line (place + 1) text ++ rest) p.0 p.1 (omega arith))
    ∙ ap (λ (xs : List Seen). at line place b ∷ xs) (run_inside bad line (place + 1) text rest p.2 (omega arith) e)

behind_inside : (bad line place : ℕ) (text : List ℕ) (rest : List Seen) → AreInside text → place + length text ≤ bad → in_quotes (rules_at bad) rest ≡ false → behind (in_quotes (rules_at bad)) (spread line place text ++ rest) ≡ rest
behind_inside bad line place [] rest p h e = behind_off (in_quotes (rules_at bad)) rest e
behind_inside bad line place (b ∷ text) rest p h e =
    behind_on (in_quotes (rules_at bad)) (at line place b ∷ (spread line (place + 1) text ++ rest)) (at line place b) (spread line (place + 1) text ++ rest) refl (on_inside bad line place b (spread line (place + 1) text ++ rest) p.0 p.1 (omega arith))
    ∙ behind_inside bad line (place + 1) text rest p.2 (omega arith) e

quote_here : (bad line place : ℕ) (rest : List Seen) → cut_at (rules_at bad) (at line place 34) rest ≡ closed (rules_at bad) (at line place 34) (bytes_of (run (in_quotes (rules_at bad)) rest)) (behind (in_quotes (rules_at bad)) rest)
unfolding cut_at quoted_cut
quote_here bad line place rest = refl

pub cut_quoted : (bad line place p q : ℕ) (gap text : List ℕ) (rest : List Seen) → AreBlank gap → AreInside text → (p + 1) + length text ≤ bad
    → first_cut (rules_at bad) (spread line place gap ++ (at line p 34 ∷ (spread line (p + 1) text ++ (at line q 34 ∷ rest)))) ≡ Ok (token_at (at line p 34) Quoted (q + 1) text, rest)
cut_quoted bad line place p q gap text rest g inside h =
    let quotes : List Seen → Bool = in_quotes (rules_at bad) in
    let shut : List Seen = at line q 34 ∷ rest in
    behind_gap bad line place p 34 gap (spread line (p + 1) text ++ shut) g refl refl
    ∙ quote_here bad line p (spread line (p + 1) text ++ shut)
    ∙ ap (λ (xs : List Seen). closed (rules_at bad) (at line p 34) (bytes_of xs) (behind quotes (spread line (p + 1) text ++ shut))) (run_inside bad line (p + 1) text shut inside h refl)
    ∙ ap (λ (xs : List Seen). closed (rules_at bad) (at line p 34) (bytes_of (spread line (p + 1) text)) xs) (behind_inside bad line (p + 1) text shut inside h refl)
    ∙ ap (λ (bytes : List ℕ). Ok (token_at (at line p 34) Quoted (q + 1) bytes, rest)) (bytes_spread line (p + 1) text)
