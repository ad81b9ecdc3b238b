-- The lines of a canonical text as tokens with blanks before them, and the tokens that are read of them.
use Rattle.std.proofs.Common.{◌≡◌, ◌∙◌, ℕ, suc, ◌+◌, ◌≤◌, true, false, eqb, List, [], ◌∷◌, ◌++◌, length, length-append, append_assoc, Ok, refl, ap, arith}
use Rattle.std.specs.Str.{IsUtf8}
use Rattle.std.proofs.lemmas.Bool.Decides.{nat_tests}
use Rattle.conf_tree.specs.declared.token.Token.{Token}
use Rattle.conf_tree.specs.declared.token.TokenKind.{TokenKind}
use Rattle.conf_tree.specs.declared.token.TokenKind.TheVariants.{Word, Quoted, Mark, LineEnd}
use Rattle.conf_tree.specs.Joined.{Seen, joined_from, is_lf, line_behind}
use Rattle.conf_tree.specs.Kinds.{is_line_end}
use Rattle.conf_tree.specs.Cuts.{is_blank, in_word, first_cut, first_line, in_front_of}
use Rattle.conf_tree.proofs.Joining.{byte_stays}
use Rattle.conf_tree.proofs.FirstLines.{line_on, line_ended}
use Rattle.conf_round.proofs.Plain.{IsPlain, ArePlain}
use Rattle.conf_round.proofs.Spread.{at, spread, AreNoLf, joined_word, joined_one, joined_end, joined_inside}
use Rattle.conf_round.proofs.Cutting.{rules_at, AreBlank, AreInside, IsMark, cut_word, cut_mark, cut_end, cut_quoted}

-- a token, and the blanks in front of it
pub record Piece : Type 0 where
  pub gap : List ℕ
  pub kind : TokenKind
  pub text : List ℕ

-- a token as it is printed
abbrev pub shown : TokenKind → List ℕ → List ℕ
shown Word text = text
shown Quoted text = 34 ∷ (text ++ (34 ∷ []))
shown Mark text = text
shown LineEnd text = text

-- a line, its LF, and the text behind it
abbrev pub line_text : List Piece → List ℕ → List ℕ
line_text [] rest = 10 ∷ rest
line_text (p ∷ ps) rest = p.gap ++ (shown p.kind p.text ++ line_text ps rest)

abbrev pub lines_text : List (List Piece) → List ℕ
lines_text [] = []
lines_text (line ∷ lines) = line_text line (lines_text lines)

-- ---- the tokens

-- where a token begins, and the place behind it
abbrev pub start : ℕ → Piece → ℕ
start place p = place + length p.gap

abbrev pub finish : ℕ → Piece → ℕ
finish place p = start place p + length (shown p.kind p.text)

abbrev pub piece_token : ℕ → ℕ → Piece → Token
piece_token line place p = record { line = line; start = start place p; end = finish place p; kind = p.kind; text = p.text }

abbrev pub line_tokens : ℕ → ℕ → List Piece → List Token
line_tokens line place [] = []
line_tokens line place (p ∷ ps) = piece_token line place p ∷ line_tokens line (finish place p) ps

-- the place of the LF of a line
abbrev pub line_finish : ℕ → List Piece → ℕ
line_finish place [] = place
line_finish place (p ∷ ps) = line_finish (finish place p) ps

abbrev pub end_token : ℕ → ℕ → Token
end_token line place = record { line = line; start = place; end = place + 1; kind = LineEnd; text = [] }

-- ---- good lines

-- a byte with which a word ends
pub record IsStop (b : ℕ) : Type 0 where
  pub backslash : eqb b 92 ≡ false
  pub word : (bad line place : ℕ) (rest : List Seen) → in_word (rules_at bad) (at line place b ∷ rest) ≡ false

abbrev pub Stops : List ℕ → Type 0
Stops [] = ⊥
Stops (b ∷ rest) = IsStop b

-- the text of a token: a word has plain bytes, and a quoted text is UTF-8 without `"` and LF
abbrev pub IsText : TokenKind → List ℕ → Type 0
IsText Word [] = ⊥
IsText Word (b ∷ text) = IsPlain b × ArePlain text
IsText Quoted text = AreInside text × IsUtf8 text
IsText Mark [] = ⊥
IsText Mark (b ∷ []) = IsMark b
IsText Mark (b ∷ c ∷ text) = ⊥
IsText LineEnd text = ⊥

-- a word ends where it is followed so
abbrev pub Ends : TokenKind → List ℕ → Type 0
Ends Word rest = Stops rest
Ends Quoted rest = Unit {0}
Ends Mark rest = Unit {0}
Ends LineEnd rest = Unit {0}

abbrev pub IsLine : List Piece → List ℕ → Type 0
IsLine [] rest = Unit {0}
IsLine (p ∷ ps) rest = AreBlank p.gap × IsText p.kind p.text × Ends p.kind (line_text ps rest) × IsLine ps rest

abbrev pub AreLines : List (List Piece) → Type 0
AreLines [] = Unit {0}
AreLines (line ∷ lines) = IsLine line (lines_text lines) × AreLines lines

-- ---- one piece

blank_backslash : (b : ℕ) → is_blank b ≡ true → eqb b 92 ≡ false
blank_backslash b h = grind (arith, nat_tests)

blank_lf : (b : ℕ) → is_blank b ≡ true → is_lf b ≡ false
blank_lf b h = grind (arith, nat_tests)

further : (line place n : ℕ) (rest : List ℕ) → joined_from false line ((place + 1) + n) rest ≡ joined_from false line (place + suc n) rest
further line place n rest = ap (λ p. joined_from false line p rest) (omega arith)

joined_gap : (line place : ℕ) (gap rest : List ℕ) → AreBlank gap → joined_from false line place (gap ++ rest) ≡ spread line place gap ++ joined_from false line (place + length gap) rest
joined_gap line place [] rest g = ap (λ n. joined_from false line n rest) (omega arith)
joined_gap line place (b ∷ gap) rest g =
    joined_one line place b (gap ++ rest) (blank_backslash b g.0) (blank_lf b g.0)
    ∙ ap (λ (s : List Seen). at line place b ∷ s) (joined_gap line (place + 1) gap rest g.1 ∙ ap (λ (s : List Seen). spread line (place + 1) gap ++ s) (further line place (length gap) rest))

-- where a word ends
word_stops : (bad line place : ℕ) (rest : List ℕ) → Stops rest → in_word (rules_at bad) (joined_from false line place rest) ≡ false
word_stops bad line place [] s = absurd s
word_stops bad line place (b ∷ rest) s = ap (in_word (rules_at bad)) (byte_stays line place b rest (rw s.backslash refl)) ∙ s.word bad line place (joined_from false (line_behind line b) (place + 1) rest)

-- what is read of a piece
abbrev CutsTo : ℕ → ℕ → ℕ → Piece → List ℕ → Type 0
CutsTo bad line place p rest =
    first_cut (rules_at bad) (joined_from false line place (p.gap ++ (shown p.kind p.text ++ rest))) ≡ Ok (piece_token line place p, joined_from false line (finish place p) rest)

word_piece : (bad line place b : ℕ) (gap text rest : List ℕ) → AreBlank gap → IsPlain b → ArePlain text → Stops rest → CutsTo bad line place (record { gap = gap; kind = Word; text = b ∷ text }) rest
word_piece bad line place b gap text rest g plain plains stops =
    let p : ℕ = place + length gap in
    ap (first_cut (rules_at bad)) (joined_gap line place gap ((b ∷ text) ++ rest) g ∙ ap (λ (xs : List Seen). spread line place gap ++ xs) (joined_word line p (b ∷ text) rest (plain, plains)))
    ∙ cut_word bad line place p b gap text (joined_from false line (p + length (b ∷ text)) rest) g plain plains (word_stops bad line (p + length (b ∷ text)) rest stops)
    ∙ ap (λ (end : ℕ). Ok (record { line = line; start = p; end = end; kind = Word; text = b ∷ text }, joined_from false line (p + length (b ∷ text)) rest)) (omega arith)

mark_piece : (bad line place b : ℕ) (gap rest : List ℕ) → AreBlank gap → IsMark b → CutsTo bad line place (record { gap = gap; kind = Mark; text = b ∷ [] }) rest
mark_piece bad line place b gap rest g mark =
    let p : ℕ = place + length gap in
    ap (first_cut (rules_at bad)) (joined_gap line place gap (b ∷ rest) g ∙ ap (λ (xs : List Seen). spread line place gap ++ xs) (joined_one line p b rest mark.backslash mark.lf))
    ∙ cut_mark bad line place p b gap (joined_from false line (p + 1) rest) g mark

inside_no_lf : (text : List ℕ) → AreInside text → AreNoLf text
inside_no_lf [] p = tt
inside_no_lf (b ∷ text) p = (p.1, inside_no_lf text p.2)

shut_length : (text : List ℕ) → length (34 ∷ (text ++ (34 ∷ []))) ≡ 2 + length text
shut_length text = omega (arith, length-append text (34 ∷ []))

joined_shut : (line p : ℕ) (text rest : List ℕ) → AreInside text
    → joined_from false line p ((34 ∷ (text ++ (34 ∷ []))) ++ rest) ≡ at line p 34 ∷ (spread line (p + 1) text ++ (at line ((p + 1) + length text) 34 ∷ joined_from false line (((p + 1) + length text) + 1) rest))
joined_shut line p text rest inside =
    ap (λ (bytes : List ℕ). joined_from false line p (34 ∷ bytes)) (append_assoc text (34 ∷ []) rest)
    ∙ joined_one line p 34 (text ++ (34 ∷ rest)) refl refl
    ∙ ap (λ (xs : List Seen). at line p 34 ∷ xs) (joined_inside line (p + 1) text (34 ∷ rest) (inside_no_lf text inside) refl
    ∙ ap (λ (xs : List Seen). spread line (p + 1) text ++ xs) (joined_one line ((p + 1) + length text) 34 rest refl refl))

quoted_end : (p : ℕ) (text : List ℕ) → ((p + 1) + length text) + 1 ≡ p + length (34 ∷ (text ++ (34 ∷ [])))
quoted_end p text = omega (arith, shut_length text)

quoted_piece : (bad line place : ℕ) (gap text rest : List ℕ) → AreBlank gap → AreInside text → finish place (record { gap = gap; kind = Quoted; text = text }) ≤ bad → CutsTo bad line place (record { gap = gap; kind = Quoted; text = text }) rest
quoted_piece bad line place gap text rest g inside h =
    let p : ℕ = place + length gap in
    let q : ℕ = (p + 1) + length text in
    ap (first_cut (rules_at bad)) (joined_gap line place gap ((34 ∷ (text ++ (34 ∷ []))) ++ rest) g ∙ ap (λ (xs : List Seen). spread line place gap ++ xs) (joined_shut line p text rest inside))
    ∙ cut_quoted bad line place p q gap text (joined_from false line (q + 1) rest) g inside (omega (arith, shut_length text, h))
    ∙ ap (λ (end : ℕ). Ok (record { line = line; start = p; end = end; kind = Quoted; text = text }, joined_from false line end rest)) (quoted_end p text)

piece_of : (bad line place : ℕ) (gap : List ℕ) (kind : TokenKind) (text rest : List ℕ) → AreBlank gap → IsText kind text → Ends kind rest → finish place (record { gap = gap; kind = kind; text = text }) ≤ bad
    → CutsTo bad line place (record { gap = gap; kind = kind; text = text }) rest
piece_of bad line place gap Word [] rest g t e h = absurd t
piece_of bad line place gap Word (b ∷ text) rest g t e h = word_piece bad line place b gap text rest g t.0 t.1 e
piece_of bad line place gap Quoted text rest g t e h = quoted_piece bad line place gap text rest g t.0 h
piece_of bad line place gap Mark [] rest g t e h = absurd t
piece_of bad line place gap Mark (b ∷ []) rest g t e h = mark_piece bad line place b gap rest g t
piece_of bad line place gap Mark (b ∷ c ∷ text) rest g t e h = absurd t
piece_of bad line place gap LineEnd text rest g t e h = absurd t

-- ---- a line

not_end : (kind : TokenKind) (text : List ℕ) → IsText kind text → is_line_end kind ≡ false
not_end Word text t = refl
not_end Quoted text t = refl
not_end Mark text t = refl
not_end LineEnd text t = absurd t

pub finish_later : (place : ℕ) (ps : List Piece) → place ≤ line_finish place ps
finish_later place [] = omega arith
finish_later place (p ∷ ps) = omega (arith, finish_later (finish place p) ps)

-- the tokens of a line, its end, and what stands behind it
pub line_read_back : (bad line place : ℕ) (ps : List Piece) (rest : List ℕ) → IsLine ps rest → line_finish place ps ≤ bad
    → first_line (rules_at bad) (joined_from false line place (line_text ps rest)) ≡ record {
      tokens = line_tokens line place ps;
      end = Ok (end_token line (line_finish place ps), joined_from false (line + 1) (line_finish place ps + 1) rest);
    }
line_read_back bad line place [] rest good h =
    line_ended (rules_at bad) (joined_from false line place (10 ∷ rest)) (end_token line place) (joined_from false (line + 1) (place + 1) rest)
    (ap (first_cut (rules_at bad)) (joined_end line place rest) ∙ cut_end bad line place (joined_from false (line + 1) (place + 1) rest)) refl
line_read_back bad line place (p ∷ ps) rest good h =
    line_on (rules_at bad) (joined_from false line place (line_text (p ∷ ps) rest)) (piece_token line place p) (joined_from false line (finish place p) (line_text ps rest))
    (piece_of bad line place p.gap p.kind p.text (line_text ps rest) good.0 good.1 good.2 (omega (arith, finish_later (finish place p) ps))) (not_end p.kind p.text good.1)
    ∙ ap (in_front_of (piece_token line place p ∷ [])) (line_read_back bad line (finish place p) ps rest good.3 h)
