-- The tokens that are read of a whole canonical text: those that were printed, with an end behind each line.
use Rattle.std.proofs.Common.{◌≡◌, ◌∙◌, ℕ, zero, suc, ◌+◌, ◌<◌, ◌≤◌, Bool, true, false, ◌&&◌, eqb, List, [], ◌∷◌, ◌++◌, length, length-append, append_assoc, take, take_all, Option, None, Result, Ok, refl, ap, bytes_eq, arith}
use Rattle.std.specs.Str.{IsUtf8, IsAscii}
use Rattle.std.specs.Str.Lossy.{utf8_valid_len}
use Rattle.std.specs.Option.{option_map_or}
use Rattle.std.proofs.lemmas.Bool.Decides.{nat_tests}
use Rattle.std.proofs.lemmas.Str.{utf8_valid_len-IsUtf8, IsUtf8-append, IsUtf8-from_ascii, IsUtf8-nil}
use Rattle.net_base.specs.declared.conf.ConfFault.{ConfFault}
use Rattle.conf_tree.specs.declared.token.Token.{Token}
use Rattle.conf_tree.specs.declared.token.TokenKind.{TokenKind}
use Rattle.conf_tree.specs.declared.token.TokenKind.TheVariants.{Word, Quoted, Mark, LineEnd}
use Rattle.conf_tree.specs.Joined.{Seen, joined_from, joined}
use Rattle.conf_tree.specs.Cuts.{is_blank, is_printable, is_mark, Rules, in_blanks, behind_blanks, behind_comment, first_cut, first_cut_at, cut_at, bad_place, is_cut, rules_of}
use Rattle.conf_tree.specs.Faults.{◌>>=◌}
use Rattle.conf_tree.specs.Kinds as kinds
use Rattle.conf_tree.specs.Names.{is_name}
use Rattle.conf_tree.specs.Macros.{Macros, no_macros, Expanded, expanded, replaced, unchanged, given_for, asked, defined}
use Rattle.conf_tree.specs.Tokens.{LineRead, line_with, line_read, line_read_of, lines_in, lines_read, tokens}
use Rattle.conf_tree.proofs.Runs.{behind_off}
use Rattle.conf_tree.proofs.Joining.{end_stays, joined_some}
use Rattle.conf_tree.proofs.FirstLines.{line_ended}
use Rattle.conf_tree.proofs.LinesOn.{lines_on}
use Rattle.conf_round.proofs.Plain.{ArePlain}
use Rattle.conf_round.proofs.Spread.{and_false}
use Rattle.conf_round.proofs.Cutting.{rules_at, AreBlank}
use Rattle.conf_round.proofs.Pieces.{Piece, shown, line_text, lines_text, piece_token, line_tokens, finish, line_finish, end_token, IsText, IsLine, AreLines, finish_later, line_read_back}

-- ---- macros: no word is replaced, and no line defines one

abbrev same : List Token → Expanded
same tokens = record { tokens = tokens; size = 0 }

asks_none : (b : ℕ) (text : List ℕ) → eqb b 36 ≡ false → asked (b ∷ text) ≡ None
asks_none b text e = rw e refl

replaced_same : (line start end : ℕ) (kind : TokenKind) (text : List ℕ) → IsText kind text
    → replaced no_macros 0 (record { line = line; start = start; end = end; kind = kind; text = text }) ≡ Ok (unchanged 0 (record { line = line; start = start; end = end; kind = kind; text = text }))
unfolding replaced
replaced_same line start end Word [] t = absurd t
replaced_same line start end Word (b ∷ text) t =
    let token : Token = record { line = line; start = start; end = end; kind = Word; text = b ∷ text } in
    ap (λ (asking : Option (List ℕ × List ℕ)). option_map_or (given_for no_macros 0 token) asking (Ok (unchanged 0 token))) (asks_none b text t.0.dollar)
replaced_same line start end Quoted text t = refl
replaced_same line start end Mark text t = refl
replaced_same line start end LineEnd text t = absurd t

expanded_same : (line place : ℕ) (ps : List Piece) (rest : List ℕ) → IsLine ps rest → expanded no_macros 0 (line_tokens line place ps) ≡ Ok (same (line_tokens line place ps))
expanded_same line place [] rest good = refl
expanded_same line place (p ∷ ps) rest good =
    ap (λ (here : Result Expanded ConfFault). here >>= (λ h. expanded no_macros h.size (line_tokens line (finish place p) ps) >>= (λ more. Ok (record { tokens = h.tokens ++ more.tokens; size = more.size }))))
    (replaced_same line _ (finish place p) p.kind p.text good.1)
    ∙ ap (λ (rest : Result Expanded ConfFault). rest >>= (λ more. Ok (record { tokens = (piece_token line place p ∷ []) ++ more.tokens; size = more.size }))) (expanded_same line (finish place p) ps rest good.3)

equals_none : (kind : TokenKind) (text : List ℕ) → IsText kind text → (kinds.is_mark kind && bytes_eq text (61 ∷ [])) ≡ false
equals_none Word text t = refl
equals_none Quoted text t = refl
equals_none Mark [] t = absurd t
equals_none Mark (b ∷ []) t = rw t.equals refl
equals_none Mark (b ∷ c ∷ text) t = absurd t
equals_none LineEnd text t = absurd t

not_begun : (front back : Bool) → back ≡ false → (front && back) ≡ false
not_begun front back e = ap (λ (b : Bool). front && b) e ∙ and_false front

defines_none : (line place : ℕ) (ps : List Piece) (rest : List ℕ) (all : List Token) → IsLine ps rest → defined (line_tokens line place ps) all ≡ None
defines_none line place [] rest all good = refl
defines_none line place (p ∷ []) rest all good = refl
defines_none line place (p ∷ q ∷ ps) rest all good = rw (not_begun (kinds.is_word p.kind && is_name p.text) (kinds.is_mark q.kind && bytes_eq q.text (61 ∷ [])) (equals_none q.kind q.text good.3.1)) refl

-- ---- one line

abbrev line_out : ℕ → ℕ → List Piece → List ℕ → LineRead
line_out line place ps rest = record {
  tokens = line_tokens line place ps ++ (end_token line (line_finish place ps) ∷ []);
  macros = no_macros;
  size = 0;
  rest = joined_from false (line + 1) (line_finish place ps + 1) rest;
}

reads_line : (bad line place : ℕ) (ps : List Piece) (rest : List ℕ) → IsLine ps rest → line_finish place ps ≤ bad
    → line_read (rules_at bad) no_macros 0 (joined_from false line place (line_text ps rest)) ≡ Ok (line_out line place ps rest)
unfolding line_read
reads_line bad line place ps rest good h =
    let found : List Token = line_tokens line place ps in
    let end : Token × List Seen = (end_token line (line_finish place ps), joined_from false (line + 1) (line_finish place ps + 1) rest) in
    ap (line_read_of no_macros 0) (line_read_back bad line place ps rest good h)
    ∙ ap (λ (all : Result Expanded ConfFault). all >>= (λ r. Ok (line_with no_macros r end (defined found r.tokens)))) (expanded_same line place ps rest good)
    ∙ ap (λ (d : Option (List ℕ × List Token)). Ok (line_with no_macros (same found) end d)) (defines_none line place ps rest found good)

-- ---- the end of the text

abbrev pub last_token : ℕ → ℕ → Token
last_token line place = record { line = line; start = place; end = place; kind = LineEnd; text = [] }

abbrev last_seen : ℕ → ℕ → Seen
last_seen line place = record { byte = None; line = line; place = place }

cut_last : (bad line place : ℕ) → first_cut (rules_at bad) (last_seen line place ∷ []) ≡ Ok (last_token line place, [])
unfolding first_cut behind_blanks cut_at
cut_last bad line place = ap (λ (xs : List Seen). first_cut_at (rules_at bad) (behind_comment (rules_at bad) xs)) (behind_off in_blanks (last_seen line place ∷ []) refl)

abbrev last_out : ℕ → ℕ → LineRead
last_out line place = record { tokens = last_token line place ∷ []; macros = no_macros; size = 0; rest = [] }

reads_last : (bad line place : ℕ) → line_read (rules_at bad) no_macros 0 (last_seen line place ∷ []) ≡ Ok (last_out line place)
unfolding line_read
reads_last bad line place = ap (line_read_of no_macros 0) (line_ended (rules_at bad) (last_seen line place ∷ []) (last_token line place) [] (cut_last bad line place) refl)

no_more : (rules : Rules) → lines_read rules no_macros 0 [] ≡ Ok []
unfolding lines_in
no_more rules = refl

-- ---- all lines

abbrev pub lines_tokens : ℕ → ℕ → List (List Piece) → List Token
lines_tokens line place [] = last_token line place ∷ []
lines_tokens line place (l ∷ ls) = (line_tokens line place l ++ (end_token line (line_finish place l) ∷ [])) ++ lines_tokens (line + 1) (line_finish place l + 1) ls

abbrev pub lines_finish : ℕ → List (List Piece) → ℕ
lines_finish place [] = place
lines_finish place (l ∷ ls) = lines_finish (line_finish place l + 1) ls

lines_later : (place : ℕ) (ls : List (List Piece)) → place ≤ lines_finish place ls
lines_later place [] = omega arith
lines_later place (l ∷ ls) = omega (arith, finish_later place l, lines_later (line_finish place l + 1) ls)

-- one step: a line, and the lines that are left
step : (rules : Rules) (xs : List Seen) (out : LineRead) (more : List Token) → (xs ≡ [] → ⊥) → line_read rules no_macros 0 xs ≡ Ok out → out.macros ≡ no_macros → out.size ≡ 0 → lines_read rules no_macros 0 out.rest ≡ Ok more
    → lines_read rules no_macros 0 xs ≡ Ok (out.tokens ++ more)
step rules xs out more some read macros size left =
    lines_on rules no_macros 0 xs out some read
    ∙ ap (λ (m : Macros). lines_read rules m out.size out.rest >>= (λ rest. Ok (out.tokens ++ rest))) macros
    ∙ ap (λ (n : ℕ). lines_read rules no_macros n out.rest >>= (λ rest. Ok (out.tokens ++ rest))) size
    ∙ ap (λ (all : Result (List Token) ConfFault). all >>= (λ rest. Ok (out.tokens ++ rest))) left

pub lines_read_back : (bad line place : ℕ) (ls : List (List Piece)) → AreLines ls → lines_finish place ls ≤ bad → lines_read (rules_at bad) no_macros 0 (joined_from false line place (lines_text ls)) ≡ Ok (lines_tokens line place ls)
lines_read_back bad line place [] good h =
    ap (lines_read (rules_at bad) no_macros 0) (end_stays line place)
    ∙ step (rules_at bad) (last_seen line place ∷ []) (last_out line place) [] (λ e. cc) (reads_last bad line place) refl refl (no_more (rules_at bad))
lines_read_back bad line place (l ∷ ls) good h =
    step (rules_at bad) (joined_from false line place (line_text l (lines_text ls))) (line_out line place l (lines_text ls)) (lines_tokens (line + 1) (line_finish place l + 1) ls)
    (joined_some false line place (line_text l (lines_text ls)))
    (reads_line bad line place l (lines_text ls) good.0 (omega (arith, lines_later (line_finish place l + 1) ls)))
    refl refl
    (lines_read_back bad (line + 1) (line_finish place l + 1) ls good.1 h)

-- ---- the text is UTF-8

ascii_one : (b : ℕ) → b < 128 → IsAscii (b ∷ [])
ascii_one b h zero = h
ascii_one b h (suc i) = omega arith

byte_before : (b : ℕ) (rest : List ℕ) → b < 128 → IsUtf8 rest → IsUtf8 (b ∷ rest)
byte_before b rest h u = IsUtf8-append (b ∷ []) rest (IsUtf8-from_ascii (b ∷ []) (ascii_one b h)) u

blank_ascii : (b : ℕ) → is_blank b ≡ true → b < 128
blank_ascii b h = grind (arith, nat_tests)

printable_ascii : (b : ℕ) → is_printable b ≡ true → b < 128
printable_ascii b h = grind (arith, nat_tests)

mark_ascii : (b : ℕ) → is_mark b ≡ true → b < 128
mark_ascii b h = grind (arith, nat_tests)

blanks_before : (gap rest : List ℕ) → AreBlank gap → IsUtf8 rest → IsUtf8 (gap ++ rest)
blanks_before [] rest g u = u
blanks_before (b ∷ gap) rest g u = byte_before b (gap ++ rest) (blank_ascii b g.0) (blanks_before gap rest g.1 u)

plain_before : (word rest : List ℕ) → ArePlain word → IsUtf8 rest → IsUtf8 (word ++ rest)
plain_before [] rest p u = u
plain_before (b ∷ word) rest p u = byte_before b (word ++ rest) (printable_ascii b p.0.printable) (plain_before word rest p.1 u)

token_before : (kind : TokenKind) (text rest : List ℕ) → IsText kind text → IsUtf8 rest → IsUtf8 (shown kind text ++ rest)
token_before Word [] rest t u = absurd t
token_before Word (b ∷ text) rest t u = plain_before (b ∷ text) rest t u
token_before Quoted text rest t u =
    byte_before 34 ((text ++ (34 ∷ [])) ++ rest) (omega arith) (rw append_assoc (IsUtf8-append text (34 ∷ rest) t.1 (byte_before 34 rest (omega arith) u)))
token_before Mark [] rest t u = absurd t
token_before Mark (b ∷ []) rest t u = byte_before b rest (mark_ascii b t.mark) u
token_before Mark (b ∷ c ∷ text) rest t u = absurd t
token_before LineEnd text rest t u = absurd t

line_utf8 : (ps : List Piece) (rest : List ℕ) → IsLine ps rest → IsUtf8 rest → IsUtf8 (line_text ps rest)
line_utf8 [] rest good u = byte_before 10 rest (omega arith) u
line_utf8 (p ∷ ps) rest good u = blanks_before p.gap (shown p.kind p.text ++ line_text ps rest) good.0 (token_before p.kind p.text (line_text ps rest) good.1 (line_utf8 ps rest good.3 u))

pub lines_utf8 : (ls : List (List Piece)) → AreLines ls → IsUtf8 (lines_text ls)
lines_utf8 [] good = IsUtf8-nil
lines_utf8 (l ∷ ls) good = line_utf8 l (lines_text ls) good.0 (lines_utf8 ls good.1)

-- ---- the whole text

line_size : (place : ℕ) (ps : List Piece) (rest : List ℕ) → place + length (line_text ps rest) ≡ (line_finish place ps + 1) + length rest
line_size place [] rest = omega arith
line_size place (p ∷ ps) rest = omega (arith, line_size (finish place p) ps rest, length-append p.gap (shown p.kind p.text ++ line_text ps rest), length-append (shown p.kind p.text) (line_text ps rest))

text_size : (place : ℕ) (ls : List (List Piece)) → place + length (lines_text ls) ≡ lines_finish place ls
text_size place [] = omega arith
text_size place (l ∷ ls) = line_size place l (lines_text ls) ∙ text_size (line_finish place l + 1) ls

whole : (limit : ℕ) (text : List ℕ) → length text ≤ limit → is_cut limit text ≡ false
whole limit text h = grind (arith, nat_tests)

rules_whole : (limit : ℕ) (text : List ℕ) → length text ≤ limit → IsUtf8 text → rules_of limit text ≡ rules_at (length text)
rules_whole limit text h utf8 =
    ap (λ (cut : Bool). record { strict = true; bad = bad_place cut (take limit text); cut = cut }) (whole limit text h)
    ∙ ap (λ (bytes : List ℕ). rules_at (utf8_valid_len bytes)) (take_all limit text h)
    ∙ ap rules_at (utf8_valid_len-IsUtf8 text utf8)

-- the tokens of a text of good lines
pub text_read_back : (limit : ℕ) (ls : List (List Piece)) → AreLines ls → length (lines_text ls) ≤ limit → tokens limit (lines_text ls) ≡ Ok (lines_tokens 1 0 ls)
unfolding tokens
text_read_back limit ls good h =
    let text : List ℕ = lines_text ls in
    ap (λ (rules : Rules). lines_read rules no_macros 0 (joined (take limit text))) (rules_whole limit text h (lines_utf8 ls good))
    ∙ ap (λ (bytes : List ℕ). lines_read (rules_at (length text)) no_macros 0 (joined bytes)) (take_all limit text h)
    ∙ lines_read_back (length text) 1 0 ls good (omega (arith, text_size 0 ls))
