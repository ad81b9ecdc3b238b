-- Lines as lists of tokens: their texts joined, and good lines whatever follows them.
use Rattle.std.proofs.Common.{◌≡◌, ◌∙◌, ℕ, List, [], ◌∷◌, ◌++◌, append_assoc, map, flat_map, refl, ap, sym}
use Rattle.conf_tree.specs.declared.token.TokenKind.{TokenKind}
use Rattle.conf_tree.specs.declared.token.TokenKind.TheVariants.{Word, Quoted, Mark, LineEnd}
use Rattle.conf_round.proofs.Cutting.{AreBlank, IsMark}
use Rattle.conf_round.proofs.Pieces.{Piece, shown, line_text, lines_text, IsStop, Stops, IsText, Ends, IsLine, AreLines}

-- ---- texts

-- pieces, and the text behind them
abbrev pub pieces_text : List Piece → List ℕ → List ℕ
pieces_text [] rest = rest
pieces_text (p ∷ ps) rest = p.gap ++ (shown p.kind p.text ++ pieces_text ps rest)

pub line_of_pieces : (ps : List Piece) (rest : List ℕ) → line_text ps rest ≡ pieces_text ps (10 ∷ rest)
line_of_pieces [] rest = refl
line_of_pieces (p ∷ ps) rest = ap (λ (l : List ℕ). p.gap ++ (shown p.kind p.text ++ l)) (line_of_pieces ps rest)

pub pieces_append : (ps qs : List Piece) (rest : List ℕ) → pieces_text (ps ++ qs) rest ≡ pieces_text ps (pieces_text qs rest)
pieces_append [] qs rest = refl
pieces_append (p ∷ ps) qs rest = ap (λ (l : List ℕ). p.gap ++ (shown p.kind p.text ++ l)) (pieces_append ps qs rest)

pub line_split : (ps : List Piece) (rest : List ℕ) → line_text ps rest ≡ line_text ps [] ++ rest
line_split [] rest = refl
line_split (p ∷ ps) rest =
    ap (λ (l : List ℕ). p.gap ++ (shown p.kind p.text ++ l)) (line_split ps rest)
    ∙ ap (λ (l : List ℕ). p.gap ++ l) (sym (append_assoc (shown p.kind p.text) (line_text ps []) rest))
    ∙ sym (append_assoc p.gap (shown p.kind p.text ++ line_text ps []) rest)

pub lines_append : (ls ms : List (List Piece)) → lines_text (ls ++ ms) ≡ lines_text ls ++ lines_text ms
lines_append [] ms = refl
lines_append (l ∷ ls) ms =
    ap (line_text l) (lines_append ls ms) ∙ line_split l (lines_text ls ++ lines_text ms)
    ∙ sym (append_assoc (line_text l []) (lines_text ls) (lines_text ms)) ∙ ap (λ (t : List ℕ). t ++ lines_text ms) (sym (line_split l (lines_text ls)))

-- a line, and then others
pub line_before : (l : List Piece) (ls : List (List Piece)) → lines_text (l ∷ ls) ≡ line_text l [] ++ lines_text ls
line_before l ls = line_split l (lines_text ls)

-- one line for each entry of a list, and some lines for each
pub lines_map : {A : Type 0} (text : A → List ℕ) (line : A → List Piece) → ((x : A) → text x ≡ line_text (line x) []) → (xs : List A) → flat_map text xs ≡ lines_text (map line xs)
lines_map text line same [] = refl
lines_map text line same (x ∷ xs) =
    ap (λ (l : List ℕ). l ++ flat_map text xs) (same x) ∙ ap (λ (l : List ℕ). line_text (line x) [] ++ l) (lines_map text line same xs) ∙ sym (line_split (line x) (lines_text (map line xs)))

pub lines_flat : {A : Type 0} (text : A → List ℕ) (lines : A → List (List Piece)) → ((x : A) → text x ≡ lines_text (lines x)) → (xs : List A) → flat_map text xs ≡ lines_text (flat_map lines xs)
lines_flat text lines same [] = refl
lines_flat text lines same (x ∷ xs) =
    ap (λ (l : List ℕ). l ++ flat_map text xs) (same x) ∙ ap (λ (l : List ℕ). lines_text (lines x) ++ l) (lines_flat text lines same xs) ∙ sym (lines_append (lines x) (flat_map lines xs))

pub both_lines : (first second : List ℕ) (ls ms : List (List Piece)) → first ≡ lines_text ls → second ≡ lines_text ms → first ++ second ≡ lines_text (ls ++ ms)
both_lines first second ls ms e f = ap (λ (l : List ℕ). l ++ second) e ∙ ap (λ (l : List ℕ). lines_text ls ++ l) f ∙ sym (lines_append ls ms)

pub line_and_lines : (first second : List ℕ) (l : List Piece) (ms : List (List Piece)) → first ≡ line_text l [] → second ≡ lines_text ms → first ++ second ≡ lines_text (l ∷ ms)
line_and_lines first second l ms e f = ap (λ (t : List ℕ). t ++ second) e ∙ ap (λ (t : List ℕ). line_text l [] ++ t) f ∙ sym (line_before l ms)

-- ---- good lines

-- blanks and a token
abbrev pub IsPiece : Piece → Type 0
IsPiece p = AreBlank p.gap × IsText p.kind p.text

-- a piece that ends a word in front of it
abbrev pub Follows : Piece → Type 0
Follows p = (rest : List ℕ) → Stops (p.gap ++ (shown p.kind p.text ++ rest))

abbrev pub AreFollowing : List Piece → Type 0
AreFollowing [] = Unit {0}
AreFollowing (p ∷ ps) = IsPiece p × Follows p × AreFollowing ps

abbrev pub IsGoodLine : List Piece → Type 0
IsGoodLine [] = Unit {0}
IsGoodLine (p ∷ ps) = IsPiece p × AreFollowing ps

abbrev pub AreGoodLines : List (List Piece) → Type 0
AreGoodLines [] = Unit {0}
AreGoodLines (l ∷ ls) = IsGoodLine l × AreGoodLines ls

pub following_both : (ps qs : List Piece) → AreFollowing ps → AreFollowing qs → AreFollowing (ps ++ qs)
following_both [] qs f g = g
following_both (p ∷ ps) qs f g = (f.0, f.1, following_both ps qs f.2 g)

pub good_both : (ls ms : List (List Piece)) → AreGoodLines ls → AreGoodLines ms → AreGoodLines (ls ++ ms)
good_both [] ms f g = g
good_both (l ∷ ls) ms f g = (f.0, good_both ls ms f.1 g)

-- the bytes that end a word
stop_lf : IsStop 10
stop_lf = record { backslash = refl; word = λ bad line place rest. refl }

pub stop_blank : IsStop 32
stop_blank = record { backslash = refl; word = λ bad line place rest. refl }

pub stop_comma : IsStop 44
stop_comma = record { backslash = refl; word = λ bad line place rest. refl }

ends : (kind : TokenKind) (ps : List Piece) (rest : List ℕ) → AreFollowing ps → Ends kind (line_text ps rest)
ends Word [] rest f = stop_lf
ends Word (q ∷ qs) rest f = f.1 (line_text qs rest)
ends Quoted ps rest f = tt
ends Mark ps rest f = tt
ends LineEnd ps rest f = tt

following_line : (ps : List Piece) (rest : List ℕ) → AreFollowing ps → IsLine ps rest
following_line [] rest f = tt
following_line (p ∷ ps) rest f = (f.0.0, f.0.1, ends p.kind ps rest f.2, following_line ps rest f.2)

good_line : (ps : List Piece) (rest : List ℕ) → IsGoodLine ps → IsLine ps rest
good_line [] rest g = tt
good_line (p ∷ ps) rest g = (g.0.0, g.0.1, ends p.kind ps rest g.1, following_line ps rest g.1)

pub good_lines : (ls : List (List Piece)) → AreGoodLines ls → AreLines ls
good_lines [] g = tt
good_lines (l ∷ ls) g = (good_line l (lines_text ls) g.0, good_lines ls g.1)

-- ---- pieces behind one blank, and the first of a line

abbrev pub first : List ℕ → Piece
first text = record { gap = []; kind = Word; text = text }

abbrev pub tabbed : List ℕ → Piece
tabbed text = record { gap = 9 ∷ []; kind = Word; text = text }

abbrev pub word : List ℕ → Piece
word text = record { gap = 32 ∷ []; kind = Word; text = text }

abbrev pub quote : List ℕ → Piece
quote text = record { gap = 32 ∷ []; kind = Quoted; text = text }

abbrev pub opening : Piece
opening = record { gap = 32 ∷ []; kind = Mark; text = 123 ∷ [] }

abbrev pub closing : Piece
closing = record { gap = 32 ∷ []; kind = Mark; text = 125 ∷ [] }

abbrev pub shut : Piece
shut = record { gap = []; kind = Mark; text = 125 ∷ [] }

abbrev pub comma : Piece
comma = record { gap = []; kind = Mark; text = 44 ∷ [] }

is_brace : IsMark 123
is_brace = record { lf = refl; backslash = refl; blank = refl; hash = refl; quote = refl; mark = refl; equals = refl }

is_closing : IsMark 125
is_closing = record { lf = refl; backslash = refl; blank = refl; hash = refl; quote = refl; mark = refl; equals = refl }

is_comma : IsMark 44
is_comma = record { lf = refl; backslash = refl; blank = refl; hash = refl; quote = refl; mark = refl; equals = refl }

pub with_word : (text : List ℕ) (ps : List Piece) → IsText Word text → AreFollowing ps → AreFollowing (word text ∷ ps)
with_word text ps t f = (((refl, tt), t), λ rest. stop_blank, f)

pub with_quote : (text : List ℕ) (ps : List Piece) → IsText Quoted text → AreFollowing ps → AreFollowing (quote text ∷ ps)
with_quote text ps t f = (((refl, tt), t), λ rest. stop_blank, f)

pub with_opening : (ps : List Piece) → AreFollowing ps → AreFollowing (opening ∷ ps)
with_opening ps f = (((refl, tt), is_brace), λ rest. stop_blank, f)

pub with_closing : (ps : List Piece) → AreFollowing ps → AreFollowing (closing ∷ ps)
with_closing ps f = (((refl, tt), is_closing), λ rest. stop_blank, f)

pub with_comma : (ps : List Piece) → AreFollowing ps → AreFollowing (comma ∷ ps)
with_comma ps f = ((tt, is_comma), λ rest. stop_comma, f)

pub from_first : (text : List ℕ) (ps : List Piece) → IsText Word text → AreFollowing ps → IsGoodLine (first text ∷ ps)
from_first text ps t f = ((tt, t), f)

pub from_tabbed : (text : List ℕ) (ps : List Piece) → IsText Word text → AreFollowing ps → IsGoodLine (tabbed text ∷ ps)
from_tabbed text ps t f = (((refl, tt), t), f)

pub shut_line : IsGoodLine (shut ∷ [])
shut_line = ((tt, is_closing), tt)
