-- A line is cut into no more tokens than it has bytes, and its words have bytes.
use Rattle.std.proofs.Common.{◌≡◌, ◌∙◌, ℕ, zero, suc, ◌+◌, ◌-◌, ◌≤◌, Bool, true, false, cond, List, [], ◌∷◌, length, take, Option, Some, None, Ok, Err, refl, sym, arith, true≢false}
use Rattle.std.specs.Prelude.{nat_lt}
use Rattle.std.specs.Option.{option_map_or}
use Rattle.net_base.specs.declared.conf.ConfKind.TheVariants.{TooLong, OpenQuote, BadByte}
use Rattle.conf_tree.specs.declared.token.Token.{Token}
use Rattle.conf_tree.specs.declared.token.TokenKind.{TokenKind}
use Rattle.conf_tree.specs.declared.token.TokenKind.TheVariants.{Word, Quoted, Mark, LineEnd}
use Rattle.conf_tree.specs.Joined.{Seen, is_lf, joined}
use Rattle.conf_tree.specs.Kinds.{is_word, is_line_end}
use Rattle.conf_tree.specs.Cuts.{Rules, is_quote, mark_size, is_word_byte, in_blanks, in_word, in_quotes, run, behind, bytes_of, token_at, fault_at, Cut, closed_by, closed, quoted_cut, mark_cut, end_in_front, word_ended, word_cut, cut_by, cut_at, behind_comment, behind_blanks, first_cut_at, first_cut, Line, in_front_of, line_by, line_in, first_line, plain_rules, split}
use Rattle.conf_tree.specs.Readable.{Each, can_be_quoted}
use Rattle.conf_tree.proofs.Takes.{Takes, first_takes}
use Rattle.conf_sound.proofs.CutForms.{CutsWell, NoQuotes, none_behind, none_comment, none_cut, joined_none}

-- its text is not empty
abbrev pub HasBytes : Token → Type 0
HasBytes token = 1 ≤ length token.text

-- ---- a line

-- a line, up to its end, and what is left behind it are no more than n
abbrev pub Leaves : ℕ → ℕ → Cut → Type 0
Leaves n count (Ok found) = suc (count + length found.1) ≤ n
Leaves n count (Err fault) = Unit {0}

line_leaves_if : (n : ℕ) (ends : Bool) (found : Token × List Seen) (line : Line) → suc (length found.1) ≤ n → Leaves (length found.1) (length line.tokens) line.end
    → Leaves n (length (cond ends (record { tokens = []; end = Ok found }) (in_front_of (found.0 ∷ []) line)).tokens) (cond ends (record { tokens = []; end = Ok found }) (in_front_of (found.0 ∷ []) line)).end
line_leaves_if n true found line h k = omega (arith, h)
line_leaves_if n false found line h k = by line.end k
  where
    by : (end : Cut) → Leaves (length found.1) (length line.tokens) end → Leaves n (suc (length line.tokens)) end
    by (Ok last) k = omega (arith, h, k)
    by (Err fault) k = tt

line_leaves_by : (rules : Rules) (n k : ℕ) (cut : Cut) → Takes k cut → ((rest : List Seen) → Leaves (length rest) (length (line_in rules n rest).tokens) (line_in rules n rest).end)
    → Leaves k (length (line_by (line_in rules n) cut).tokens) (line_by (line_in rules n) cut).end
line_leaves_by rules n k (Err fault) t lines = tt
line_leaves_by rules n k (Ok found) t lines = line_leaves_if k (is_line_end found.0.kind) found (line_in rules n found.1) (omega (arith, t.0)) (lines found.1)

line_in_leaves : (rules : Rules) (n : ℕ) (rest : List Seen) → Leaves (length rest) (length (line_in rules n rest).tokens) (line_in rules n rest).end
unfolding line_in
line_in_leaves rules zero rest = tt
line_in_leaves rules (suc n) rest = line_leaves_by rules n (length rest) (first_cut rules rest) (first_takes rules rest) (line_in_leaves rules n)

pub line_leaves : (rules : Rules) (rest : List Seen) → Leaves (length rest) (length (first_line rules rest).tokens) (first_line rules rest).end
unfolding first_line
line_leaves rules rest = line_in_leaves rules (length rest) rest

-- ---- what the tokens of a line are like

-- a token that is cut off is so
abbrev CutIs : (Token → Type 0) → Cut → Type 0
CutIs Is (Ok found) = Is found.0
CutIs Is (Err fault) = Unit {0}

-- what is left behind a token is so
abbrev FineIn : (List Seen → Type 0) → Cut → Type 0
FineIn Fine (Ok found) = Fine found.1
FineIn Fine (Err fault) = Unit {0}

anything_in : (cut : Cut) → FineIn (λ left. Unit {0}) cut
anything_in (Ok found) = tt
anything_in (Err fault) = tt

none_in : (cut : Cut) → CutsWell NoQuotes cut → FineIn NoQuotes cut
none_in (Ok found) h = h.well.1
none_in (Err fault) h = tt

cut_if : (Is : Token → Type 0) (b : Bool) (x y : Cut) → (b ≡ true → CutIs Is x) → (b ≡ false → CutIs Is y) → CutIs Is (cond b x y)
cut_if Is true x y h k = h refl
cut_if Is false x y h k = k refl

-- a token of a byte and more has bytes
some_bytes : (byte : Option ℕ) (line place b : ℕ) (rest : List Seen) → byte ≡ Some b → 1 ≤ length (bytes_of (record { byte = byte; line = line; place = place } ∷ rest))
some_bytes None line place b rest e = absurd (cc)
some_bytes (Some c) line place b rest e = omega arith

module _ (Is : Token → Type 0) (ends : (token : Token) → is_line_end token.kind ≡ true → Is token) (full : (token : Token) → HasBytes token → Is token) (rules : Rules) where
  word_ended_is : (word : Token) (rest : List Seen) → Is word → CutIs Is (word_ended rules word rest)
  word_ended_is word rest h = cut_if Is rules.cut (option_map_or (λ end. Err (fault_at end TooLong)) (end_in_front rest) (Ok (word, rest))) (Ok (word, rest)) (λ e. by (end_in_front rest)) (λ e. h)
    where
      by : (end : Option Seen) → CutIs Is (option_map_or (λ end. Err (fault_at end TooLong)) end (Ok (word, rest)))
      by None = h
      by (Some end) = tt

  word_cut_is : (seen : Seen) (rest : List Seen) (b : ℕ) → seen.byte ≡ Some b → CutIs Is (word_cut rules seen rest)
  unfolding word_cut
  word_cut_is seen rest b e = word_ended_is _ (behind (in_word rules) rest) (full _ (some_bytes seen.byte seen.line seen.place b (run (in_word rules) rest) e))

  mark_cut_is : (size : ℕ) (seen : Seen) (rest : List Seen) (b : ℕ) → seen.byte ≡ Some b → CutIs Is (mark_cut size seen rest)
  unfolding mark_cut
  mark_cut_is size seen rest b e = full _ (some_bytes seen.byte seen.line seen.place b (take (size - 1) rest) e)

  cut_by_is : (seen : Seen) (rest : List Seen) (byte : Option ℕ) → seen.byte ≡ byte → (option_map_or is_quote byte false ≡ true → CutIs Is (quoted_cut rules seen rest)) → CutIs Is (cut_by rules seen rest byte)
  cut_by_is seen rest None e q = cut_if Is rules.cut (Err (fault_at seen TooLong)) (Ok (token_at seen LineEnd seen.place [], rest)) (λ c. tt) (λ c. ends _ refl)
  cut_by_is seen rest (Some b) e q =
      let last : Cut = cond (is_word_byte rules b) (word_cut rules seen rest) (Err (fault_at seen BadByte)) in
      let marks : Cut = cond (nat_lt 0 (mark_size (seen ∷ rest))) (mark_cut (mark_size (seen ∷ rest)) seen rest) last in
      cut_if Is (is_lf b) (Ok (token_at seen LineEnd (seen.place + 1) [], rest)) (cond (is_quote b) (quoted_cut rules seen rest) marks) (λ c. ends _ refl)
      (λ c. cut_if Is (is_quote b) (quoted_cut rules seen rest) marks q
      (λ c. cut_if Is (nat_lt 0 (mark_size (seen ∷ rest))) (mark_cut (mark_size (seen ∷ rest)) seen rest) last (λ c. mark_cut_is (mark_size (seen ∷ rest)) seen rest b e)
      (λ c. cut_if Is (is_word_byte rules b) (word_cut rules seen rest) (Err (fault_at seen BadByte)) (λ c. word_cut_is seen rest b e) (λ c. tt))))

  -- where a quoted text may begin
  first_cut_is : ((seen : Seen) (more : List Seen) → CutIs Is (quoted_cut rules seen more)) → (rest : List Seen) → CutIs Is (first_cut rules rest)
  unfolding first_cut cut_at
  first_cut_is q rest = by (behind_blanks rules rest)
    where
      by : (left : List Seen) → CutIs Is (first_cut_at rules left)
      by [] = tt
      by (seen ∷ more) = cut_by_is seen more seen.byte refl (λ e. q seen more)

  -- where none does
  plain_cut_is : (rest : List Seen) → NoQuotes rest → CutIs Is (first_cut rules rest)
  unfolding first_cut behind_blanks cut_at
  plain_cut_is rest h = by (behind_comment rules (behind in_blanks rest)) (none_comment rules (behind in_blanks rest) (none_behind in_blanks rest h))
    where
      by : (left : List Seen) → NoQuotes left → CutIs Is (first_cut_at rules left)
      by [] h = tt
      by (seen ∷ more) h = cut_by_is seen more seen.byte refl (λ e. absurd (true≢false (sym e ∙ h.0)))

module _ (Is Now : Token → Type 0) (Fine : List Seen → Type 0) (rules : Rules) (now : (token : Token) → is_line_end token.kind ≡ false → Is token → Now token) (cuts : (rest : List Seen) → Fine rest → CutIs Is (first_cut rules rest) × FineIn Fine (first_cut rules rest)) where
  each_if : (ends : Bool) (found : Token × List Seen) (line : Line) → is_line_end found.0.kind ≡ ends → Is found.0 → Each Now line.tokens → Each Now (cond ends (record { tokens = []; end = Ok found }) (in_front_of (found.0 ∷ []) line)).tokens
  each_if true found line e h k = tt
  each_if false found line e h k = (now found.0 e h, k)

  each_by : (n : ℕ) (cut : Cut) → CutIs Is cut × FineIn Fine cut → ((rest : List Seen) → Fine rest → Each Now (line_in rules n rest).tokens) → Each Now (line_by (line_in rules n) cut).tokens
  each_by n (Err fault) h lines = tt
  each_by n (Ok found) h lines = each_if (is_line_end found.0.kind) found (line_in rules n found.1) refl h.0 (lines found.1 h.1)

  each_in : (n : ℕ) (rest : List Seen) → Fine rest → Each Now (line_in rules n rest).tokens
  unfolding line_in
  each_in zero rest h = tt
  each_in (suc n) rest h = each_by n (first_cut rules rest) (cuts rest h) (each_in n)

  each_of_line : (rest : List Seen) → Fine rest → Each Now (first_line rules rest).tokens
  unfolding first_line
  each_of_line rest h = each_in (length rest) rest h

-- ---- words

-- if it is a word, it has bytes
abbrev pub IsFilled : Token → Type 0
IsFilled token = is_word token.kind ≡ true → HasBytes token

end_no_word : (kind : TokenKind) → is_line_end kind ≡ true → is_word kind ≡ true → ⊥
end_no_word LineEnd e f = true≢false (sym f)
end_no_word Word e f = true≢false (sym e)
end_no_word Quoted e f = true≢false (sym e)
end_no_word Mark e f = true≢false (sym e)

quoted_filled : (rules : Rules) (opening : Seen) (rest : List Seen) → CutIs IsFilled (quoted_cut rules opening rest)
unfolding quoted_cut
quoted_filled rules opening rest = by (behind (in_quotes rules) rest)
  where
    text : List ℕ
    text = bytes_of (run (in_quotes rules) rest)

    by_byte : (seen : Seen) (more : List Seen) (byte : Option ℕ) → CutIs IsFilled (closed_by rules opening text seen more byte)
    by_byte seen more None = tt
    by_byte seen more (Some b) =
        cut_if IsFilled (is_quote b) (Ok (token_at opening Quoted (seen.place + 1) text, more)) (cond (is_lf b) (Err (fault_at opening OpenQuote)) (Err (fault_at seen BadByte))) (λ e f. absurd (true≢false (sym f)))
        (λ e. cut_if IsFilled (is_lf b) (Err (fault_at opening OpenQuote)) (Err (fault_at seen BadByte)) (λ e. tt) (λ e. tt))

    by : (left : List Seen) → CutIs IsFilled (closed rules opening text left)
    by [] = tt
    by (seen ∷ more) = by_byte seen more seen.byte

-- the words of a line have bytes
pub words_filled : (rules : Rules) (rest : List Seen) → Each IsFilled (first_line rules rest).tokens
words_filled rules rest =
    each_of_line IsFilled IsFilled (λ left. Unit {0}) rules (λ token e h. h)
    (λ left u. (first_cut_is IsFilled (λ token e f. absurd (end_no_word token.kind e f)) (λ token h f. h) rules (quoted_filled rules) left, anything_in (first_cut rules left))) rest tt

-- ---- quoted values

-- unless it is the end of the line, it has bytes
abbrev IsFull : Token → Type 0
IsFull token = is_line_end token.kind ≡ false → HasBytes token

-- each token of a quoted value has bytes
pub split_full : (text : List ℕ) → can_be_quoted text ≡ true → Each HasBytes (split text)
unfolding split
split_full text h =
    each_of_line IsFull HasBytes NoQuotes plain_rules (λ token e h. h e)
    (λ left none. (plain_cut_is IsFull (λ token e f. absurd (true≢false (sym e ∙ f))) (λ token h f. h) plain_rules left none, none_in (first_cut plain_rules left) (none_cut plain_rules left none)))
    (joined text) (joined_none false 1 0 text h)
