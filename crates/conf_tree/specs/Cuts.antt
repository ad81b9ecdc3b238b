-- How the joined lines of a text are cut into tokens, before macros are looked at. Blanks and tabs separate tokens, and `#`
-- begins a comment up to the end of the line.
use Rattle.std.specs.Prelude.{ℕ, zero, suc, ◌+◌, ◌-◌, Bool, true, false, not, ◌||◌, ◌&&◌, ◌==◌, nat_lt, nat_le, if◌then◌else◌, List, [], ◌∷◌, ◌++◌, length, take, drop, filter_map, fold, Option, Some, None, Result, Ok, Err}
use Rattle.std.specs.Option.{option_map_or, is_none}
use Rattle.std.specs.Str.Lossy.{utf8_valid_len, utf8_error_len}
use Rattle.net_base.specs.declared.conf.ConfFault.{ConfFault}
use Rattle.net_base.specs.declared.conf.ConfKind.{ConfKind}
use Rattle.net_base.specs.declared.conf.ConfKind.TheVariants.{TooLong, BadByte, OpenQuote}
use Rattle.conf_tree.specs.declared.token.Token.{Token}
use Rattle.conf_tree.specs.declared.token.TokenKind.{TokenKind}
use Rattle.conf_tree.specs.declared.token.TokenKind.TheVariants.{Word, Quoted, Mark, LineEnd}
use Rattle.conf_tree.specs.Kinds.{is_line_end}
use Rattle.conf_tree.specs.Joined.{Seen, is_lf, joined}

-- What the tokens of a text depend on beside its bytes.
pub record Rules : Type 0 where
  -- whether only printable ASCII, blanks, tabs and LF may stand outside quotes; otherwise any byte may
  pub strict : Bool
  -- the place of the first byte that is no UTF-8
  pub bad : ℕ
  -- whether the end of the text is a limit behind which more bytes stand
  pub cut : Bool

-- the byte in front passes a test
abbrev pub byte_is : (ℕ → Bool) → Seen → Bool
byte_is test seen = option_map_or test seen.byte false

abbrev pub front_is : (ℕ → Bool) → List Seen → Bool
front_is test [] = false
front_is test (seen ∷ rest) = byte_is test seen

-- The classes of bytes: blank and tab; 0x21 to 0x7e; the marks of one byte; `<` and `>`, which are marks before `=`; `"`;
-- `#`.
abbrev pub is_blank : ℕ → Bool
is_blank b = (b == 32) || (b == 9)

abbrev pub is_printable : ℕ → Bool
is_printable b = nat_le 33 b && nat_le b 126

abbrev pub is_equals : ℕ → Bool
is_equals b = b == 61

abbrev pub is_mark : ℕ → Bool
is_mark b = ((b == 123) || (b == 125)) || ((b == 44) || is_equals b)

abbrev pub is_compare : ℕ → Bool
is_compare b = (b == 60) || (b == 62)

abbrev pub is_quote : ℕ → Bool
is_quote b = b == 34

abbrev pub is_hash : ℕ → Bool
is_hash b = b == 35

-- how many bytes the mark in front has, or 0 where there is none
abbrev pub mark_size : List Seen → ℕ
mark_size [] = 0
mark_size (seen ∷ rest) = if byte_is is_mark seen then 1 else (if byte_is is_compare seen && front_is is_equals rest then 2 else 0)

-- the bytes of comments
abbrev pub is_comment_byte : Rules → ℕ → Bool
is_comment_byte rules b = if rules.strict then is_printable b || is_blank b else not (is_lf b)

-- the bytes that words are made of, where no mark begins at them
abbrev pub is_word_byte : Rules → ℕ → Bool
is_word_byte rules b = not (is_quote b || is_hash b) && (if rules.strict then is_printable b else not (is_blank b || is_lf b))

-- Whether blanks, a comment, a word or a quoted text go on with the byte in front.
abbrev pub in_blanks : List Seen → Bool
in_blanks rest = front_is is_blank rest

abbrev pub in_comment : Rules → List Seen → Bool
in_comment rules rest = front_is (is_comment_byte rules) rest

abbrev pub in_word : Rules → List Seen → Bool
in_word rules rest = front_is (is_word_byte rules) rest && (mark_size rest == 0)

abbrev pub in_quotes : Rules → List Seen → Bool
in_quotes rules [] = false
in_quotes rules (seen ∷ rest) = byte_is (λ b. not (is_quote b || is_lf b)) seen && not (seen.place == rules.bad)

-- the longest run of bytes in front with each of which it goes on, and what stands behind it
unfoldable pub run : (List Seen → Bool) → List Seen → List Seen
run goes_on [] = []
run goes_on (seen ∷ rest) = if goes_on (seen ∷ rest) then seen ∷ run goes_on rest else []

unfoldable pub behind : (List Seen → Bool) → List Seen → List Seen
behind goes_on [] = []
behind goes_on (seen ∷ rest) = if goes_on (seen ∷ rest) then behind goes_on rest else seen ∷ rest

-- the bytes, and the place behind the last one, which is `end` where there are none
abbrev pub bytes_of : List Seen → List ℕ
bytes_of seen = filter_map (λ s. s.byte) seen

abbrev pub end_of : ℕ → List Seen → ℕ
end_of end seen = fold (λ _ s. s.place + 1) end seen

-- a token that begins at this byte
abbrev pub token_at : Seen → TokenKind → ℕ → List ℕ → Token
token_at seen kind end text = record { line = seen.line; start = seen.place; end = end; kind = kind; text = text }

abbrev pub fault_at : Seen → ConfKind → ConfFault
fault_at seen kind = record { line = seen.line; kind = kind }

-- A token and what stands behind it, or the first fault.
abbrev pub Cut : Type 0
Cut = Result (Token × List Seen) ConfFault

-- The end of the text ends its last line, unless it is a limit.
abbrev pub text_end : Rules → Seen → List Seen → Cut
text_end rules seen rest =
    if rules.cut then Err (fault_at seen TooLong) else Ok (token_at seen LineEnd seen.place [], rest)

-- A quoted text that begins at `opening`, behind whose bytes these stand. At a limit its `"` may follow.
abbrev pub closed_by : Rules → Seen → List ℕ → Seen → List Seen → Option ℕ → Cut
closed_by rules opening text seen rest None = Err (if rules.cut then fault_at seen TooLong else fault_at opening OpenQuote)
closed_by rules opening text seen rest (Some b) =
    if is_quote b then Ok (token_at opening Quoted (seen.place + 1) text, rest)
    else (if is_lf b then Err (fault_at opening OpenQuote) else Err (fault_at seen BadByte))

abbrev pub closed : Rules → Seen → List ℕ → List Seen → Cut
closed rules opening text [] = Err (fault_at opening OpenQuote)
closed rules opening text (seen ∷ rest) = closed_by rules opening text seen rest seen.byte

unfoldable pub quoted_cut : Rules → Seen → List Seen → Cut
quoted_cut rules opening rest = closed rules opening (bytes_of (run (in_quotes rules) rest)) (behind (in_quotes rules) rest)

-- a token of the bytes that stand from this one on
abbrev pub token_of : TokenKind → Seen → List Seen → Token
token_of kind seen more = token_at seen kind (end_of seen.place (seen ∷ more)) (bytes_of (seen ∷ more))

-- a mark of so many bytes
unfoldable pub mark_cut : ℕ → Seen → List Seen → Cut
mark_cut size seen rest = Ok (token_of Mark seen (take (size - 1) rest), drop (size - 1) rest)

-- A word. One that reaches a limit may go on behind it, so it isn't looked at.
abbrev pub end_in_front : List Seen → Option Seen
end_in_front [] = None
end_in_front (seen ∷ rest) = if is_none seen.byte then Some seen else None

abbrev pub word_ended : Rules → Token → List Seen → Cut
word_ended rules word rest =
    if rules.cut then option_map_or (λ end. Err (fault_at end TooLong)) (end_in_front rest) (Ok (word, rest)) else Ok (word, rest)

unfoldable pub word_cut : Rules → Seen → List Seen → Cut
word_cut rules seen rest = word_ended rules (token_of Word seen (run (in_word rules) rest)) (behind (in_word rules) rest)

-- The token that begins with a byte that is no blank and begins no comment.
abbrev pub cut_by : Rules → Seen → List Seen → Option ℕ → Cut
cut_by rules seen rest None = text_end rules seen rest
cut_by rules seen rest (Some b) =
    if is_lf b then Ok (token_at seen LineEnd (seen.place + 1) [], rest)
    else (if is_quote b then quoted_cut rules seen rest
    else (if nat_lt 0 (mark_size (seen ∷ rest)) then mark_cut (mark_size (seen ∷ rest)) seen rest
    else (if is_word_byte rules b then word_cut rules seen rest
    else Err (fault_at seen BadByte))))

unfoldable pub cut_at : Rules → Seen → List Seen → Cut
cut_at rules seen rest = cut_by rules seen rest seen.byte

-- What stands behind the blanks in front, and behind the comment that may follow them.
abbrev pub behind_comment : Rules → List Seen → List Seen
behind_comment rules rest = if front_is is_hash rest then behind (in_comment rules) rest else rest

unfoldable pub behind_blanks : Rules → List Seen → List Seen
behind_blanks rules rest = behind_comment rules (behind in_blanks rest)

-- The first token. A text of which not even the end is left has none, but nobody asks for it.
abbrev pub nothing_left : ConfFault
nothing_left = record { line = 0; kind = BadByte }

abbrev pub first_cut_at : Rules → List Seen → Cut
first_cut_at rules [] = Err nothing_left
first_cut_at rules (seen ∷ rest) = cut_at rules seen rest

unfoldable pub first_cut : Rules → List Seen → Cut
first_cut rules rest = first_cut_at rules (behind_blanks rules rest)

-- The tokens of a joined line, and its end with what stands behind it, or the fault before it.
pub record Line : Type 0 where
  pub tokens : List Token
  pub end : Cut

abbrev pub in_front_of : List Token → Line → Line
in_front_of tokens line = record { tokens = tokens ++ line.tokens; end = line.end }

-- A line that begins with this, where `line` gives the line that is left behind its first token.
abbrev pub line_by : (List Seen → Line) → Cut → Line
line_by line (Err fault) = record { tokens = []; end = Err fault }
line_by line (Ok found) =
    if is_line_end found.0.kind then record { tokens = []; end = Ok found } else in_front_of (found.0 ∷ []) (line found.1)

-- the first line of no more than n tokens
unfoldable pub line_in : Rules → ℕ → List Seen → Line
line_in rules zero rest = record { tokens = []; end = Err nothing_left }
line_in rules (suc n) rest = line_by (line_in rules n) (first_cut rules rest)

unfoldable pub first_line : Rules → List Seen → Line
first_line rules rest = line_in rules (length rest) rest

-- The rules of a text up to a limit: all bytes behind it count for is whether there is one. A character that the limit
-- cuts through is not looked at.
abbrev pub bad_place : Bool → List ℕ → ℕ
bad_place cut text =
    if cut && is_none (utf8_error_len (drop (utf8_valid_len text) text)) then length text else utf8_valid_len text

abbrev pub is_cut : ℕ → List ℕ → Bool
is_cut limit text = nat_lt limit (length text)

abbrev pub rules_of : ℕ → List ℕ → Rules
rules_of limit text = record { strict = true; bad = bad_place (is_cut limit text) (take limit text); cut = is_cut limit text }

-- The tokens of the text of a quoted value: any byte may stand there, so there are no faults.
abbrev pub plain_rules : Rules
plain_rules = record { strict = false; bad = 0; cut = false }

unfoldable pub split : List ℕ → List Token
split text = (first_line plain_rules (joined text)).tokens
