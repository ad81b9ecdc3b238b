-- Reading a list of tokens from the front: a value and the tokens behind it, or the fault at the first token with which
-- no good text goes on.
use Rattle.std.specs.Prelude.{ℕ, zero, suc, ◌-◌, Bool, false, ◌&&◌, ◌||◌, List, [], ◌∷◌, length, drop, min, Option, None, Some, Result, Ok, Err, if◌then◌else◌, ◌==◌, bytes_eq, codes}
use Rattle.std.specs.List.{list_any, prefix_len}
use Rattle.std.specs.Option.{option_map_or}
use Rattle.net_base.specs.declared.conf.ConfFault.{ConfFault}
use Rattle.net_base.specs.declared.conf.ConfKind.{ConfKind}
use Rattle.net_base.specs.declared.conf.ConfKind.TheVariants.{UnexpectedWord, TooMany}
use Rattle.net_base.specs.declared.conf.Counted.{Counted}
use Rattle.conf_tree.specs.declared.token.Token.{Token}
use Rattle.conf_tree.specs.declared.token.TokenKind.{TokenKind}
use Rattle.conf_tree.specs.Faults.{◌>>=◌}
use Rattle.conf_tree.specs.Kinds.{is_word, is_mark, is_line_end}

-- a value and the tokens behind it
abbrev pub Reading : Type 0 → Type 0
Reading A = Result (A × List Token) ConfFault

-- The line of the first token. The tokens of a text end with a line end, so one is always there.
abbrev pub line_of : List Token → ℕ
line_of [] = 0
line_of (token ∷ tokens) = token.line

-- the fault of this kind at the first token
abbrev pub fails : {A : Type 0} → ConfKind → List Token → Result A ConfFault
fails kind tokens = Err (record { line = line_of tokens; kind = kind })

abbrev pub unexpected : {A : Type 0} → List Token → Result A ConfFault
unexpected tokens = fails UnexpectedWord tokens

-- the tokens behind the first one
abbrev pub behind : List Token → List Token
behind [] = []
behind (token ∷ tokens) = tokens

-- ---- the first token

-- the first token's text, if it is of a kind
unfoldable pub text_of : (TokenKind → Bool) → List Token → Option (List ℕ)
text_of is_kind [] = None
text_of is_kind (token ∷ tokens) = if is_kind token.kind then Some token.text else None

abbrev pub word_of : List Token → Option (List ℕ)
word_of tokens = text_of is_word tokens

-- the first token is this word
unfoldable pub word_is : List ℕ → List Token → Bool
word_is name tokens = option_map_or (bytes_eq name) (word_of tokens) false

-- the first token is one of these words
unfoldable pub word_in : List (List ℕ) → List Token → Bool
word_in names tokens = list_any (λ name. word_is name tokens) names

-- the first token is this mark
unfoldable pub mark_is : List ℕ → List Token → Bool
mark_is name tokens = option_map_or (bytes_eq name) (text_of is_mark tokens) false

-- the first token ends a line
unfoldable pub ends_line : List Token → Bool
ends_line [] = false
ends_line (token ∷ tokens) = is_line_end token.kind

-- ---- what must stand there

unfoldable pub keyword_at : List ℕ → List Token → Result (List Token) ConfFault
keyword_at name tokens = if word_is name tokens then Ok (behind tokens) else unexpected tokens

unfoldable pub mark_at : List ℕ → List Token → Result (List Token) ConfFault
mark_at name tokens = if mark_is name tokens then Ok (behind tokens) else unexpected tokens

unfoldable pub line_end_at : List Token → Result (List Token) ConfFault
line_end_at tokens = if ends_line tokens then Ok (behind tokens) else unexpected tokens

-- ---- brace lists

-- a line end or a comma
abbrev pub is_separator : Token → Bool
is_separator token = is_line_end token.kind || (is_mark token.kind && bytes_eq (codes ",") token.text)

-- the tokens behind separators; the end of the text is none
unfoldable pub after_separators : List Token → List Token
after_separators tokens = drop (min (prefix_len is_separator tokens) (length tokens - 1)) tokens

-- A reader of one member of a list. It is told whether the list has no room for it.
abbrev pub Member : Type 0 → Type 0
Member A = Bool → List Token → Reading A

-- The members up to `}`, with room for so many. There are no more of them than tokens.
unfoldable pub members_at : {A : Type 0} → Member A → ℕ → ℕ → List Token → Reading (List A)
members_at read room zero tokens = unexpected (after_separators tokens)
members_at read room (suc most) tokens =
    if mark_is (codes "}") (after_separators tokens) then Ok ([], behind (after_separators tokens))
    else (do
      first ← read (room == 0) (after_separators tokens)
      others ← members_at read (room - 1) most first.1
      Ok (first.0 ∷ others.0, others.1))

-- the members of a list that may be empty, behind its `{`
unfoldable pub list_at : {A : Type 0} → Member A → ℕ → List Token → Reading (List A)
list_at read room tokens = members_at read room (length tokens) tokens

-- the members of a list that has one at least, behind its `{`
unfoldable pub full_list_at : {A : Type 0} → Member A → ℕ → List Token → Reading (List A)
full_list_at read room tokens = do
  first ← read (room == 0) (after_separators tokens)
  others ← list_at read (room - 1) first.1
  Ok (first.0 ∷ others.0, others.1)

-- one member, or a list of them in braces
unfoldable pub one_or_list_at : {A : Type 0} → Member A → ℕ → List Token → Reading (List A)
one_or_list_at read room tokens =
    if mark_is (codes "{") tokens then full_list_at read room (behind tokens)
    else (do
      only ← read false tokens
      Ok (only.0 ∷ [], only.1))

-- a member, unless the list has no room for it
unfoldable pub unless_full : {A : Type 0} → Bool → Counted → List Token → Result A ConfFault → Result A ConfFault
unless_full full counted tokens reading = if full then fails (TooMany counted) tokens else reading
