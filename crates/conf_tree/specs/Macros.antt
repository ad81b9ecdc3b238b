-- Macros. `NAME = value` at the beginning of a line defines NAME, and `$NAME` is replaced by the tokens of the latest
-- definition above it.
use Rattle.std.specs.Prelude.{ℕ, ◌+◌, Bool, ◌&&◌, ◌==◌, nat_le, if◌then◌else◌, List, [], ◌∷◌, ◌++◌, length, take, drop, map, sum_by, bytes_eq, Option, Some, None, option_map, option_and_then, Result, Ok, Err}
use Rattle.std.specs.Option.{option_map_or}
use Rattle.std.specs.List.{list_all, prefix_len}
use Rattle.std.specs.Char.{is_ascii_alphabetic}
use Rattle.net_base.specs.declared.conf.ConfFault.{ConfFault}
use Rattle.net_base.specs.declared.conf.ConfKind.TheVariants.{TooLong, UnknownMacro}
use Rattle.conf_tree.specs.declared.token.Token.{Token}
use Rattle.conf_tree.specs.declared.token.TokenKind.TheVariants.{Word}
use Rattle.conf_tree.specs.Faults.{◌>>=◌}
use Rattle.conf_tree.specs.Kinds.{is_word, is_quoted, is_mark}
use Rattle.conf_tree.specs.Names.{is_name_byte, is_name}
use Rattle.conf_tree.specs.Cuts.{split}

-- What each NAME stands for at a line: the value of its latest definition above.
abbrev pub Macros : Type 0
Macros = List ℕ → Option (List Token)

abbrev pub no_macros : Macros
no_macros name = None

abbrev pub with_macro : Macros → List ℕ → List Token → Macros
with_macro macros name value other = if bytes_eq name other then Some value else macros other

-- The NAME behind the `$` with which a word begins, as long as can be, and the further bytes; None where there is none.
abbrev pub asked_name : List ℕ → Option (List ℕ × List ℕ)
asked_name [] = None
asked_name (b ∷ text) =
    if is_ascii_alphabetic b then Some (b ∷ take (prefix_len is_name_byte text) text, drop (prefix_len is_name_byte text) text) else None

abbrev pub asked : List ℕ → Option (List ℕ × List ℕ)
asked [] = None
asked (b ∷ text) = if b == 36 then asked_name text else None

-- A value and then further bytes: before any, it must be one token, and the whole is a word.
abbrev pub glued : List Token → List ℕ → Option (List Token)
glued [] more = None
glued (token ∷ []) more = Some ((record { line = token.line; start = token.start; end = token.end; kind = Word; text = token.text ++ more }) ∷ [])
glued (token ∷ another ∷ others) more = None

abbrev pub followed : List Token → List ℕ → Option (List Token)
followed value [] = Some value
followed value (b ∷ more) = glued value (b ∷ more)

-- Tokens, and how many bytes replacements have given by then.
pub record Expanded : Type 0 where
  pub tokens : List Token
  pub size : ℕ

-- the most bytes that the replacements of a text give
abbrev pub most_replaced : ℕ
most_replaced = 1048576

abbrev pub text_size : List Token → ℕ
text_size tokens = sum_by (λ token. length token.text) tokens

-- tokens in the place of a word
abbrev pub moved : Token → Token → Token
moved word token = record { line = word.line; start = word.start; end = word.end; kind = token.kind; text = token.text }

abbrev pub given : Token → ℕ → List Token → Result Expanded ConfFault
given word size tokens =
    if nat_le (size + text_size tokens) most_replaced then Ok (record { tokens = map (moved word) tokens; size = size + text_size tokens })
    else Err (record { line = word.line; kind = TooLong })

abbrev pub given_for : Macros → ℕ → Token → (List ℕ × List ℕ) → Result Expanded ConfFault
given_for macros size word asking =
    option_map_or (given word size) (option_and_then (λ value. followed value asking.1) (macros asking.0)) (Err (record { line = word.line; kind = UnknownMacro }))

-- What a token gives. Only a word that begins with `$NAME` is replaced.
abbrev pub unchanged : ℕ → Token → Expanded
unchanged size token = record { tokens = token ∷ []; size = size }

unfoldable pub replaced : Macros → ℕ → Token → Result Expanded ConfFault
replaced macros size token =
    if is_word token.kind then option_map_or (given_for macros size token) (asked token.text) (Ok (unchanged size token))
    else Ok (unchanged size token)

-- the tokens of a line with its macros replaced, or the first fault
abbrev pub expanded : Macros → ℕ → List Token → Result Expanded ConfFault
expanded macros size [] = Ok (record { tokens = []; size = size })
expanded macros size (token ∷ tokens) = do
  here ← replaced macros size token
  more ← expanded macros here.size tokens
  Ok (record { tokens = here.tokens ++ more.tokens; size = more.size })

-- The value that stands behind `NAME =`, also with its macros replaced: words or nothing, or one quoted text, which is
-- split into tokens.
abbrev pub quoted_value : List Token → Option (List Token)
quoted_value [] = None
quoted_value (token ∷ []) = if is_quoted token.kind then Some (split token.text) else None
quoted_value (token ∷ another ∷ others) = None

abbrev pub value_of : List Token → List Token → Option (List Token)
value_of tokens replaced = if list_all (λ token. is_word token.kind) tokens then Some replaced else quoted_value tokens

-- The NAME and the value that a line defines, of whose tokens the second list has the macros replaced; None where it
-- isn't of that form.
abbrev pub begins_definition : Token → Token → Bool
begins_definition name equals = (is_word name.kind && is_name name.text) && (is_mark equals.kind && bytes_eq equals.text (61 ∷ []))

abbrev pub defined : List Token → List Token → Option (List ℕ × List Token)
defined [] replaced = None
defined (name ∷ []) replaced = None
defined (name ∷ equals ∷ value) replaced =
    if begins_definition name equals then option_map (λ tokens. (name.text, tokens)) (value_of value (drop 2 replaced)) else None
