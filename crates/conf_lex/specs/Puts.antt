-- What a call that puts tokens behind others gives.
use Rattle.std.specs.Prelude.{◌≡◌, ℕ, List, ◌++◌, Option, Result, Ok, Err}
use Rattle.std.specs.Option.{option_map_or}
use Rattle.net_base.specs.declared.conf.ConfKind.TheVariants.{UnknownMacro}
use Rattle.net_base.specs.declared.conf.ConfFault.{ConfFault}
use Rattle.net_base.specs.declared.conf.ConfError.{ConfError}
use Rattle.conf_tree.specs.declared.token.Token.{Token}
use Rattle.conf_tree.specs.declared.token.TokenKind.TheVariants.{Word}
use Rattle.conf_tree.specs.Macros as macros
use Rattle.conf_lex.specs.declared.expanding.Expanded.{Expanded}
use Rattle.conf_lex.specs.Gives.{Fails}

-- tokens behind tokens, or the fault
abbrev pub put_behind : List Token → Result macros.Expanded ConfFault → Result macros.Expanded ConfFault
put_behind front (Ok more) = Ok (record { tokens = front ++ more.tokens; size = more.size })
put_behind front (Err fault) = Err fault

abbrev pub expanded_of : Expanded → macros.Expanded
expanded_of e = record { tokens = e.tokens; size = e.size }

abbrev pub Puts : Result macros.Expanded ConfFault → Expanded → Expanded → Result (Unit {0}) ConfError → Type 0
Puts said old new (Ok _) = put_behind old.tokens said ≡ Ok (expanded_of new)
Puts said old new (Err error) = Fails error said

-- the word of a token and the bytes behind it
abbrev pub glued_word : Token → List ℕ → Token
glued_word token more = record { line = token.line; start = token.start; end = token.end; kind = Word; text = token.text ++ more }

abbrev pub Expands : Result macros.Expanded ConfFault → Result Expanded ConfError → Type 0
Expands said (Ok all) = said ≡ Ok (expanded_of all)
Expands said (Err error) = Fails error said

-- what takes the place of a word, where there is something
abbrev pub given_if : Token → ℕ → Option (List Token) → Result macros.Expanded ConfFault
given_if word size value = option_map_or (macros.given word size) value (Err (record { line = word.line; kind = UnknownMacro }))
