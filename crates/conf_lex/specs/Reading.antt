-- What a call gives that reads a line.
use Rattle.std.specs.Prelude.{◌≡◌, ℕ, List, ◌++◌, Result, Ok, Err}
use Rattle.net_base.specs.declared.conf.ConfFault.{ConfFault}
use Rattle.net_base.specs.declared.conf.ConfError.{ConfError}
use Rattle.conf_tree.specs.declared.token.Token.{Token}
use Rattle.conf_tree.specs.Joined.{Seen}
use Rattle.conf_tree.specs.Tokens.{LineRead}
use Rattle.conf_lex.specs.declared.macros.Macros.{Macros}
use Rattle.conf_lex.specs.Gives.{Fails}
use Rattle.conf_lex.specs.Tables.{macros_of}

-- a line behind tokens
abbrev pub put_line : List Token → LineRead → LineRead
put_line front line = record { tokens = front ++ line.tokens; macros = line.macros; size = line.size; rest = line.rest }

abbrev pub put_read : List Token → Result LineRead ConfFault → Result LineRead ConfFault
put_read front (Ok line) = Ok (put_line front line)
put_read front (Err fault) = Err fault

-- a call that puts the tokens of a line behind others: the tokens, macros and text that it leaves, and the size of
-- replacements that it answers
abbrev pub PutsLine : Result LineRead ConfFault → List Token → List Token → Macros → List Seen → Result ℕ ConfError → Type 0
PutsLine said old new macros left (Ok size) = put_read old said ≡ Ok (record { tokens = new; macros = macros_of macros; size = size; rest = left })
PutsLine said old new macros left (Err error) = Fails error said

-- tokens behind tokens
abbrev pub put_tokens : List Token → Result (List Token) ConfFault → Result (List Token) ConfFault
put_tokens front (Ok more) = Ok (front ++ more)
put_tokens front (Err fault) = Err fault
