-- The tokens of a configuration text, or its first fault.
use Rattle.std.specs.Prelude.{ℕ, zero, suc, List, [], ◌∷◌, ◌++◌, length, take, Option, Some, None, Result, Ok}
use Rattle.net_base.specs.declared.conf.ConfFault.{ConfFault}
use Rattle.conf_tree.specs.declared.token.Token.{Token}
use Rattle.conf_tree.specs.Joined.{Seen, joined}
use Rattle.conf_tree.specs.Cuts.{Rules, rules_of, Line, first_line}
use Rattle.conf_tree.specs.Faults.{◌>>=◌}
use Rattle.conf_tree.specs.Macros.{Macros, no_macros, with_macro, Expanded, expanded, defined}

-- What a line leaves: its tokens, its end among them; the macros and the size of replacements behind it; the text behind
-- it.
pub record LineRead : Type 0 where
  pub tokens : List Token
  pub macros : Macros
  pub size : ℕ
  pub rest : List Seen

-- a line that defines a macro leaves no token but its end
abbrev pub line_with : Macros → Expanded → (Token × List Seen) → Option (List ℕ × List Token) → LineRead
line_with macros line end None = record { tokens = line.tokens ++ (end.0 ∷ []); macros = macros; size = line.size; rest = end.1 }
line_with macros line end (Some definition) =
    record { tokens = end.0 ∷ []; macros = with_macro macros definition.0 definition.1; size = line.size; rest = end.1 }

-- The first line of a text. The macros of its tokens are looked at before the fault that stands behind them.
abbrev pub line_read_of : Macros → ℕ → Line → Result LineRead ConfFault
line_read_of macros size line = do
  replaced ← expanded macros size line.tokens
  end ← line.end
  Ok (line_with macros replaced end (defined line.tokens replaced.tokens))

unfoldable pub line_read : Rules → Macros → ℕ → List Seen → Result LineRead ConfFault
line_read rules macros size rest = line_read_of macros size (first_line rules rest)

-- The tokens of no more than n lines.
unfoldable pub lines_in : Rules → ℕ → Macros → ℕ → List Seen → Result (List Token) ConfFault
lines_in rules zero macros size rest = Ok []
lines_in rules (suc n) macros size [] = Ok []
lines_in rules (suc n) macros size (seen ∷ rest) = do
  line ← line_read rules macros size (seen ∷ rest)
  more ← lines_in rules n line.macros line.size line.rest
  Ok (line.tokens ++ more)

abbrev pub lines_read : Rules → Macros → ℕ → List Seen → Result (List Token) ConfFault
lines_read rules macros size rest = lines_in rules (length rest) macros size rest

-- The tokens of a text of at most so many bytes, or its first fault.
unfoldable pub tokens : ℕ → List ℕ → Result (List Token) ConfFault
tokens limit text = lines_read (rules_of limit text) no_macros 0 (joined (take limit text))
