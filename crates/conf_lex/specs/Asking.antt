-- Which tokens ask for a macro, and what a line gives whose macros are replaced.
use Rattle.std.specs.Prelude.{◌≡◌, ℕ, Bool, ◌&&◌, List, is_some, Result, Ok, Err}
use Rattle.net_base.specs.declared.conf.ConfError.{ConfError}
use Rattle.conf_tree.specs.declared.token.Token.{Token}
use Rattle.conf_tree.specs.Kinds.{is_word}
use Rattle.conf_tree.specs.Macros.{Macros, asked, expanded, defined}
use Rattle.conf_lex.specs.declared.definition.Replaced.{Replaced}
use Rattle.conf_lex.specs.Gives.{Fails}
use Rattle.conf_lex.specs.Puts.{expanded_of}

abbrev pub asks_for_macro : Token → Bool
asks_for_macro token = is_word token.kind && is_some (asked token.text)

pub record IsReplaced (macros : Macros) (size : ℕ) (line : List Token) (replaced : Replaced) : Type 0 where
  pub same_line : expanded macros size line ≡ Ok (expanded_of replaced.line)
  pub same_definition : defined line replaced.line.tokens ≡ replaced.definition

abbrev pub Replaces : Macros → ℕ → List Token → Result Replaced ConfError → Type 0
Replaces macros size line (Ok replaced) = IsReplaced macros size line replaced
Replaces macros size line (Err error) = Fails error (expanded macros size line)
