-- A line that was read is the line of the definition.
use Rattle.std.specs.Prelude.{◌≡◌, List, Result, Ok, Err}
use Rattle.net_base.specs.declared.conf.ConfFault.{ConfFault}
use Rattle.conf_tree.specs.declared.token.Token.{Token}
use Rattle.conf_tree.specs.Joined.{Seen}
use Rattle.conf_tree.specs.Cuts as cuts
use Rattle.conf_lex.specs.declared.line.Line.{Line}

abbrev pub EndIs : cuts.Cut → Result Token ConfFault → List Seen → Type 0
EndIs said (Ok token) left = said ≡ Ok (token, left)
EndIs said (Err fault) left = said ≡ Err fault

pub record LineIs (said : cuts.Line) (line : Line) (left : List Seen) : Type 0 where
  pub same_tokens : said.tokens ≡ line.tokens
  pub same_end : EndIs said.end line.end left
