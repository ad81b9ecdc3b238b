-- The tokens of a text by its statements.
use Rattle.std.specs.Prelude.{◌≡◌, ℕ, List, [], ◌∷◌, ◌++◌, Ok, Err}
use Rattle.net_base.specs.declared.conf.ConfFault.{ConfFault}
use Rattle.conf_tree.specs.declared.draft.StatementLine.{StatementLine}
use Rattle.conf_tree.specs.declared.token.Token.{Token}
use Rattle.conf_tree.specs.StatementReading.{Room, room_behind, statement_line_at, after_empty_lines, draft_of}
use Rattle.conf_tree.specs.Tokens.{tokens}
use Rattle.conf_tree.specs.Language.{draft_within}
use Rattle.conf_local.specs.Texts.{IsText}

-- these tokens say this statement, whatever stands behind them
pub record IsSaidBy (room : Room) (line : StatementLine) (own : List Token) : Type 0 where
  pub whatever_follows : (other : List Token) → IsText (own ++ other) → statement_line_at room (own ++ other) ≡ Ok (line, other)

-- The tokens of statements, one after the other: line ends, and the tokens of each; behind the last there are line ends alone.
abbrev pub AreTokensOf : Room → List Token → List StatementLine → Type 0
AreTokensOf room tokens [] = after_empty_lines tokens ≡ []
AreTokensOf room tokens (line ∷ lines) =
    (own : List Token) × (rest : List Token) × (after_empty_lines tokens ≡ own ++ rest) × IsSaidBy room line own × AreTokensOf (room_behind room line.statement) rest lines

-- A fault stands at a token of these, and what is behind that token never matters.
pub record StandsAtToken (tokens : List Token) (fault : ConfFault) : Type 0 where
  pub front : List Token
  pub token : Token
  pub behind : List Token
  pub parts : tokens ≡ front ++ (token ∷ behind)
  pub line : fault.line ≡ token.line
  pub whatever_follows : (other : List Token) → IsText (front ++ (token ∷ other)) → draft_of (front ++ (token ∷ other)) ≡ Err fault

-- and so of texts: every text that has the same tokens up to that of the fault has this fault
pub record IsFaultOfToken (found : List Token) (fault : ConfFault) : Type 0 where
  pub front : List Token
  pub token : Token
  pub behind : List Token
  pub parts : found ≡ front ++ (token ∷ behind)
  pub line : fault.line ≡ token.line
  pub same_fault : (limit : ℕ) (text : List ℕ) (other : List Token) → tokens limit text ≡ Ok (front ++ (token ∷ other)) → draft_within limit text ≡ Err fault
