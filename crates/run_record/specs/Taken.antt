-- What the speaker takes of the configuration language so far. A text that has a configuration, and a statement that
-- isn't built yet, is refused at the first such line.
use Rattle.std.specs.Prelude.{ℕ, Bool, true, false, not, List, [], ◌∷◌, find, Option, Some, None, option_map, Result, Ok, Err}
use Rattle.net_base.specs.declared.conf.ConfFault.{ConfFault}
use Rattle.net_base.specs.declared.conf.ConfKind.TheVariants.{NotBuilt}
use Rattle.conf_tree.specs.declared.conf.Conf.{Conf}
use Rattle.conf_tree.specs.declared.rule.Item.{Item}
use Rattle.conf_tree.specs.declared.draft.Statement.{Statement}
use Rattle.conf_tree.specs.declared.draft.Statement.TheVariants as says
use Rattle.conf_tree.specs.declared.draft.StatementLine.{StatementLine}
use Rattle.conf_tree.specs.declared.draft.Draft.{Draft}
use Rattle.conf_tree.specs.Faults.{◌>>=◌}
use Rattle.conf_tree.specs.Language.{draft_within, most_text_bytes}
use Rattle.conf_tree.specs.Checks.{checked}

-- nothing is set
abbrev pub is_no_set : List Item → Bool
is_no_set [] = true
is_no_set (item ∷ items) = false

-- the own AS and identifier, the kernel switch, the sockets, and networks without a set
abbrev pub is_built : Statement → Bool
is_built (says.As asn) = true
is_built (says.RouterId id) = true
is_built (says.FibUpdate on) = true
is_built (says.Socket path) = true
is_built (says.Listen listen) = true
is_built (says.Network prefix set) = is_no_set set
is_built _ = false

-- the line of the first statement that isn't built
abbrev pub first_not_built : List StatementLine → Option ℕ
first_not_built lines = option_map (λ l. l.line) (find (λ l. not (is_built l.statement)) lines)

-- a configuration, unless a statement at this line isn't built
abbrev pub unless_not_built : Option ℕ → Conf → Result Conf ConfFault
unless_not_built None conf = Ok conf
unless_not_built (Some line) conf = Err (record { line = line; kind = NotBuilt })

-- the configuration that the draft of a text brings
unfoldable pub taken_of : Draft → Result Conf ConfFault
taken_of draft = do
  conf ← checked draft
  unless_not_built (first_not_built draft.statements) conf

-- the configuration that the text of a `reload` brings, or the fault for which it is refused
unfoldable pub taken : List ℕ → Result Conf ConfFault
taken text = do
  draft ← draft_within most_text_bytes text
  taken_of draft
