-- What a text of the configuration language says: its tokens, the draft that they write, and the configuration that the
-- draft stands for; or the first fault of the first of these parts that has one.
use Rattle.std.specs.Prelude.{ℕ, List, Result}
use Rattle.net_base.specs.declared.conf.ConfFault.{ConfFault}
use Rattle.conf_tree.specs.declared.conf.Conf.{Conf}
use Rattle.conf_tree.specs.declared.draft.Draft.{Draft}
use Rattle.conf_tree.specs.Faults.{◌>>=◌}
use Rattle.conf_tree.specs.Tokens.{tokens}
use Rattle.conf_tree.specs.StatementReading.{draft_of}
use Rattle.conf_tree.specs.Checks.{checked}

-- the most bytes of the text of a file or of a `reload`
abbrev pub most_text_bytes : ℕ
most_text_bytes = 1048576

-- the most bytes of a canonical text
abbrev pub most_canonical_bytes : ℕ
most_canonical_bytes = 134217728

-- the draft of a text of at most so many bytes
unfoldable pub draft_within : ℕ → List ℕ → Result Draft ConfFault
draft_within limit text = do
  found ← tokens limit text
  draft_of found

-- the configuration of a text of at most so many bytes, or its first fault
unfoldable pub configuration_within : ℕ → List ℕ → Result Conf ConfFault
configuration_within limit text = do
  draft ← draft_within limit text
  checked draft

-- the configuration of the text of a file or of a `reload`
abbrev pub configuration : List ℕ → Result Conf ConfFault
configuration text = configuration_within most_text_bytes text
