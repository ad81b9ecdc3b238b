-- A configuration without its neighbours and rules, which are looked up in it.
use Rattle.std.proofs.Common.{List, []}
use Rattle.conf_tree.specs.declared.conf.Conf.{Conf}
use Rattle.conf_tree.specs.declared.draft.StatementLine.{StatementLine}
use Rattle.conf_tree.specs.CanonicalDraft.{canonical_draft}

abbrev pub framed : Conf → Conf
framed conf = record conf { neighbours = []; rules = [] }

-- the statements of a canonical text
abbrev pub lines_back : Conf → List StatementLine
lines_back conf = (canonical_draft conf).statements
