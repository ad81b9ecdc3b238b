-- The crate's own structs as the definitions see them.
use Rattle.conf_tree.specs.Joined as joined_lines
use Rattle.conf_tree.specs.Cuts as cuts
use Rattle.conf_lex.specs.declared.rules.Rules.{Rules}
use Rattle.conf_lex.specs.declared.reader.Seen.{Seen}

abbrev pub seen_of : Seen → joined_lines.Seen
seen_of seen = record { byte = seen.byte; line = seen.line; place = seen.place }

abbrev pub rules_of : Rules → cuts.Rules
rules_of rules = record { strict = rules.strict; bad = rules.bad; cut = rules.cut }
