use Rattle.std.proofs.Common.{◌≡◌, ◌++◌, drop, flat_map}
use Rattle.conf_tree.specs.Canonical.{listen_line}
use Rattle.conf_print.proofs.globals.print_listens.Given as goal

-- the text so far, followed by what is to come, is the whole
abbrev pub invariant-loop-listen : goal.invariant-loop-listen
invariant-loop-listen l = l.text ++ flat_map listen_line (drop l.listen-index l.listens) ≡ l.fn.text ++ flat_map listen_line l.listens
