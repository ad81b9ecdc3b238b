use Rattle.conf_tree.specs.Canonical.{fib_update_line}
use Rattle.conf_print.proofs.globals.print_fib_update.Goals as goal

pub returns : goal.returns
unfolding fib_update_line
returns c = rw (← c.yes_no.ensures) c.write.ensures
