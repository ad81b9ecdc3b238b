use Rattle.conf_print.proofs.neighbours.print_capabilities.Goals as goal

pub returns : goal.returns
returns c = rw (← c.yes_no.ensures, ← c.yes_no-2.ensures) c.write.ensures
