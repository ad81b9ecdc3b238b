use Rattle.conf_print.proofs.neighbours.print_families.Goals as goal

pub returns : goal.returns
returns c = rw (← c.unicast.ensures, ← c.unicast-2.ensures) c.write.ensures
