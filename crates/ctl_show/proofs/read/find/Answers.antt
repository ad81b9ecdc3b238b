use Rattle.std.proofs.Common.{sym, ◌∙◌}
use Rattle.ctl_show.proofs.Runs.{found_show, found_rib, found_fib}
use Rattle.ctl_show.proofs.read.find.Goals as goal

pub returns-in-Some : goal.returns-in-Some
returns-in-Some c = found_show c.args.words.now c.in-Some.command c.in-Some.ensures

pub returns-in-Some-2 : goal.returns-in-Some-2
returns-in-Some-2 c =
    found_rib c.args.words.now c.in-Some-2.command c.in_default.ensures (sym c.in-Some-2.is ∙ c.in_ok-command.ensures)

pub returns-in-Some-find_fib : goal.returns-in-Some-find_fib
returns-in-Some-find_fib c =
    found_fib c.args.words.now c.in-Some-find_fib.command c.in_default.ensures (sym c.in_default-2.is ∙ c.in_ok-command.ensures) c.in-Some-find_fib.ensures
