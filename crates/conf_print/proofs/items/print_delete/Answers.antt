use Rattle.std.proofs.Common.{codes}
use Rattle.conf_print.proofs.Written.{second_behind}
use Rattle.conf_print.proofs.items.print_delete.Goals as goal

pub returns : goal.returns
returns c = second_behind c.print_pattern.result c.args.text.now _ _ (codes "community delete ") _ c.in_ok-push.ensures c.print_pattern.ensures
