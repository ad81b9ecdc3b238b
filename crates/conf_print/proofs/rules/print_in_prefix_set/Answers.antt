use Rattle.std.proofs.Common.{codes}
use Rattle.conf_print.proofs.Written.{second_behind}
use Rattle.conf_print.proofs.rules.print_in_prefix_set.Goals as goal

pub returns : goal.returns
returns c = second_behind c.print_prefix_set_name.result c.args.text.now _ _ (codes "prefix-set ") _ c.in_ok-push.ensures c.print_prefix_set_name.ensures
