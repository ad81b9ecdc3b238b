use Rattle.std.proofs.Common.{codes}
use Rattle.conf_print.proofs.Written.{third_behind}
use Rattle.conf_print.proofs.rules.print_longer.Goals as goal

pub returns : goal.returns
returns c = third_behind c.push-2.result c.args.text.now _ _ _ (codes "prefix-set ") _ (codes " or-longer") c.in_ok-push.ensures c.in_ok-print_prefix_set_name.ensures c.push-2.ensures
