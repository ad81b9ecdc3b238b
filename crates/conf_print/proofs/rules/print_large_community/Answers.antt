use Rattle.std.proofs.Common.{codes}
use Rattle.conf_print.proofs.Written.{second_behind}
use Rattle.conf_print.proofs.rules.print_large_community.Goals as goal

pub returns : goal.returns
returns c = second_behind c.print_large_pattern.result c.args.text.now _ _ (codes "large-community ") _ c.in_ok-push.ensures c.print_large_pattern.ensures
