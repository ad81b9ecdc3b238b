use Rattle.std.proofs.Common.{◌≡◌, subst}
use Rattle.std.specs.Prelude.{IfOk}
use Rattle.conf_tree.specs.Checks.{first_double}
use Rattle.conf_tree.proofs.Orders.{text_same}
use Rattle.conf_check.proofs.doubles.double_text.Goals as goal

pub returns : goal.returns
returns c = subst (λ same. IfOk c.first_double.result (λ line. line ≡ first_double same c.args.names.items)) text_same c.first_double.ensures
