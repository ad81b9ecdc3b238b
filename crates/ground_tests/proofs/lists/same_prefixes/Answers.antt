use Rattle.std.proofs.lemmas.Bool.Decides.{Decides-at}
use Rattle.net_base.proofs.Lists.{prefix_list_eq-Decides}
use Rattle.ground_tests.proofs.lists.same_prefixes.Goals as goal

pub returns : goal.returns
returns c = Decides-at c.eq.result _ c.eq.ensures (prefix_list_eq-Decides c.args.one.now c.args.other.now)
