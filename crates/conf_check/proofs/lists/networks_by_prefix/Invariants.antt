use Rattle.std.proofs.Common.{◌≡◌, drop}
use Rattle.std.specs.Prelude.{fold}
use Rattle.net_base.specs.Order.{prefix_cmp}
use Rattle.conf_tree.specs.Said.{said, network_of}
use Rattle.conf_tree.specs.Flat.{with_entry}
use Rattle.conf_check.specs.Lists.{networks_by_prefix}
use Rattle.conf_check.proofs.lists.networks_by_prefix.Given as goal

abbrev pub invariant-loop-line : goal.invariant-loop-line
invariant-loop-line l = fold (with_entry prefix_cmp) l.networks.entries (said network_of (drop l.line-index l.lines)) ≡ networks_by_prefix l.lines
