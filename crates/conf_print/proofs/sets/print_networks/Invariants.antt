use Rattle.std.proofs.Common.{◌≡◌, ◌++◌, drop, flat_map}
use Rattle.conf_tree.specs.Canonical.{network_line}
use Rattle.conf_print.proofs.sets.print_networks.Given as goal

-- the text so far, followed by what is to come, is the whole
abbrev pub invariant-loop-network : goal.invariant-loop-network
invariant-loop-network l = l.text ++ flat_map network_line (drop l.network-index l.networks) ≡ l.fn.text ++ flat_map network_line l.networks
