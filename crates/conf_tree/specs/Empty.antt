-- The configuration before the first reload.
use Rattle.std.specs.Prelude.{true, false, []}
use Rattle.conf_tree.specs.declared.conf.Conf.{Conf}

-- no AS, no identifier, no networks
abbrev pub empty_conf : Conf
empty_conf = record { asn = 0; router_id = 0; hold = 90; hold_min = 3; fib_update = true; qualify_default = false; med_always = false; socket = []; listen = []; ribs = []; prefix_sets = []; as_sets = []; origin_sets = []; roas = []; networks = []; neighbours = []; rules = [] }
