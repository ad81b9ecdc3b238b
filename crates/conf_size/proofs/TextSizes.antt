-- The canonical text of a configuration has at most 47 bytes for each named set, and 35651537 besides.
use Rattle.std.proofs.Common.{ℕ, ◌+◌, ◌*◌, ◌≤◌, Bool, true, false, List, length, flat_map, codes, Option, None, Some, arith, length-append}
use Rattle.conf_tree.specs.declared.conf.Conf.{Conf}
use Rattle.conf_tree.specs.declared.conf.Listen.{Listen}
use Rattle.conf_tree.specs.declared.conf.Rib.{Rib}
use Rattle.conf_tree.specs.Canonical.{if_given, quoted, as_line, router_id_line, hold_line, hold_min_line, fib_update_line, qualify_line, med_line, socket_line, listen_line, table_behind, rib_line, network_line, rule_line, globals_text, canonical}
use Rattle.conf_tree.specs.Readable.{IfThere, IsWithin, IsHold, IsAs, IsQuotedText, IsListen, IsRib, IsNetwork, IsRule, IsReadable, IsWithinLimits}
use Rattle.conf_size.specs.Numbers.{sets_of}
use Rattle.conf_size.proofs.ListSizes.{each_size}
use Rattle.conf_size.proofs.AddressSizes.{three_digits, five_digits, v4_size, addr_size}
use Rattle.conf_size.proofs.EntrySizes.{number_digits}
use Rattle.conf_size.proofs.RuleSizes.{quoted_size, set_flag_size, network_size, rule_size}
use Rattle.conf_size.proofs.NeighbourSizes.{hold_digits, yes_no_size, neighbours_size}
use Rattle.conf_size.proofs.SetSizes.{sets_size}

-- ---- global values

as_size : (asn : ℕ) → IsAs asn → length (as_line asn) ≤ 14
unfolding as_line
as_size asn good = omega (arith, number_digits 1 asn good, length-append {A = ℕ})

router_id_size : (bits : ℕ) → length (router_id_line bits) ≤ 26
unfolding router_id_line
router_id_size bits = omega (arith, v4_size bits, length-append {A = ℕ})

hold_size : (seconds : ℕ) → IsHold seconds → length (hold_line seconds) ≤ 15
unfolding hold_line
hold_size seconds good = omega (arith, hold_digits seconds good, length-append {A = ℕ})

hold_min_size : (seconds : ℕ) → IsWithin 3 65535 seconds → length (hold_min_line seconds) ≤ 19
unfolding hold_min_line
hold_min_size seconds good = omega (arith, five_digits seconds good.most, length-append {A = ℕ})

fib_update_size : (updates : Bool) → length (fib_update_line updates) ≤ 15
unfolding fib_update_line
fib_update_size updates = omega (arith, yes_no_size updates, length-append {A = ℕ})

qualify_size : (qualifies : Bool) → length (qualify_line qualifies) ≤ 28
unfolding qualify_line
qualify_size qualifies = set_flag_size qualifies (codes "nexthop qualify via default\n")

med_size : (always : Bool) → length (med_line always) ≤ 23
unfolding med_line
med_size true = omega arith
med_size false = omega arith

socket_size : (path : List ℕ) → IsQuotedText path → length (socket_line path) ≤ 265
unfolding socket_line
socket_size path good = omega (arith, quoted_size path 255 good.short, length-append (quoted path) (codes "\n"))

listen_size : (l : Listen) → IsListen l → length (listen_line l) ≤ 61
unfolding listen_line
listen_size l good = omega (arith, addr_size l.address, five_digits l.port good.most, length-append {A = ℕ})

globals_size : (conf : Conf) → IsReadable conf → IsWithinLimits conf → length (globals_text conf) ≤ 893
unfolding globals_text
globals_size conf good within =
    let listens : length (flat_map listen_line conf.listen) ≤ 61 * length conf.listen = each_size listen_line IsListen 61 conf.listen listen_size good.listen in
    omega (
      arith,
      as_size conf.asn good.asn,
      router_id_size conf.router_id,
      hold_size conf.hold good.hold,
      hold_min_size conf.hold_min good.hold_min,
      fib_update_size conf.fib_update,
      qualify_size conf.qualify_default,
      med_size conf.med_always,
      socket_size conf.socket good.socket,
      listens,
      within.listens,
      length-append {A = ℕ},
    )

-- ---- RIBs

table_size : (table : Option ℕ) → IfThere (IsWithin 1 255) table → length (if_given table_behind table) ≤ 11
table_size None good = omega arith
table_size (Some table) good = omega (arith, three_digits table (omega (arith, good.most)))

rib_size : (r : Rib) → IsRib r → length (rib_line r) ≤ 51
unfolding rib_line
rib_size r good = omega (arith, good.0.short, table_size r.table good.1, length-append {A = ℕ})

-- ---- the whole text

pub canonical_size : (conf : Conf) → IsReadable conf → IsWithinLimits conf → length (canonical conf) ≤ 47 * sets_of conf + 35651537
unfolding canonical
canonical_size conf good within =
    let ribs : length (flat_map rib_line conf.ribs) ≤ 51 * length conf.ribs = each_size rib_line IsRib 51 conf.ribs rib_size good.ribs in
    let networks : length (flat_map network_line conf.networks) ≤ 973 * length conf.networks = each_size network_line IsNetwork 973 conf.networks network_size good.networks in
    let rules : length (flat_map (rule_line conf) conf.rules) ≤ 2150 * length conf.rules = each_size (rule_line conf) (IsRule conf) 2150 conf.rules (rule_size conf) good.rules in
    omega (arith, globals_size conf good within, ribs, sets_size conf good, networks, neighbours_size conf good, rules, within, length-append {A = ℕ})
