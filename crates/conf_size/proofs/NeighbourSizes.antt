-- A neighbour has at most 1545 bytes, and a group 44 more than its neighbours.
use Rattle.std.proofs.Common.{ℕ, ◌+◌, ◌*◌, ◌≤◌, Bool, true, false, List, ◌++◌, length, codes, decimal, Option, None, Some, flat_map, inl, inr, arith, length-append}
use Rattle.std.specs.Prelude.{filter}
use Rattle.net_base.specs.declared.addr.Addr.{Addr}
use Rattle.conf_tree.specs.declared.conf.Conf.{Conf}
use Rattle.conf_tree.specs.declared.neighbour.Neighbour.{Neighbour}
use Rattle.conf_tree.specs.declared.draft.SetPlace.TheVariants as places
use Rattle.conf_tree.specs.Canonical.{yes_no, if_given, quoted, remote_as_line, local_address_line, descr_line, port_line, multihop_line, way_options, link_options, unicast, hold_options, families_options, capability_options, open_options, max_prefix_line, rib_option, route_options, neighbour_text, group_text, is_alone, is_of_group, group_names, neighbours_text}
use Rattle.conf_tree.specs.Readable.{Each, IfThere, IsWithin, IsHold, IsQuotedText, IsGroupName, IsNeighbour, IsReadable, total, members_of}
use Rattle.conf_tree.proofs.Each.{each_filter}
use Rattle.conf_tree.proofs.GroupNames.{each_group}
use Rattle.conf_size.proofs.ListSizes.{each_size, each_total_size}
use Rattle.conf_size.proofs.AddressSizes.{three_digits, five_digits, addr_size}
use Rattle.conf_size.proofs.EntrySizes.{number_digits}
use Rattle.conf_size.proofs.ItemSizes.{set_option_size}
use Rattle.conf_size.proofs.RuleSizes.{quoted_size, set_flag_size}

given_size : {A : Type 0} (Is : A → Type 0) (text : A → List ℕ) (most : ℕ) (value : Option A) → ((x : A) → Is x → length (text x) ≤ most) → IfThere Is value → length (if_given text value) ≤ most
given_size Is text most None short good = omega arith
given_size Is text most (Some x) short good = short x good

any_size : {A : Type 0} (text : A → List ℕ) (most : ℕ) (value : Option A) → ((x : A) → length (text x) ≤ most) → length (if_given text value) ≤ most
any_size text most None short = omega arith
any_size text most (Some x) short = short x

pub hold_digits : (n : ℕ) → IsHold n → length (decimal n) ≤ 5
hold_digits n (inl none) = five_digits n (omega (arith, none))
hold_digits n (inr within) = five_digits n within.most

-- ---- with whom the session is

remote_as_size : (asn : ℕ) → IsWithin 1 4294967295 asn → length (remote_as_line asn) ≤ 22
unfolding remote_as_line
remote_as_size asn good = omega (arith, number_digits 1 asn good, length-append {A = ℕ})

local_address_size : (address : Addr) → length (local_address_line address) ≤ 55
local_address_size address = omega (arith, addr_size address, length-append {A = ℕ})

descr_size : (text : List ℕ) → IsQuotedText text → length (descr_line text) ≤ 265
descr_size text good = omega (arith, quoted_size text 255 good.short, length-append (quoted text) (codes "\n"))

port_size : (port : ℕ) → IsWithin 1 65535 port → length (port_line port) ≤ 12
unfolding port_line
port_size port good = omega (arith, five_digits port good.most, length-append {A = ℕ})

multihop_size : (hops : ℕ) → IsWithin 1 255 hops → length (multihop_line hops) ≤ 14
multihop_size hops good = omega (arith, three_digits hops (omega (arith, good.most)), length-append {A = ℕ})

way_size : (conf : Conf) (n : Neighbour) → IsNeighbour conf n → length (way_options n) ≤ 29
unfolding way_options
way_size conf n good =
    omega (arith, set_flag_size n.passive (codes "\tpassive\n"), set_flag_size n.down (codes "\tdown\n"), given_size (IsWithin 1 255) multihop_line 14 n.multihop multihop_size good.multihop, length-append {A = ℕ})

link_size : (conf : Conf) (n : Neighbour) → IsNeighbour conf n → length (link_options n) ≤ 383
unfolding link_options
link_size conf n good =
    let address : length (if_given local_address_line n.local_address) ≤ 55 = any_size local_address_line 55 n.local_address local_address_size in
    let description : length (if_given descr_line n.description) ≤ 265 = given_size IsQuotedText descr_line 265 n.description descr_size good.description in
    omega (arith, remote_as_size n.remote_as good.remote_as, address, description, port_size n.port good.port, way_size conf n good, length-append {A = ℕ})

-- ---- what is agreed at its beginning

unicast_size : (flag : Bool) → length (unicast flag) ≤ 7
unicast_size true = omega arith
unicast_size false = omega arith

pub yes_no_size : (flag : Bool) → length (yes_no flag) ≤ 3
yes_no_size true = omega arith
yes_no_size false = omega arith

hold_size : (hold least : ℕ) → IsHold hold → IsWithin 3 65535 least → length (hold_options hold least) ≤ 36
hold_size hold least good good_least = omega (arith, hold_digits hold good, five_digits least good_least.most, length-append {A = ℕ})

families_size : (v4 v6 : Bool) → length (families_options v4 v6) ≤ 46
families_size v4 v6 = omega (arith, unicast_size v4, unicast_size v6, length-append {A = ℕ})

capability_size : (refresh as_4byte : Bool) → length (capability_options refresh as_4byte) ≤ 45
capability_size refresh as_4byte = omega (arith, yes_no_size refresh, yes_no_size as_4byte, length-append {A = ℕ})

open_size : (conf : Conf) (n : Neighbour) → IsNeighbour conf n → length (open_options n) ≤ 127
unfolding open_options
open_size conf n good =
    let first : List ℕ = hold_options n.hold n.hold_min in
    let second : List ℕ = families_options n.announce_v4 n.announce_v6 in
    let third : List ℕ = capability_options n.announce_refresh n.announce_as_4byte in
    omega (arith, hold_size n.hold n.hold_min good.hold good.hold_min, families_size n.announce_v4 n.announce_v6, capability_size n.announce_refresh n.announce_as_4byte, length-append first (second ++ third), length-append second third)

-- ---- what becomes of its routes

max_prefix_size : (most : ℕ) → IsWithin 1 4294967295 most → length (max_prefix_line most) ≤ 23
max_prefix_size most good = omega (arith, number_digits 1 most good, length-append {A = ℕ})

rib_option_size : (conf : Conf) (n : Neighbour) → IsNeighbour conf n → length (rib_option conf n.rib) ≤ 37
unfolding rib_option
rib_option_size conf n good = omega (arith, good.rib.short, length-append {A = ℕ})

route_size : (conf : Conf) (n : Neighbour) → IsNeighbour conf n → length (route_options conf n) ≤ 982
unfolding route_options
route_size conf n good =
    omega (arith, given_size (IsWithin 1 4294967295) max_prefix_line 23 n.max_prefix max_prefix_size good.max_prefix, rib_option_size conf n good, set_option_size places.Neighbour n.set good.set, length-append {A = ℕ})

-- ---- neighbours and groups

neighbour_size : (conf : Conf) (n : Neighbour) → IsNeighbour conf n → length (neighbour_text conf n) ≤ 1545
unfolding neighbour_text
neighbour_size conf n good =
    omega (arith, addr_size n.address, link_size conf n good, open_size conf n good, route_size conf n good, length-append {A = ℕ})

group_size : (conf : Conf) → Each (IsNeighbour conf) conf.neighbours → (name : List ℕ) → IsGroupName name → length (group_text conf name) ≤ 1545 * length (members_of conf name) + 44
unfolding group_text
group_size conf ns name good =
    let members : List ℕ = flat_map (neighbour_text conf) (members_of conf name) in
    let each : length members ≤ 1545 * length (members_of conf name) =
    each_size (neighbour_text conf) (IsNeighbour conf) 1545 (members_of conf name) (neighbour_size conf) (each_filter (IsNeighbour conf) (is_of_group name) conf.neighbours ns) in
    omega (arith, good.short, each, length-append (name ++ codes "\"") (codes " {\n" ++ (members ++ codes "}\n")), length-append name (codes "\""), length-append members (codes "}\n"))

pub neighbours_size : (conf : Conf) → IsReadable conf → length (neighbours_text conf)
    ≤ 1545 * (length (filter is_alone conf.neighbours) + total (λ name. length (members_of conf name)) (group_names conf.neighbours)) + 44 * length (group_names conf.neighbours)
unfolding neighbours_text
neighbours_size conf good =
    let alone : List Neighbour = filter is_alone conf.neighbours in
    let names : List (List ℕ) = group_names conf.neighbours in
    let first : length (flat_map (neighbour_text conf) alone) ≤ 1545 * length alone =
    each_size (neighbour_text conf) (IsNeighbour conf) 1545 alone (neighbour_size conf) (each_filter (IsNeighbour conf) is_alone conf.neighbours good.neighbours) in
    let second : length (flat_map (group_text conf) names) ≤ 1545 * total (λ name. length (members_of conf name)) names + 44 * length names =
    each_total_size (group_text conf) IsGroupName (λ name. length (members_of conf name)) 1545 44 names (group_size conf good.neighbours) (each_group conf conf.neighbours good.neighbours) in
    omega (arith, first, second, length-append (flat_map (neighbour_text conf) alone) (flat_map (group_text conf) names))
