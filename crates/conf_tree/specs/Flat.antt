-- The configuration that a text stands for: its globals with their defaults, its lists in order, groups and brace lists
-- expanded to flat neighbours and flat rules, names looked up (bgpd.conf(5)).
use Rattle.std.specs.Prelude.{ℕ, ◌+◌, ◌^◌, true, false, List, [], ◌∷◌, ◌++◌, map, Option, Some, None, option_map, option_and_then, option_to_list, unwrap_or, fold, flat_map, position, bytes_eq, codes, nat_lt, if◌then◌else◌}
use Rattle.std.specs.Option.{option_or}
use Rattle.std.specs.Ordering.{nat_cmp, on, then_cmp}
use Rattle.std.specs.declared.cmp.Ordering.{Ordering}
use Rattle.std.specs.Cmp.Lexicographic.{slice_cmp}
use Rattle.std.specs.BTreeMap.{insert_entry}
use Rattle.std.specs.BTreeSet.{insert_key}
use Rattle.net_base.specs.declared.addr.Family.TheVariants.{V4, V6}
use Rattle.net_base.specs.declared.roa.Roa.{Roa}
use Rattle.net_base.specs.Order.{addr_cmp, prefix_cmp, same_family}
use Rattle.conf_tree.specs.declared.conf.Conf.{Conf}
use Rattle.conf_tree.specs.declared.conf.Network.{Network}
use Rattle.conf_tree.specs.declared.conf.Rib.{Rib}
use Rattle.conf_tree.specs.declared.draft.ConditionBlock.{ConditionBlock}
use Rattle.conf_tree.specs.declared.draft.ConditionBlock.TheVariants as block
use Rattle.conf_tree.specs.declared.draft.NeighbourBlock.{NeighbourBlock}
use Rattle.conf_tree.specs.declared.draft.NeighbourOption.{NeighbourOption}
use Rattle.conf_tree.specs.declared.draft.OptionLine.{OptionLine}
use Rattle.conf_tree.specs.declared.draft.RuleBlock.{RuleBlock}
use Rattle.conf_tree.specs.declared.draft.Statement.{Statement}
use Rattle.conf_tree.specs.declared.draft.Statement.TheVariants as says
use Rattle.conf_tree.specs.declared.draft.StatementLine.{StatementLine}
use Rattle.conf_tree.specs.declared.neighbour.Neighbour.{Neighbour}
use Rattle.conf_tree.specs.declared.rule.Condition.{Condition}
use Rattle.conf_tree.specs.declared.rule.Condition.TheVariants as cond
use Rattle.conf_tree.specs.declared.rule.Peer.{Peer}
use Rattle.conf_tree.specs.declared.rule.Rule.{Rule}
use Rattle.conf_tree.specs.declared.sets.AsSetConf.{AsSetConf}
use Rattle.conf_tree.specs.declared.sets.OriginSetConf.{OriginSetConf}
use Rattle.conf_tree.specs.declared.sets.PrefixRange.{PrefixRange}
use Rattle.conf_tree.specs.declared.sets.PrefixSetConf.{PrefixSetConf}
use Rattle.conf_tree.specs.declared.sets.SetId.{SetId}
use Rattle.conf_tree.specs.declared.sets.SetKind.{SetKind}
use Rattle.conf_tree.specs.declared.sets.SetKind.TheVariants as kinds
use Rattle.conf_tree.specs.Said.{said, last_said, last_option, as_of, router_id_of, hold_of, hold_min_of, fib_update_of, qualify_default_of, med_always_of, socket_of, listen_of, rib_of, prefix_set_of, as_set_of, origin_set_of, roas_of, network_of, rule_of, remote_as_of, local_address_of, description_of, port_of, passive_of, down_of, multihop_of, hold_option_of, hold_min_option_of, announce_v4_of, announce_v6_of, announce_refresh_of, announce_as_4byte_of, max_prefix_of, rib_option_of, set_option_of}

-- ---- orders

-- names go by their bytes
abbrev pub text_cmp : List ℕ → List ℕ → Ordering
text_cmp = slice_cmp nat_cmp

-- entries of a prefix-set go by prefix, then by their bounds
abbrev pub range_cmp : PrefixRange → PrefixRange → Ordering
range_cmp = then_cmp (on (λ r. r.prefix) prefix_cmp) (then_cmp (on (λ r. r.low) nat_cmp) (on (λ r. r.high) nat_cmp))

-- authorizations go by prefix, then by greatest length, then by AS
abbrev pub roa_cmp : Roa → Roa → Ordering
roa_cmp = then_cmp (on (λ r. r.prefix) prefix_cmp) (then_cmp (on (λ r. r.maxlen) nat_cmp) (on (λ r. r.source) nat_cmp))

-- the entries in order, without repeats
abbrev pub in_order : {A : Type 0} → (A → A → Ordering) → List A → List A
in_order cmp entries = fold (insert_key cmp) [] entries

-- one entry more, at the place of its key
abbrev pub with_entry : {K A : Type 0} → (K → K → Ordering) → List (K × A) → K × A → List (K × A)
with_entry cmp sorted entry = insert_entry cmp sorted entry.0 entry.1

-- entries in the order of their keys; of two with one key the last holds
abbrev pub by_key : {K A : Type 0} → (K → K → Ordering) → List (K × A) → List (K × A)
by_key cmp entries = fold (with_entry cmp) [] entries

-- ---- globals and lists

-- the path of the control socket that has none
abbrev pub default_socket : List ℕ
default_socket = codes "bgpd.sock"

abbrev pub prefix_sets_of : List StatementLine → List PrefixSetConf
prefix_sets_of lines = map (λ set. record { name = set.0; entries = set.1 })
    (by_key text_cmp (map (λ set. (set.0, in_order range_cmp set.1)) (said prefix_set_of lines)))

abbrev pub as_sets_of : List StatementLine → List AsSetConf
as_sets_of lines = map (λ set. record { name = set.0; numbers = set.1 })
    (by_key text_cmp (map (λ set. (set.0, in_order nat_cmp set.1)) (said as_set_of lines)))

abbrev pub origin_sets_of : List StatementLine → List OriginSetConf
origin_sets_of lines = map (λ set. record { name = set.0; entries = set.1 })
    (by_key text_cmp (map (λ set. (set.0, in_order roa_cmp set.1)) (said origin_set_of lines)))

-- the entries of several `roa-set`s join
abbrev pub roas_said : List StatementLine → List Roa
roas_said lines = in_order roa_cmp (flat_map (λ l. roas_of l.statement) lines)

-- of two networks of one prefix the last holds
abbrev pub networks_of : List StatementLine → List Network
networks_of lines = map (λ network. record { prefix = network.0; set = network.1 }) (by_key prefix_cmp (said network_of lines))

-- The configuration without its neighbours and rules. Where there is no own AS or no identifier it is 0, and a check refuses.
unfoldable pub frame_of : List StatementLine → Conf
frame_of lines = record {
  asn = unwrap_or (last_said as_of lines) 0;
  router_id = unwrap_or (last_said router_id_of lines) 0;
  hold = unwrap_or (last_said hold_of lines) 90;
  hold_min = unwrap_or (last_said hold_min_of lines) 3;
  fib_update = unwrap_or (last_said fib_update_of lines) true;
  qualify_default = unwrap_or (last_said qualify_default_of lines) false;
  med_always = unwrap_or (last_said med_always_of lines) false;
  socket = unwrap_or (last_said socket_of lines) default_socket;
  listen = said listen_of lines;
  ribs = said rib_of lines;
  prefix_sets = prefix_sets_of lines;
  as_sets = as_sets_of lines;
  origin_sets = origin_sets_of lines;
  roas = roas_said lines;
  networks = networks_of lines;
  neighbours = [];
  rules = [];
}

-- ---- names

-- RIB 0, with kernel table 0
abbrev pub loc_rib : List ℕ
loc_rib = codes "Loc-RIB"

-- a number below a limit
abbrev pub below : ℕ → ℕ → Option ℕ
below limit n = if nat_lt n limit then Some n else None

-- the place, counted from 0, of the first that has this name
abbrev pub place_of : {A : Type 0} → (A → List ℕ) → List A → List ℕ → Option ℕ
place_of name_of entries name = position (λ entry. bytes_eq name (name_of entry)) entries

-- The number of a RIB: they are numbered from 1 on, as they come. It is a number of 8 bits; no text has so many RIBs.
unfoldable pub rib_number : List Rib → List ℕ → Option ℕ
rib_number ribs name =
    if bytes_eq name loc_rib then Some 0
    else option_and_then (λ place. below (2 ^ 8) (place + 1)) (place_of (λ rib. rib.name) ribs name)

-- A set by its kind and its place among those of that kind, a number of 32 bits; no text has so many sets.
abbrev pub set_id : {A : Type 0} → SetKind → (A → List ℕ) → List A → List ℕ → Option SetId
set_id kind name_of sets name =
    option_map (λ place. record { kind = kind; at = place }) (option_and_then (below (2 ^ 32)) (place_of name_of sets name))

unfoldable pub prefix_set_id : Conf → List ℕ → Option SetId
prefix_set_id conf name = set_id kinds.Prefix (λ set. set.name) conf.prefix_sets name

unfoldable pub as_set_id : Conf → List ℕ → Option SetId
as_set_id conf name = set_id kinds.As (λ set. set.name) conf.as_sets name

unfoldable pub origin_set_id : Conf → List ℕ → Option SetId
origin_set_id conf name = set_id kinds.Origin (λ set. set.name) conf.origin_sets name

-- ---- neighbours

-- a neighbour of the text, with the name and the options of its group if it stands in one
pub record Placed : Type 0 where
  pub group : Option (List ℕ)
  pub shared : List OptionLine
  pub block : NeighbourBlock

-- the neighbours of a statement, in the order of the text; the options of a group are those before and behind them
abbrev pub placed_in : Statement → List Placed
placed_in (says.Neighbour own) = record { group = None; shared = []; block = own } ∷ []
placed_in (says.Group group) = map (λ own. record { group = Some group.name; shared = group.options; block = own }) group.neighbours
placed_in _ = []

unfoldable pub placed : List StatementLine → List Placed
placed lines = flat_map (λ l. placed_in l.statement) lines

-- the neighbour's last option of a kind, or else its group's last one
abbrev pub taken : {A : Type 0} → (NeighbourOption → Option A) → Placed → Option A
taken what n = option_or (last_option what n.block.options) (last_option what n.shared)

-- hold times come from the globals where neither the neighbour nor its group has one
unfoldable pub neighbour_of : Conf → Placed → Neighbour
neighbour_of conf n = record {
  address = n.block.address;
  group = n.group;
  remote_as = unwrap_or (taken remote_as_of n) 0;
  local_address = taken local_address_of n;
  description = taken description_of n;
  port = unwrap_or (taken port_of n) 179;
  passive = unwrap_or (taken passive_of n) false;
  down = unwrap_or (taken down_of n) false;
  multihop = taken multihop_of n;
  hold = unwrap_or (taken hold_option_of n) conf.hold;
  hold_min = unwrap_or (taken hold_min_option_of n) conf.hold_min;
  announce_v4 = unwrap_or (taken announce_v4_of n) (same_family n.block.address.family V4);
  announce_v6 = unwrap_or (taken announce_v6_of n) (same_family n.block.address.family V6);
  announce_refresh = unwrap_or (taken announce_refresh_of n) true;
  announce_as_4byte = unwrap_or (taken announce_as_4byte_of n) true;
  max_prefix = taken max_prefix_of n;
  rib = unwrap_or (option_and_then (rib_number conf.ribs) (taken rib_option_of n)) 0;
  set = unwrap_or (taken set_option_of n) [];
}

-- the flat neighbours by address
unfoldable pub neighbours_of : Conf → List Placed → List Neighbour
neighbours_of conf all =
    map (λ entry. entry.1) (by_key addr_cmp (map (λ n. (n.block.address, neighbour_of conf n)) all))

-- ---- rules

-- What a condition asks, as lists of which one is chosen and then a member of it. Each prefix is a list for itself, and the
-- AS numbers are one list, so prefixes are chosen before AS numbers, wherever they stand in the rule.
unfoldable pub ways : Conf → ConditionBlock → List (List Condition)
ways conf (block.Prefixes entries) = map (λ entry. cond.Prefix entry ∷ []) entries
ways conf (block.PrefixSet name) = option_to_list (option_map cond.PrefixSet (prefix_set_id conf name)) ∷ []
ways conf (block.PrefixSetOrLonger name) = option_to_list (option_map cond.PrefixSetOrLonger (prefix_set_id conf name)) ∷ []
ways conf (block.PathNumbers part numbers) = map (cond.PathNumber part) numbers ∷ []
ways conf (block.PathSet part name) = option_to_list (option_map (cond.PathSet part) (as_set_id conf name)) ∷ []
ways conf (block.OriginSet name) = option_to_list (option_map cond.OriginSet (origin_set_id conf name)) ∷ []
ways conf (block.Ovs state) = (cond.Ovs state ∷ []) ∷ []
ways conf (block.Community pattern) = (cond.Community pattern ∷ []) ∷ []
ways conf (block.LargeCommunity pattern) = (cond.LargeCommunity pattern ∷ []) ∷ []
ways conf (block.MaxAsLen most) = (cond.MaxAsLen most ∷ []) ∷ []
ways conf (block.NextHop address) = (cond.NextHop address ∷ []) ∷ []
ways conf (block.Family family) = (cond.Family family ∷ []) ∷ []

-- a choice, followed by each member of a list
unfoldable pub followed_by : {A : Type 0} → List A → List A → List (List A)
followed_by list front = map (λ one. front ++ one ∷ []) list

-- the choices so far, each followed by each member of one more list
abbrev pub chosen : {A : Type 0} → List (List A) → List A → List (List A)
chosen fronts list = flat_map (followed_by list) fronts

-- all choices of one member from each list, the first list outermost
abbrev pub choices : {A : Type 0} → List (List A) → List (List A)
choices lists = fold chosen ([] ∷ []) lists

-- the conditions of the flat rules: prefixes outermost, then AS numbers
unfoldable pub flat_conditions : Conf → List ConditionBlock → List (List Condition)
flat_conditions conf conditions = flat_map choices (choices (map (ways conf) conditions))

unfoldable pub rule_with : Conf → RuleBlock → Peer → List Condition → Rule
rule_with conf rule peer conditions = record {
  action = rule.action;
  quick = rule.quick;
  rib = option_and_then (rib_number conf.ribs) rule.rib;
  direction = rule.direction;
  peer = peer;
  conditions = conditions;
  set = rule.set;
}

-- one rule for each choice of members, peers outermost
unfoldable pub flat_rules : Conf → RuleBlock → List Rule
flat_rules conf rule =
    flat_map (λ peer. map (rule_with conf rule peer) (flat_conditions conf rule.conditions)) rule.peers

unfoldable pub rules_of : Conf → List StatementLine → List Rule
rules_of conf lines = flat_map (flat_rules conf) (said rule_of lines)

-- ---- the whole

-- the configuration of a text that passes the checks
unfoldable pub flat : List StatementLine → Conf
flat lines = record (frame_of lines) {
  neighbours = neighbours_of (frame_of lines) (placed lines);
  rules = rules_of (frame_of lines) lines;
}
