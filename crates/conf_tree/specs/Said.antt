-- What the statements of a text say, and the options of a neighbour or a group, each kind for itself (bgpd.conf(5)).
use Rattle.std.specs.Prelude.{ℕ, Bool, true, List, [], Option, Some, None, filter_map}
use Rattle.std.specs.List.{last_or}
use Rattle.net_base.specs.declared.addr.Family.TheVariants.{V4, V6}
use Rattle.net_base.specs.declared.addr.Addr.{Addr}
use Rattle.net_base.specs.declared.prefix.Prefix.{Prefix}
use Rattle.net_base.specs.declared.roa.Roa.{Roa}
use Rattle.conf_tree.specs.declared.conf.Listen.{Listen}
use Rattle.conf_tree.specs.declared.conf.Rib.{Rib}
use Rattle.conf_tree.specs.declared.draft.NeighbourOption.{NeighbourOption}
use Rattle.conf_tree.specs.declared.draft.NeighbourOption.TheVariants as option
use Rattle.conf_tree.specs.declared.draft.OptionLine.{OptionLine}
use Rattle.conf_tree.specs.declared.draft.RuleBlock.{RuleBlock}
use Rattle.conf_tree.specs.declared.draft.Statement.{Statement}
use Rattle.conf_tree.specs.declared.draft.Statement.TheVariants as says
use Rattle.conf_tree.specs.declared.draft.StatementLine.{StatementLine}
use Rattle.conf_tree.specs.declared.rule.Item.{Item}
use Rattle.conf_tree.specs.declared.sets.PrefixRange.{PrefixRange}

-- the last entry of a list
abbrev pub last : {A : Type 0} → List A → Option A
last entries = last_or None entries

-- ---- statements

-- what the statements of one kind say, in the order of the text
abbrev pub said : {A : Type 0} → (Statement → Option A) → List StatementLine → List A
said what lines = filter_map (λ l. what l.statement) lines

-- of a repeated statement the last holds
abbrev pub last_said : {A : Type 0} → (Statement → Option A) → List StatementLine → Option A
last_said what lines = last (said what lines)

abbrev pub as_of : Statement → Option ℕ
as_of (says.As asn) = Some asn
as_of _ = None

abbrev pub router_id_of : Statement → Option ℕ
router_id_of (says.RouterId id) = Some id
router_id_of _ = None

abbrev pub hold_of : Statement → Option ℕ
hold_of (says.Hold seconds) = Some seconds
hold_of _ = None

abbrev pub hold_min_of : Statement → Option ℕ
hold_min_of (says.HoldMin seconds) = Some seconds
hold_min_of _ = None

abbrev pub fib_update_of : Statement → Option Bool
fib_update_of (says.FibUpdate on) = Some on
fib_update_of _ = None

-- `nexthop qualify via default` has no other value
abbrev pub qualify_default_of : Statement → Option Bool
qualify_default_of says.QualifyDefault = Some true
qualify_default_of _ = None

abbrev pub med_always_of : Statement → Option Bool
med_always_of (says.MedCompare always) = Some always
med_always_of _ = None

abbrev pub socket_of : Statement → Option (List ℕ)
socket_of (says.Socket path) = Some path
socket_of _ = None

abbrev pub listen_of : Statement → Option Listen
listen_of (says.Listen listen) = Some listen
listen_of _ = None

abbrev pub rib_of : Statement → Option Rib
rib_of (says.Rib name table) = Some (record { name = name; table = table })
rib_of _ = None

abbrev pub prefix_set_of : Statement → Option (List ℕ × List PrefixRange)
prefix_set_of (says.PrefixSet name entries) = Some (name, entries)
prefix_set_of _ = None

abbrev pub as_set_of : Statement → Option (List ℕ × List ℕ)
as_set_of (says.AsSet name numbers) = Some (name, numbers)
as_set_of _ = None

abbrev pub origin_set_of : Statement → Option (List ℕ × List Roa)
origin_set_of (says.OriginSet name entries) = Some (name, entries)
origin_set_of _ = None

-- the entries of a `roa-set`
abbrev pub roas_of : Statement → List Roa
roas_of (says.RoaSet roas) = roas
roas_of _ = []

abbrev pub network_of : Statement → Option (Prefix × List Item)
network_of (says.Network prefix set) = Some (prefix, set)
network_of _ = None

abbrev pub rule_of : Statement → Option RuleBlock
rule_of (says.Rule block) = Some block
rule_of _ = None

-- ---- options

-- the last option of one kind
abbrev pub last_option : {A : Type 0} → (NeighbourOption → Option A) → List OptionLine → Option A
last_option what options = last (filter_map (λ o. what o.option) options)

abbrev pub remote_as_of : NeighbourOption → Option ℕ
remote_as_of (option.RemoteAs asn) = Some asn
remote_as_of _ = None

abbrev pub local_address_of : NeighbourOption → Option Addr
local_address_of (option.LocalAddress address) = Some address
local_address_of _ = None

abbrev pub description_of : NeighbourOption → Option (List ℕ)
description_of (option.Description text) = Some text
description_of _ = None

abbrev pub port_of : NeighbourOption → Option ℕ
port_of (option.Port port) = Some port
port_of _ = None

-- `passive` and `down` have no other value
abbrev pub passive_of : NeighbourOption → Option Bool
passive_of option.Passive = Some true
passive_of _ = None

abbrev pub down_of : NeighbourOption → Option Bool
down_of option.Down = Some true
down_of _ = None

abbrev pub multihop_of : NeighbourOption → Option ℕ
multihop_of (option.Multihop hops) = Some hops
multihop_of _ = None

abbrev pub hold_option_of : NeighbourOption → Option ℕ
hold_option_of (option.Hold seconds) = Some seconds
hold_option_of _ = None

abbrev pub hold_min_option_of : NeighbourOption → Option ℕ
hold_min_option_of (option.HoldMin seconds) = Some seconds
hold_min_option_of _ = None

abbrev pub announce_v4_of : NeighbourOption → Option Bool
announce_v4_of (option.Announce V4 unicast) = Some unicast
announce_v4_of _ = None

abbrev pub announce_v6_of : NeighbourOption → Option Bool
announce_v6_of (option.Announce V6 unicast) = Some unicast
announce_v6_of _ = None

abbrev pub announce_refresh_of : NeighbourOption → Option Bool
announce_refresh_of (option.AnnounceRefresh on) = Some on
announce_refresh_of _ = None

abbrev pub announce_as_4byte_of : NeighbourOption → Option Bool
announce_as_4byte_of (option.AnnounceAs4Byte on) = Some on
announce_as_4byte_of _ = None

abbrev pub max_prefix_of : NeighbourOption → Option ℕ
max_prefix_of (option.MaxPrefix most) = Some most
max_prefix_of _ = None

-- the name of the neighbour's RIB
abbrev pub rib_option_of : NeighbourOption → Option (List ℕ)
rib_option_of (option.Rib name) = Some name
rib_option_of _ = None

abbrev pub set_option_of : NeighbourOption → Option (List Item)
set_option_of (option.Set items) = Some items
set_option_of _ = None
