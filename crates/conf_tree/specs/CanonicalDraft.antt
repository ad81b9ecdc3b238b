-- The draft that the canonical text of a configuration writes: its statements, each with the line on which it begins.
use Rattle.std.specs.Prelude.{ℕ, ◌+◌, Bool, true, false, List, [], ◌∷◌, ◌++◌, length, map, filter, Option, None, Some, option_map}
use Rattle.net_base.specs.declared.addr.Family.TheVariants.{V4, V6}
use Rattle.net_base.specs.declared.roa.Roa.{Roa}
use Rattle.conf_tree.specs.declared.conf.Conf.{Conf}
use Rattle.conf_tree.specs.declared.conf.Listen.{Listen}
use Rattle.conf_tree.specs.declared.conf.Network.{Network}
use Rattle.conf_tree.specs.declared.conf.Rib.{Rib}
use Rattle.conf_tree.specs.declared.draft.ConditionBlock.{ConditionBlock}
use Rattle.conf_tree.specs.declared.draft.ConditionBlock.TheVariants as blocks
use Rattle.conf_tree.specs.declared.draft.Draft.{Draft}
use Rattle.conf_tree.specs.declared.draft.NeighbourBlock.{NeighbourBlock}
use Rattle.conf_tree.specs.declared.draft.NeighbourOption.{NeighbourOption}
use Rattle.conf_tree.specs.declared.draft.NeighbourOption.TheVariants as options
use Rattle.conf_tree.specs.declared.draft.OptionLine.{OptionLine}
use Rattle.conf_tree.specs.declared.draft.RuleBlock.{RuleBlock}
use Rattle.conf_tree.specs.declared.draft.Statement.{Statement}
use Rattle.conf_tree.specs.declared.draft.Statement.TheVariants as says
use Rattle.conf_tree.specs.declared.draft.StatementLine.{StatementLine}
use Rattle.conf_tree.specs.declared.neighbour.Neighbour.{Neighbour}
use Rattle.conf_tree.specs.declared.rule.Condition.{Condition}
use Rattle.conf_tree.specs.declared.rule.Condition.TheVariants as conditions
use Rattle.conf_tree.specs.declared.rule.Item.{Item}
use Rattle.conf_tree.specs.declared.rule.Rule.{Rule}
use Rattle.conf_tree.specs.declared.sets.PrefixSetConf.{PrefixSetConf}
use Rattle.conf_tree.specs.declared.sets.AsSetConf.{AsSetConf}
use Rattle.conf_tree.specs.declared.sets.OriginSetConf.{OriginSetConf}
use Rattle.conf_tree.specs.Canonical.{is_alone, group_names, rib_name, prefix_set_name, as_set_name, origin_set_name}
use Rattle.conf_tree.specs.Readable.{members_of, total}

-- ---- neighbours

-- an option that stands where there is a value
abbrev pub given_options : {A : Type 0} → (A → NeighbourOption) → Option A → List NeighbourOption
given_options make None = []
given_options make (Some value) = make value ∷ []

-- an option that stands where a flag is set
abbrev pub set_options : Bool → NeighbourOption → List NeighbourOption
set_options true o = o ∷ []
set_options false o = []

abbrev pub items_options : List Item → List NeighbourOption
items_options [] = []
items_options (item ∷ set) = options.Set (item ∷ set) ∷ []

-- how a session is set up
abbrev pub session_options : Neighbour → List NeighbourOption
session_options n =
    set_options n.passive options.Passive ++ (set_options n.down options.Down ++ given_options options.Multihop n.multihop)

-- who a neighbour is, and how a session with it is set up
abbrev pub link_options_of : Neighbour → List NeighbourOption
link_options_of n =
    options.RemoteAs n.remote_as ∷ (given_options options.LocalAddress n.local_address
    ++ (given_options options.Description n.description ++ (options.Port n.port ∷ session_options n)))

-- what an OPEN to it says
abbrev pub open_options_of : Neighbour → List NeighbourOption
open_options_of n =
    options.Hold n.hold ∷ options.HoldMin n.hold_min ∷ options.Announce V4 n.announce_v4 ∷ options.Announce V6 n.announce_v6
    ∷ options.AnnounceRefresh n.announce_refresh ∷ options.AnnounceAs4Byte n.announce_as_4byte ∷ []

-- what its routes are subject to
abbrev pub route_options_of : Conf → Neighbour → List NeighbourOption
route_options_of conf n =
    given_options options.MaxPrefix n.max_prefix ++ (options.Rib (rib_name conf n.rib) ∷ items_options n.set)

-- what a neighbour's block says, one option a line
abbrev pub options_of : Conf → Neighbour → List NeighbourOption
options_of conf n = link_options_of n ++ (open_options_of n ++ route_options_of conf n)

-- options on lines of their own, of which the first is on this line
abbrev pub numbered : ℕ → List NeighbourOption → List OptionLine
numbered line [] = []
numbered line (o ∷ os) = record { line = line; option = o } ∷ numbered (line + 1) os

-- a neighbour's block that begins on this line
abbrev pub block_of : Conf → ℕ → Neighbour → NeighbourBlock
block_of conf line n = record { line = line; address = n.address; options = numbered (line + 1) (options_of conf n) }

-- the lines of a neighbour's block: its head, its options and its `}`
abbrev pub block_length : Conf → Neighbour → ℕ
block_length conf n = length (options_of conf n) + 2

-- the neighbours of a group, of which the first begins on this line
abbrev pub blocks_of : Conf → ℕ → List Neighbour → List NeighbourBlock
blocks_of conf line [] = []
blocks_of conf line (n ∷ ns) = block_of conf line n ∷ blocks_of conf (line + block_length conf n) ns

-- ---- rules

abbrev pub condition_block : Conf → Condition → ConditionBlock
condition_block conf (conditions.Prefix range) = blocks.Prefixes (range ∷ [])
condition_block conf (conditions.PrefixSet set) = blocks.PrefixSet (prefix_set_name conf set.at)
condition_block conf (conditions.PrefixSetOrLonger set) = blocks.PrefixSetOrLonger (prefix_set_name conf set.at)
condition_block conf (conditions.PathNumber part asn) = blocks.PathNumbers part (asn ∷ [])
condition_block conf (conditions.PathSet part set) = blocks.PathSet part (as_set_name conf set.at)
condition_block conf (conditions.OriginSet set) = blocks.OriginSet (origin_set_name conf set.at)
condition_block conf (conditions.Ovs ovs) = blocks.Ovs ovs
condition_block conf (conditions.Community pattern) = blocks.Community pattern
condition_block conf (conditions.LargeCommunity pattern) = blocks.LargeCommunity pattern
condition_block conf (conditions.MaxAsLen most) = blocks.MaxAsLen most
condition_block conf (conditions.NextHop address) = blocks.NextHop address
condition_block conf (conditions.Family family) = blocks.Family family

abbrev pub rule_block : Conf → Rule → RuleBlock
rule_block conf r = record {
  action = r.action;
  quick = r.quick;
  rib = option_map (rib_name conf) r.rib;
  direction = r.direction;
  peers = r.peer ∷ [];
  conditions = map (condition_block conf) r.conditions;
  set = r.set;
}

-- ---- statements

-- how many lines a statement has, and what it says where it begins on a line
abbrev pub StatementUnit : Type 0
StatementUnit = ℕ × (ℕ → Statement)

-- a statement of one line
abbrev pub line_unit : Statement → StatementUnit
line_unit s = (1, λ _. s)

-- a statement of one entry a line between its head and its `}`
abbrev pub block_unit : ℕ → Statement → StatementUnit
block_unit entries s = (entries + 2, λ _. s)

abbrev pub qualify_units : Bool → List StatementUnit
qualify_units true = line_unit says.QualifyDefault ∷ []
qualify_units false = []

abbrev pub listen_unit : Listen → StatementUnit
listen_unit l = line_unit (says.Listen l)

abbrev pub rib_unit : Rib → StatementUnit
rib_unit r = line_unit (says.Rib r.name r.table)

abbrev pub prefix_set_unit : PrefixSetConf → StatementUnit
prefix_set_unit s = block_unit (length s.entries) (says.PrefixSet s.name s.entries)

abbrev pub as_set_unit : AsSetConf → StatementUnit
as_set_unit s = block_unit (length s.numbers) (says.AsSet s.name s.numbers)

abbrev pub origin_set_unit : OriginSetConf → StatementUnit
origin_set_unit s = block_unit (length s.entries) (says.OriginSet s.name s.entries)

-- there is no empty `roa-set`
abbrev pub roa_units : List Roa → List StatementUnit
roa_units [] = []
roa_units (r ∷ roas) = block_unit (length (r ∷ roas)) (says.RoaSet (r ∷ roas)) ∷ []

abbrev pub network_unit : Network → StatementUnit
network_unit n = line_unit (says.Network n.prefix n.set)

abbrev pub neighbour_unit : Conf → Neighbour → StatementUnit
neighbour_unit conf n = (block_length conf n, λ line. says.Neighbour (block_of conf line n))

abbrev pub group_unit : Conf → List ℕ → StatementUnit
group_unit conf name = (
  total (block_length conf) (members_of conf name) + 2,
  λ line. says.Group (record { name = name; options = []; neighbours = blocks_of conf (line + 1) (members_of conf name) }),
)

abbrev pub rule_unit : Conf → Rule → StatementUnit
rule_unit conf r = line_unit (says.Rule (rule_block conf r))

-- the statements of a canonical text, in its order
abbrev pub units_of : Conf → List StatementUnit
units_of conf =
    line_unit (says.As conf.asn) ∷ line_unit (says.RouterId conf.router_id) ∷ line_unit (says.Hold conf.hold)
    ∷ line_unit (says.HoldMin conf.hold_min) ∷ line_unit (says.FibUpdate conf.fib_update)
    ∷ (qualify_units conf.qualify_default
    ++ (line_unit (says.MedCompare conf.med_always) ∷ line_unit (says.Socket conf.socket)
    ∷ (map listen_unit conf.listen ++ (map rib_unit conf.ribs ++ (map prefix_set_unit conf.prefix_sets
    ++ (map as_set_unit conf.as_sets ++ (map origin_set_unit conf.origin_sets ++ (roa_units conf.roas
    ++ (map network_unit conf.networks ++ (map (neighbour_unit conf) (filter is_alone conf.neighbours)
    ++ (map (group_unit conf) (group_names conf.neighbours) ++ map (rule_unit conf) conf.rules)))))))))))

-- the statements, of which the first begins on this line
abbrev pub statements_from : ℕ → List StatementUnit → List StatementLine
statements_from line [] = []
statements_from line (u ∷ us) = record { line = line; statement = u.1 line } ∷ statements_from (line + u.0) us

-- the draft that the canonical text of a configuration writes
abbrev pub canonical_draft : Conf → Draft
canonical_draft conf = record { statements = statements_from 1 (units_of conf) }
