-- A draft whose values can be written.
use Rattle.std.specs.Prelude.{ℕ, ◌≤◌, List, length, Option, Some, None}
use Rattle.conf_tree.specs.declared.draft.ConditionBlock.{ConditionBlock}
use Rattle.conf_tree.specs.declared.draft.ConditionBlock.TheVariants as blocks
use Rattle.conf_tree.specs.declared.draft.GroupBlock.{GroupBlock}
use Rattle.conf_tree.specs.declared.draft.NeighbourBlock.{NeighbourBlock}
use Rattle.conf_tree.specs.declared.draft.NeighbourOption.{NeighbourOption}
use Rattle.conf_tree.specs.declared.draft.NeighbourOption.TheVariants as options
use Rattle.conf_tree.specs.declared.draft.OptionLine.{OptionLine}
use Rattle.conf_tree.specs.declared.draft.RuleBlock.{RuleBlock}
use Rattle.conf_tree.specs.declared.draft.SetPlace.TheVariants as places
use Rattle.conf_tree.specs.declared.draft.Statement.{Statement}
use Rattle.conf_tree.specs.declared.draft.Statement.TheVariants as says
use Rattle.conf_tree.specs.declared.draft.StatementLine.{StatementLine}
use Rattle.conf_tree.specs.declared.rule.Direction.{Direction}
use Rattle.conf_tree.specs.declared.rule.Direction.TheVariants.{From, To}
use Rattle.conf_tree.specs.RuleReading.{most_conditions, place_of}
use Rattle.conf_tree.specs.Readable.{Each, IfThere, IsName, IsQuotedText, IsGroupName, IsWithin, IsHold, IsPattern, IsLargePattern, IsSet, IsListen, IsRange, IsRoa, IsAs, IsPeer, least_as}

-- ---- neighbours

abbrev pub IsOption : NeighbourOption → Type 0
IsOption (options.RemoteAs asn) = IsAs asn
IsOption (options.LocalAddress address) = Unit {0}
IsOption (options.Description text) = IsQuotedText text
IsOption (options.Port port) = IsWithin 1 65535 port
IsOption options.Passive = Unit {0}
IsOption options.Down = Unit {0}
IsOption (options.Multihop hops) = IsWithin 1 255 hops
IsOption (options.Hold seconds) = IsHold seconds
IsOption (options.HoldMin seconds) = IsWithin 3 65535 seconds
IsOption (options.Announce family unicast) = Unit {0}
IsOption (options.AnnounceRefresh on) = Unit {0}
IsOption (options.AnnounceAs4Byte on) = Unit {0}
IsOption (options.MaxPrefix most) = IsWithin 1 4294967295 most
IsOption (options.Rib name) = IsName name
IsOption (options.Set set) = IsSet places.Neighbour set

abbrev pub IsOptionLine : OptionLine → Type 0
IsOptionLine line = IsOption line.option

abbrev pub IsBlock : NeighbourBlock → Type 0
IsBlock block = Each IsOptionLine block.options

abbrev pub IsGroup : GroupBlock → Type 0
IsGroup group = IsGroupName group.name × Each IsOptionLine group.options × Each IsBlock group.neighbours

-- ---- rules

abbrev pub IsConditionBlock : ConditionBlock → Type 0
IsConditionBlock (blocks.Prefixes entries) = Each IsRange entries
IsConditionBlock (blocks.PrefixSet name) = Unit {0}
IsConditionBlock (blocks.PrefixSetOrLonger name) = Unit {0}
IsConditionBlock (blocks.PathNumbers part numbers) = Each (IsWithin (least_as part) 4294967295) numbers
IsConditionBlock (blocks.PathSet part name) = Unit {0}
IsConditionBlock (blocks.OriginSet name) = Unit {0}
IsConditionBlock (blocks.Ovs state) = Unit {0}
IsConditionBlock (blocks.Community pattern) = IsPattern pattern
IsConditionBlock (blocks.LargeCommunity pattern) = IsLargePattern pattern
IsConditionBlock (blocks.MaxAsLen most) = IsWithin 0 1023 most
IsConditionBlock (blocks.NextHop address) = Unit {0}
IsConditionBlock (blocks.Family family) = Unit {0}

-- only rules on routes that are received may be of one RIB
abbrev pub HasRib : Direction → Option (List ℕ) → Type 0
HasRib direction None = Unit {0}
HasRib From (Some name) = Unit {0}
HasRib To (Some name) = ⊥

pub record IsRuleBlock (rule : RuleBlock) : Type 0 where
  pub rib : HasRib rule.direction rule.rib
  pub peers : Each IsPeer rule.peers
  pub conditions : Each IsConditionBlock rule.conditions
  pub few : length rule.conditions ≤ most_conditions
  pub set : IsSet (place_of rule.direction) rule.set

-- ---- statements

abbrev pub IsStatement : Statement → Type 0
IsStatement (says.As asn) = IsAs asn
IsStatement (says.RouterId id) = id ≤ 4294967295
IsStatement (says.Hold seconds) = IsHold seconds
IsStatement (says.HoldMin seconds) = IsWithin 3 65535 seconds
IsStatement (says.FibUpdate on) = Unit {0}
IsStatement says.QualifyDefault = Unit {0}
IsStatement (says.MedCompare always) = Unit {0}
IsStatement (says.Socket path) = IsQuotedText path
IsStatement (says.Listen listen) = IsListen listen
IsStatement (says.Rib name table) = IsName name × IfThere (IsWithin 1 255) table
IsStatement (says.PrefixSet name entries) = IsName name × Each IsRange entries
IsStatement (says.AsSet name numbers) = IsName name × Each IsAs numbers
IsStatement (says.OriginSet name entries) = IsName name × Each IsRoa entries
IsStatement (says.RoaSet entries) = Each IsRoa entries
IsStatement (says.Network prefix set) = IsSet places.Network set
IsStatement (says.Neighbour neighbour) = IsBlock neighbour
IsStatement (says.Group group) = IsGroup group
IsStatement (says.Rule rule) = IsRuleBlock rule

abbrev pub IsStatementLine : StatementLine → Type 0
IsStatementLine line = IsStatement line.statement

abbrev pub AreStatements : List StatementLine → Type 0
AreStatements lines = Each IsStatementLine lines
