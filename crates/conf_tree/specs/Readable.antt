-- What every configuration keeps that a text of the language says: each value is one that can be written.
use Rattle.std.specs.Prelude.{◌≡◌, ℕ, ◌≤◌, ◌⊎◌, Bool, true, not, ◌||◌, ◌==◌, List, [], ◌∷◌, ◌+◌, length, filter, Option, None, Some}
use Rattle.std.specs.List.{list_all}
use Rattle.std.specs.Str.{IsUtf8}
use Rattle.net_base.specs.declared.prefix.Prefix.{Prefix}
use Rattle.net_base.specs.declared.roa.Roa.{Roa}
use Rattle.net_base.specs.Width.{width_of}
use Rattle.conf_tree.specs.declared.conf.Conf.{Conf}
use Rattle.conf_tree.specs.declared.conf.Listen.{Listen}
use Rattle.conf_tree.specs.declared.conf.Network.{Network}
use Rattle.conf_tree.specs.declared.conf.Rib.{Rib}
use Rattle.conf_tree.specs.declared.draft.SetPlace.{SetPlace}
use Rattle.conf_tree.specs.declared.draft.SetPlace.TheVariants as places
use Rattle.conf_tree.specs.declared.neighbour.Neighbour.{Neighbour}
use Rattle.conf_tree.specs.declared.rule.Change.{Change}
use Rattle.conf_tree.specs.declared.rule.Change.TheVariants.{Set, Add, Subtract}
use Rattle.conf_tree.specs.declared.rule.CommunityPattern.{CommunityPattern}
use Rattle.conf_tree.specs.declared.rule.LargePattern.{LargePattern}
use Rattle.conf_tree.specs.declared.rule.NextHop.{NextHop}
use Rattle.conf_tree.specs.declared.rule.NextHop.TheVariants as hops
use Rattle.conf_tree.specs.declared.rule.Item.{Item}
use Rattle.conf_tree.specs.declared.rule.Item.TheVariants as items
use Rattle.conf_tree.specs.declared.rule.Direction.{Direction}
use Rattle.conf_tree.specs.declared.rule.Direction.TheVariants.{From, To}
use Rattle.conf_tree.specs.declared.rule.PathPart.{PathPart}
use Rattle.conf_tree.specs.declared.rule.PathPart.TheVariants as parts
use Rattle.conf_tree.specs.declared.rule.Peer.{Peer}
use Rattle.conf_tree.specs.declared.rule.Peer.TheVariants as peers
use Rattle.conf_tree.specs.declared.rule.Condition.{Condition}
use Rattle.conf_tree.specs.declared.rule.Condition.TheVariants as conditions
use Rattle.conf_tree.specs.declared.rule.Rule.{Rule}
use Rattle.conf_tree.specs.declared.sets.PrefixRange.{PrefixRange}
use Rattle.conf_tree.specs.declared.sets.PrefixSetConf.{PrefixSetConf}
use Rattle.conf_tree.specs.declared.sets.AsSetConf.{AsSetConf}
use Rattle.conf_tree.specs.declared.sets.OriginSetConf.{OriginSetConf}
use Rattle.conf_tree.specs.Names.{is_name}
use Rattle.conf_tree.specs.Values.{is_quoted_group_name, most_name_bytes, most_quoted_bytes}
use Rattle.conf_tree.specs.ItemReading.{is_to, is_network, most_items}
use Rattle.conf_tree.specs.RuleReading.{most_conditions, place_of}
use Rattle.conf_tree.specs.Canonical.{prefix_set_name, as_set_name, origin_set_name, rib_name, is_alone, is_of_group, group_names}

-- each entry of a list is so
abbrev pub Each : {A : Type 0} → (A → Type 0) → List A → Type 0
Each Is [] = Unit {0}
Each Is (x ∷ xs) = Is x × Each Is xs

-- a value is so, if it is there
abbrev pub IfThere : {A : Type 0} → (A → Type 0) → Option A → Type 0
IfThere Is None = Unit {0}
IfThere Is (Some x) = Is x

-- ---- texts

pub record IsName (name : List ℕ) : Type 0 where
  pub form : is_name name ≡ true
  pub short : length name ≤ most_name_bytes

-- no `"` and no LF
abbrev pub can_be_quoted : List ℕ → Bool
can_be_quoted text = list_all (λ b. not ((b == 34) || (b == 10))) text

pub record IsQuotedText (text : List ℕ) : Type 0 where
  pub inside : can_be_quoted text ≡ true
  pub utf8 : IsUtf8 text
  pub short : length text ≤ most_quoted_bytes

-- printable ASCII without `"`, at least one byte
pub record IsGroupName (name : List ℕ) : Type 0 where
  pub form : is_quoted_group_name name ≡ true
  pub inside : can_be_quoted name ≡ true
  pub utf8 : IsUtf8 name
  pub short : length name ≤ most_name_bytes

-- ---- numbers

pub record IsWithin (low high n : ℕ) : Type 0 where
  pub least : low ≤ n
  pub most : n ≤ high

-- a hold time: 0, or from 3 on
abbrev pub IsHold : ℕ → Type 0
IsHold n = (n ≡ 0) ⊎ IsWithin 3 65535 n

-- ---- items

abbrev pub IsChange : Change → Type 0
IsChange (Set n) = IsWithin 0 4294967295 n
IsChange (Add n) = IsWithin 0 4294967295 n
IsChange (Subtract n) = IsWithin 0 4294967295 n

abbrev pub IsPart : ℕ → Option ℕ → Type 0
IsPart most part = IfThere (IsWithin 0 most) part

abbrev pub IsPattern : CommunityPattern → Type 0
IsPattern p = IsPart 65535 p.high × IsPart 65535 p.low

abbrev pub IsLargePattern : LargePattern → Type 0
IsLargePattern p = IsPart 4294967295 p.global × IsPart 4294967295 p.first × IsPart 4294967295 p.second

-- `self` and `no-modify` stand in rules for routes that are sent
abbrev pub IsHop : SetPlace → NextHop → Type 0
IsHop place (hops.Address address) = Unit {0}
IsHop place hops.Own = is_to place ≡ true
IsHop place hops.NoModify = is_to place ≡ true

abbrev pub IsItem : SetPlace → Item → Type 0
IsItem place (items.LocalPref change) = IsChange change
IsItem place (items.Med change) = IsChange change
IsItem place (items.Weight change) = IsChange change
IsItem place (items.PrependSelf times) = IsWithin 1 128 times
IsItem place (items.PrependNeighbor times) = IsWithin 1 128 times × (not (is_network place) ≡ true)
IsItem place (items.Origin origin) = Unit {0}
IsItem place (items.Community community) = IsWithin 0 4294967295 community
IsItem place (items.DeleteCommunity pattern) = IsPattern pattern
IsItem place (items.LargeCommunity global one two) = IsWithin 0 4294967295 global × IsWithin 0 4294967295 one × IsWithin 0 4294967295 two
IsItem place (items.DeleteLargeCommunity pattern) = IsLargePattern pattern
IsItem place (items.NextHop hop) = IsHop place hop

abbrev pub IsSet : SetPlace → List Item → Type 0
IsSet place set = Each (IsItem place) set × (length set ≤ most_items)

-- ---- statements

abbrev pub IsListen : Listen → Type 0
IsListen l = IsWithin 1 65535 l.port

abbrev pub IsRib : Rib → Type 0
IsRib r = IsName r.name × IfThere (IsWithin 1 255) r.table

-- a length of a prefix is at least its own, and at most the width of its family
abbrev pub IsLength : Prefix → ℕ → Type 0
IsLength prefix n = IsWithin prefix.len (width_of prefix.family) n

abbrev pub IsRange : PrefixRange → Type 0
IsRange r = IsLength r.prefix r.low × IsLength r.prefix r.high

abbrev pub IsRoa : Roa → Type 0
IsRoa r = IsLength r.prefix r.maxlen × IsWithin 0 4294967295 r.source

abbrev pub IsAs : ℕ → Type 0
IsAs n = IsWithin 1 4294967295 n

abbrev pub IsPrefixSet : PrefixSetConf → Type 0
IsPrefixSet s = IsName s.name × Each IsRange s.entries

abbrev pub IsAsSet : AsSetConf → Type 0
IsAsSet s = IsName s.name × Each IsAs s.numbers

abbrev pub IsOriginSet : OriginSetConf → Type 0
IsOriginSet s = IsName s.name × Each IsRoa s.entries

abbrev pub IsNetwork : Network → Type 0
IsNetwork n = IsSet places.Network n.set

pub record IsNeighbour (conf : Conf) (n : Neighbour) : Type 0 where
  pub group : IfThere IsGroupName n.group
  pub remote_as : IsAs n.remote_as
  pub description : IfThere IsQuotedText n.description
  pub port : IsWithin 1 65535 n.port
  pub multihop : IfThere (IsWithin 1 255) n.multihop
  pub hold : IsHold n.hold
  pub hold_min : IsWithin 3 65535 n.hold_min
  pub max_prefix : IfThere (IsWithin 1 4294967295) n.max_prefix
  pub rib : IsName (rib_name conf n.rib)
  pub set : IsSet places.Neighbour n.set

-- ---- rules

abbrev pub IsPeer : Peer → Type 0
IsPeer peers.Any = Unit {0}
IsPeer peers.Ebgp = Unit {0}
IsPeer peers.Ibgp = Unit {0}
IsPeer (peers.Address address) = Unit {0}
IsPeer (peers.Group name) = IsGroupName name
IsPeer (peers.As asn) = IsAs asn

-- the least AS number of a condition on the path
abbrev pub least_as : PathPart → ℕ
least_as parts.Any = 1
least_as parts.Source = 0
least_as parts.Transit = 1
least_as parts.Peer = 1

abbrev pub IsCondition : Conf → Condition → Type 0
IsCondition conf (conditions.Prefix range) = IsRange range
IsCondition conf (conditions.PrefixSet set) = IsName (prefix_set_name conf set.at)
IsCondition conf (conditions.PrefixSetOrLonger set) = IsName (prefix_set_name conf set.at)
IsCondition conf (conditions.PathNumber part asn) = IsWithin (least_as part) 4294967295 asn
IsCondition conf (conditions.PathSet part set) = IsName (as_set_name conf set.at)
IsCondition conf (conditions.OriginSet set) = IsName (origin_set_name conf set.at)
IsCondition conf (conditions.Ovs ovs) = Unit {0}
IsCondition conf (conditions.Community pattern) = IsPattern pattern
IsCondition conf (conditions.LargeCommunity pattern) = IsLargePattern pattern
IsCondition conf (conditions.MaxAsLen most) = IsWithin 0 1023 most
IsCondition conf (conditions.NextHop address) = Unit {0}
IsCondition conf (conditions.Family family) = Unit {0}

-- only rules on routes that are received may be of one RIB
abbrev pub IsRuleRib : Conf → Direction → Option ℕ → Type 0
IsRuleRib conf direction None = Unit {0}
IsRuleRib conf From (Some number) = IsName (rib_name conf number)
IsRuleRib conf To (Some number) = ⊥

pub record IsRule (conf : Conf) (r : Rule) : Type 0 where
  pub rib : IsRuleRib conf r.direction r.rib
  pub peer : IsPeer r.peer
  pub conditions : Each (IsCondition conf) r.conditions
  pub few : length r.conditions ≤ most_conditions
  pub set : IsSet (place_of r.direction) r.set

-- ---- the whole

pub record IsReadable (conf : Conf) : Type 0 where
  pub asn : IsAs conf.asn
  pub router_id : conf.router_id ≤ 4294967295
  pub hold : IsHold conf.hold
  pub hold_min : IsWithin 3 65535 conf.hold_min
  pub socket : IsQuotedText conf.socket
  pub listen : Each IsListen conf.listen
  pub ribs : Each IsRib conf.ribs
  pub prefix_sets : Each IsPrefixSet conf.prefix_sets
  pub as_sets : Each IsAsSet conf.as_sets
  pub origin_sets : Each IsOriginSet conf.origin_sets
  pub roas : Each IsRoa conf.roas
  pub networks : Each IsNetwork conf.networks
  pub neighbours : Each (IsNeighbour conf) conf.neighbours
  pub rules : Each (IsRule conf) conf.rules

-- ---- limits

-- the numbers of all entries of a list in all
abbrev pub total : {A : Type 0} → (A → ℕ) → List A → ℕ
total count [] = 0
total count (x ∷ xs) = count x + total count xs

abbrev pub members_of : Conf → List ℕ → List Neighbour
members_of conf name = filter (is_of_group name) conf.neighbours

-- the entries of all sets
abbrev pub entries_of : Conf → ℕ
entries_of conf =
    total (λ s. length s.entries) conf.prefix_sets + (total (λ s. length s.numbers) conf.as_sets + (total (λ s. length s.entries) conf.origin_sets + length conf.roas))

-- there is no more of anything than a text may have
pub record IsWithinLimits (conf : Conf) : Type 0 where
  pub listens : length conf.listen ≤ 8
  pub ribs : length conf.ribs ≤ 15
  pub entries : entries_of conf ≤ 262144
  pub networks : length conf.networks ≤ 4096
  pub neighbours : length (filter is_alone conf.neighbours) + total (λ name. length (members_of conf name)) (group_names conf.neighbours) ≤ 256
  pub groups : length (group_names conf.neighbours) ≤ 64
  pub rules : length conf.rules ≤ 4096
