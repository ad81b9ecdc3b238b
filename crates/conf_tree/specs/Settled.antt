-- What every configuration keeps whose text has passed its checks: its lists are in their order, no name comes twice, and each
-- name stands for something that there is.
use Rattle.std.specs.Prelude.{◌≡◌, ◌<◌, ◌^◌, true, ◌∷◌, map, filter_map, bytes_eq, ◌==◌}
use Rattle.std.specs.List.{IsDistinct, list_any}
use Rattle.std.specs.List.Sorted.{IsStrictlySortedBy}
use Rattle.std.specs.Ordering.{nat_cmp, on}
use Rattle.net_base.specs.Order.{addr_cmp, prefix_cmp, same_family}
use Rattle.conf_tree.specs.declared.conf.Conf.{Conf}
use Rattle.conf_tree.specs.declared.neighbour.Neighbour.{Neighbour}
use Rattle.conf_tree.specs.declared.rule.Condition.{Condition}
use Rattle.conf_tree.specs.declared.rule.Condition.TheVariants as conditions
use Rattle.conf_tree.specs.declared.rule.Peer.{Peer}
use Rattle.conf_tree.specs.declared.rule.Peer.TheVariants as peers
use Rattle.conf_tree.specs.declared.rule.Rule.{Rule}
use Rattle.conf_tree.specs.declared.sets.SetId.{SetId}
use Rattle.conf_tree.specs.declared.sets.SetKind.{SetKind}
use Rattle.conf_tree.specs.declared.sets.SetKind.TheVariants as kinds
use Rattle.conf_tree.specs.Canonical.{is_of_group}
use Rattle.conf_tree.specs.Flat.{loc_rib, text_cmp, range_cmp, roa_cmp}
use Rattle.conf_tree.specs.Membership.{Names}
use Rattle.conf_tree.specs.Readable.{Each, IfThere}

-- the own address of the session is of the family of the neighbour's
abbrev pub HasOneFamily : Neighbour → Type 0
HasOneFamily n = IfThere (λ own. same_family own.family n.address.family ≡ true) n.local_address

-- some neighbour stands in the group that a peer names
abbrev pub IsKnownPeer : Conf → Peer → Type 0
IsKnownPeer conf (peers.Group name) = list_any (is_of_group name) conf.neighbours ≡ true
IsKnownPeer conf _ = Unit {0}

-- there is this set, and its place is a number of 32 bits
abbrev pub IsKnownSet : Conf → SetKind → SetId → Type 0
IsKnownSet conf kind set = Names conf kind set × (set.at < 2 ^ 32)

abbrev pub IsKnownCondition : Conf → Condition → Type 0
IsKnownCondition conf (conditions.PrefixSet set) = IsKnownSet conf kinds.Prefix set
IsKnownCondition conf (conditions.PrefixSetOrLonger set) = IsKnownSet conf kinds.Prefix set
IsKnownCondition conf (conditions.PathSet part set) = IsKnownSet conf kinds.As set
IsKnownCondition conf (conditions.OriginSet set) = IsKnownSet conf kinds.Origin set
IsKnownCondition conf _ = Unit {0}

abbrev pub IsKnownRule : Conf → Rule → Type 0
IsKnownRule conf r = IsKnownPeer conf r.peer × Each (IsKnownCondition conf) r.conditions

pub record IsSettled (conf : Conf) : Type 0 where
  pub ribs : IsDistinct bytes_eq (loc_rib ∷ map (λ r. r.name) conf.ribs)
  pub tables : IsDistinct (λ a b. a == b) (filter_map (λ r. r.table) conf.ribs)
  pub prefix_sets : IsStrictlySortedBy (on (λ s. s.name) text_cmp) conf.prefix_sets
  pub as_sets : IsStrictlySortedBy (on (λ s. s.name) text_cmp) conf.as_sets
  pub origin_sets : IsStrictlySortedBy (on (λ s. s.name) text_cmp) conf.origin_sets
  pub prefix_entries : Each (λ s. IsStrictlySortedBy range_cmp s.entries) conf.prefix_sets
  pub as_entries : Each (λ s. IsStrictlySortedBy nat_cmp s.numbers) conf.as_sets
  pub origin_entries : Each (λ s. IsStrictlySortedBy roa_cmp s.entries) conf.origin_sets
  pub roas : IsStrictlySortedBy roa_cmp conf.roas
  pub networks : IsStrictlySortedBy (on (λ n. n.prefix) prefix_cmp) conf.networks
  pub neighbours : IsStrictlySortedBy (on (λ n. n.address) addr_cmp) conf.neighbours
  pub families : Each HasOneFamily conf.neighbours
  pub rules : Each (IsKnownRule conf) conf.rules
