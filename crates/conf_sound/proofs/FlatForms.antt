-- The configuration of a draft in form is in form.
use Rattle.std.proofs.Common.{◌≡◌, ◌∙◌, ℕ, zero, suc, ◌+◌, ◌-◌, ◌^◌, ◌<◌, ◌≤◌, Bool, true, false, cond, eqb, nat_lt, List, [], ◌∷◌, length, map, codes, bytes_eq, Option, Some, None, refl, ap, subst, inr, arith, lit≤}
use Rattle.std.specs.Prelude.{is_none, option_and_then, option_map, option_to_list}
use Rattle.std.specs.List.{position_or_len}
use Rattle.std.specs.Ordering.{nat_cmp}
use Rattle.std.proofs.lemmas.Bool.Decides.{nat_tests}
use Rattle.net_base.specs.declared.addr.Addr.{Addr}
use Rattle.net_base.specs.declared.prefix.Prefix.{Prefix}
use Rattle.net_base.specs.Order.{addr_cmp, prefix_cmp}
use Rattle.conf_tree.specs.declared.conf.Conf.{Conf}
use Rattle.conf_tree.specs.declared.conf.Rib.{Rib}
use Rattle.conf_tree.specs.declared.draft.ConditionBlock.{ConditionBlock}
use Rattle.conf_tree.specs.declared.draft.ConditionBlock.TheVariants as block
use Rattle.conf_tree.specs.declared.draft.NeighbourOption.{NeighbourOption}
use Rattle.conf_tree.specs.declared.draft.NeighbourOption.TheVariants as option
use Rattle.conf_tree.specs.declared.draft.OptionLine.{OptionLine}
use Rattle.conf_tree.specs.declared.draft.RuleBlock.{RuleBlock}
use Rattle.conf_tree.specs.declared.draft.SetPlace.TheVariants as places
use Rattle.conf_tree.specs.declared.draft.Statement.{Statement}
use Rattle.conf_tree.specs.declared.draft.Statement.TheVariants as says
use Rattle.conf_tree.specs.declared.draft.StatementLine.{StatementLine}
use Rattle.conf_tree.specs.declared.rule.Condition.{Condition}
use Rattle.conf_tree.specs.declared.rule.Condition.TheVariants as conds
use Rattle.conf_tree.specs.declared.rule.Direction.{Direction}
use Rattle.conf_tree.specs.declared.rule.Direction.TheVariants.{From, To}
use Rattle.conf_tree.specs.declared.rule.Peer.{Peer}
use Rattle.conf_tree.specs.declared.sets.AsSetConf.{AsSetConf}
use Rattle.conf_tree.specs.declared.sets.OriginSetConf.{OriginSetConf}
use Rattle.conf_tree.specs.declared.sets.PrefixSetConf.{PrefixSetConf}
use Rattle.conf_tree.specs.declared.sets.SetKind.{SetKind}
use Rattle.conf_tree.specs.declared.sets.SetKind.TheVariants as kinds
use Rattle.conf_tree.specs.Names.{is_name}
use Rattle.conf_tree.specs.Said.{said, last_said, last_option, as_of, router_id_of, hold_of, hold_min_of, socket_of, listen_of, rib_of, prefix_set_of, as_set_of, origin_set_of, roas_of, network_of, rule_of, remote_as_of, description_of, port_of, multihop_of, hold_option_of, hold_min_option_of, max_prefix_of, rib_option_of, set_option_of}
use Rattle.conf_tree.specs.Flat.{text_cmp, range_cmp, roa_cmp, in_order, default_socket, prefix_sets_of, as_sets_of, origin_sets_of, roas_said, networks_of, frame_of, loc_rib, below, place_of, rib_number, set_id, prefix_set_id, as_set_id, origin_set_id, Placed, placed_in, placed, taken, neighbour_of, neighbours_of, ways, flat_conditions, choices, rule_with, flat_rules, rules_of}
use Rattle.conf_tree.specs.Canonical.{name_at, prefix_set_name, as_set_name, origin_set_name, rib_name}
use Rattle.conf_tree.specs.Readable.{Each, IfThere, IsName, IsQuotedText, IsGroupName, IsWithin, IsHold, IsSet, IsListen, IsRib, IsRange, IsRoa, IsAs, IsPrefixSet, IsAsSet, IsOriginSet, IsNetwork, IsNeighbour, IsPeer, IsCondition, IsRuleRib, IsRule}
use Rattle.conf_sound.specs.InForm.{IsOption, IsOptionLine, IsBlock, IsConditionBlock, HasRib, IsRuleBlock, IsStatement, IsStatementLine, AreStatements}
use Rattle.conf_sound.proofs.ValueForms.{seen_utf8}
use Rattle.conf_sound.proofs.Lists.{last_form, unwrap_form, unwrap_some, or_form, in_order_form, each_map, each_filter_map, then_form, map_form, each_flat_map, IsEntry, by_key_form, AreChosen, choices_form}

-- ---- what statements say

module _ {A : Type 0} (Is : A → Type 0) (what : Statement → Option A) (given : (s : Statement) → IsStatement s → IfThere Is (what s)) (lines : List StatementLine) (h : AreStatements lines) where
  pub said_form : Each Is (said what lines)
  said_form = each_filter_map IsStatementLine Is (λ l. what l.statement) lines (λ l k. given l.statement k) h

  pub last_said_form : IfThere Is (last_said what lines)
  last_said_form = last_form Is None (said what lines) tt said_form

pub as_given : (s : Statement) → IsStatement s → IfThere IsAs (as_of s)
as_given (says.As asn) h = h
as_given _ h = tt

router_id_given : (s : Statement) → IsStatement s → IfThere (λ n. n ≤ 4294967295) (router_id_of s)
router_id_given (says.RouterId id) h = h
router_id_given _ h = tt

hold_given : (s : Statement) → IsStatement s → IfThere IsHold (hold_of s)
hold_given (says.Hold seconds) h = h
hold_given _ h = tt

hold_min_given : (s : Statement) → IsStatement s → IfThere (IsWithin 3 65535) (hold_min_of s)
hold_min_given (says.HoldMin seconds) h = h
hold_min_given _ h = tt

socket_given : (s : Statement) → IsStatement s → IfThere IsQuotedText (socket_of s)
socket_given (says.Socket path) h = h
socket_given _ h = tt

listen_given : (s : Statement) → IsStatement s → IfThere IsListen (listen_of s)
listen_given (says.Listen listen) h = h
listen_given _ h = tt

rib_given : (s : Statement) → IsStatement s → IfThere IsRib (rib_of s)
rib_given (says.Rib name table) h = h
rib_given _ h = tt

prefix_set_given : (s : Statement) → IsStatement s → IfThere (IsEntry IsName (Each IsRange)) (prefix_set_of s)
prefix_set_given (says.PrefixSet name entries) h = h
prefix_set_given _ h = tt

as_set_given : (s : Statement) → IsStatement s → IfThere (IsEntry IsName (Each IsAs)) (as_set_of s)
as_set_given (says.AsSet name numbers) h = h
as_set_given _ h = tt

origin_set_given : (s : Statement) → IsStatement s → IfThere (IsEntry IsName (Each IsRoa)) (origin_set_of s)
origin_set_given (says.OriginSet name entries) h = h
origin_set_given _ h = tt

roas_given : (s : Statement) → IsStatement s → Each IsRoa (roas_of s)
roas_given (says.RoaSet entries) h = h
roas_given _ h = tt

network_given : (s : Statement) → IsStatement s → IfThere (IsEntry (λ (p : Prefix). Unit {0}) (IsSet places.Network)) (network_of s)
network_given (says.Network prefix set) h = (tt, h)
network_given _ h = tt

rule_given : (s : Statement) → IsStatement s → IfThere IsRuleBlock (rule_of s)
rule_given (says.Rule rule) h = h
rule_given _ h = tt

-- ---- globals and lists

socket_default : IsQuotedText default_socket
socket_default = record { inside = refl; utf8 = seen_utf8 default_socket refl; short = lit≤ tt }

module _ (lines : List StatementLine) (h : AreStatements lines) where
  prefix_sets_form : Each IsPrefixSet (prefix_sets_of lines)
  prefix_sets_form =
      each_map (IsEntry IsName (Each IsRange)) IsPrefixSet (λ set. record { name = set.0; entries = set.1 }) _ (λ e k. k)
      (by_key_form IsName (Each IsRange) text_cmp (map (λ set. (set.0, in_order range_cmp set.1)) (said prefix_set_of lines))
      (each_map (IsEntry IsName (Each IsRange)) (IsEntry IsName (Each IsRange)) (λ set. (set.0, in_order range_cmp set.1)) (said prefix_set_of lines) (λ e k. (k.0, in_order_form IsRange range_cmp e.1 k.1))
      (said_form (IsEntry IsName (Each IsRange)) prefix_set_of prefix_set_given lines h)))

  as_sets_form : Each IsAsSet (as_sets_of lines)
  as_sets_form =
      each_map (IsEntry IsName (Each IsAs)) IsAsSet (λ set. record { name = set.0; numbers = set.1 }) _ (λ e k. k)
      (by_key_form IsName (Each IsAs) text_cmp (map (λ set. (set.0, in_order nat_cmp set.1)) (said as_set_of lines))
      (each_map (IsEntry IsName (Each IsAs)) (IsEntry IsName (Each IsAs)) (λ set. (set.0, in_order nat_cmp set.1)) (said as_set_of lines) (λ e k. (k.0, in_order_form IsAs nat_cmp e.1 k.1))
      (said_form (IsEntry IsName (Each IsAs)) as_set_of as_set_given lines h)))

  origin_sets_form : Each IsOriginSet (origin_sets_of lines)
  origin_sets_form =
      each_map (IsEntry IsName (Each IsRoa)) IsOriginSet (λ set. record { name = set.0; entries = set.1 }) _ (λ e k. k)
      (by_key_form IsName (Each IsRoa) text_cmp (map (λ set. (set.0, in_order roa_cmp set.1)) (said origin_set_of lines))
      (each_map (IsEntry IsName (Each IsRoa)) (IsEntry IsName (Each IsRoa)) (λ set. (set.0, in_order roa_cmp set.1)) (said origin_set_of lines) (λ e k. (k.0, in_order_form IsRoa roa_cmp e.1 k.1))
      (said_form (IsEntry IsName (Each IsRoa)) origin_set_of origin_set_given lines h)))

  roas_form : Each IsRoa (roas_said lines)
  roas_form = in_order_form IsRoa roa_cmp _ (each_flat_map IsStatementLine IsRoa (λ l. roas_of l.statement) lines (λ l k. roas_given l.statement k) h)

  networks_form : Each IsNetwork (networks_of lines)
  networks_form =
      each_map (IsEntry (λ (p : Prefix). Unit {0}) (IsSet places.Network)) IsNetwork (λ network. record { prefix = network.0; set = network.1 }) _ (λ e k. k.1)
      (by_key_form (λ (p : Prefix). Unit {0}) (IsSet places.Network) prefix_cmp (said network_of lines)
      (said_form (IsEntry (λ (p : Prefix). Unit {0}) (IsSet places.Network)) network_of network_given lines h))

-- what the configuration without its neighbours and rules keeps
pub record IsFrame (conf : Conf) : Type 0 where
  pub router_id : conf.router_id ≤ 4294967295
  pub hold : IsHold conf.hold
  pub hold_min : IsWithin 3 65535 conf.hold_min
  pub socket : IsQuotedText conf.socket
  pub listen : Each IsListen conf.listen
  pub ribs : Each IsRib conf.ribs
  pub prefix_sets : Each IsPrefixSet conf.prefix_sets
  pub as_sets : Each IsAsSet conf.as_sets
  pub origin_sets : Each IsOriginSet conf.origin_sets
  pub roas : Each IsRoa conf.roas
  pub networks : Each IsNetwork conf.networks

usual_hold : IsHold 90
usual_hold = inr (record { least = omega arith; most = omega arith })

usual_hold_min : IsWithin 3 65535 3
usual_hold_min = record { least = omega arith; most = omega arith }

pub frame_form : (lines : List StatementLine) → AreStatements lines → IsFrame (frame_of lines)
unfolding frame_of
frame_form lines h = record {
  router_id = unwrap_form (λ n. n ≤ 4294967295) (last_said router_id_of lines) 0 (last_said_form (λ n. n ≤ 4294967295) router_id_of router_id_given lines h) (omega arith);
  hold = unwrap_form IsHold (last_said hold_of lines) 90 (last_said_form IsHold hold_of hold_given lines h) usual_hold;
  hold_min = unwrap_form (IsWithin 3 65535) (last_said hold_min_of lines) 3 (last_said_form (IsWithin 3 65535) hold_min_of hold_min_given lines h) usual_hold_min;
  socket = unwrap_form IsQuotedText (last_said socket_of lines) default_socket (last_said_form IsQuotedText socket_of socket_given lines h) socket_default;
  listen = said_form IsListen listen_of listen_given lines h;
  ribs = said_form IsRib rib_of rib_given lines h;
  prefix_sets = prefix_sets_form lines h;
  as_sets = as_sets_form lines h;
  origin_sets = origin_sets_form lines h;
  roas = roas_form lines h;
  networks = networks_form lines h;
}

-- ---- names

pub named_at : {S : Type 0} (name : S → List ℕ) (sets : List S) (k : ℕ) → Each (λ s. IsName (name s)) sets → k < length sets → IsName (name_at name sets k)
named_at name [] k h lt = absurd (omega (arith, lt))
named_at name (s ∷ sets) zero h lt = h.0
named_at name (s ∷ sets) (suc k) h lt = named_at name sets k h.1 (omega (arith, lt))

pub below_length : (n m : ℕ) → nat_lt n m ≡ true → n < m
below_length n m e = grind (arith, nat_tests)

place_form : {S : Type 0} (name : S → List ℕ) (sets : List S) (wanted : List ℕ) → Each (λ s. IsName (name s)) sets → IfThere (λ k. IsName (name_at name sets k)) (place_of name sets wanted)
place_form name sets wanted h = by (nat_lt (position_or_len (λ s. bytes_eq wanted (name s)) sets) (length sets)) refl
  where
    by : (b : Bool) → nat_lt (position_or_len (λ s. bytes_eq wanted (name s)) sets) (length sets) ≡ b → IfThere (λ k. IsName (name_at name sets k)) (cond b (Some (position_or_len (λ s. bytes_eq wanted (name s)) sets)) None)
    by true e = named_at name sets _ h (below_length _ _ e)
    by false e = tt

if_below : (Is : ℕ → Type 0) (b : Bool) (k : ℕ) → Is k → IfThere Is (cond b (Some k) None)
if_below Is true k h = h
if_below Is false k h = tt

set_id_form : {S : Type 0} (kind : SetKind) (name : S → List ℕ) (sets : List S) (wanted : List ℕ) → Each (λ s. IsName (name s)) sets → IfThere (λ id. IsName (name_at name sets id.at)) (set_id kind name sets wanted)
set_id_form kind name sets wanted h =
    map_form (λ k. IsName (name_at name sets k)) (λ id. IsName (name_at name sets id.at)) (λ place. record { kind = kind; at = place }) _ (λ k named. named)
    (then_form (λ k. IsName (name_at name sets k)) (λ k. IsName (name_at name sets k)) (below (2 ^ 32)) (place_of name sets wanted) (λ k named. if_below (λ k. IsName (name_at name sets k)) (nat_lt k (2 ^ 32)) k named) (place_form name sets wanted h))

loc_rib_form : IsName loc_rib
unfolding is_name
loc_rib_form = record { form = refl; short = lit≤ tt }

rib_zero : (conf : Conf) → IsName (rib_name conf 0)
unfolding rib_name
rib_zero conf = loc_rib_form

rib_more : (conf : Conf) (k : ℕ) → name_at (λ (r : Rib). r.name) conf.ribs k ≡ rib_name conf (k + 1)
unfolding rib_name
rib_more conf k =
    let some : false ≡ eqb (k + 1) 0 = grind (arith, nat_tests) in
    let less : k ≡ (k + 1) - 1 = omega arith in
    ap (name_at (λ (r : Rib). r.name) conf.ribs) less ∙ ap (λ b. cond b (codes "Loc-RIB") (name_at (λ (r : Rib). r.name) conf.ribs ((k + 1) - 1))) some

names_of_ribs : (ribs : List Rib) → Each IsRib ribs → Each (λ r. IsName r.name) ribs
names_of_ribs [] h = tt
names_of_ribs (r ∷ ribs) h = (h.0.0, names_of_ribs ribs h.1)

pub rib_number_form : (conf : Conf) (wanted : List ℕ) → Each IsRib conf.ribs → IfThere (λ k. IsName (rib_name conf k)) (rib_number conf.ribs wanted)
unfolding rib_number
rib_number_form conf wanted h = by (bytes_eq wanted loc_rib)
    (then_form (λ k. IsName (name_at (λ (r : Rib). r.name) conf.ribs k)) (λ k. IsName (rib_name conf k)) (λ place. below (2 ^ 8) (place + 1)) (place_of (λ (r : Rib). r.name) conf.ribs wanted)
    (λ k named. if_below (λ k. IsName (rib_name conf k)) (nat_lt (k + 1) (2 ^ 8)) (k + 1) (subst IsName (rib_more conf k) named))
    (place_form (λ (r : Rib). r.name) conf.ribs wanted (names_of_ribs conf.ribs h)))
  where
    by : (b : Bool) → IfThere (λ k. IsName (rib_name conf k)) (option_and_then (λ place. below (2 ^ 8) (place + 1)) (place_of (λ (r : Rib). r.name) conf.ribs wanted))
        → IfThere (λ k. IsName (rib_name conf k)) (cond b (Some 0) (option_and_then (λ place. below (2 ^ 8) (place + 1)) (place_of (λ (r : Rib). r.name) conf.ribs wanted)))
    by true k = rib_zero conf
    by false k = k

-- ---- neighbours

module _ {A : Type 0} (Is : A → Type 0) (what : NeighbourOption → Option A) (given : (o : NeighbourOption) → IsOption o → IfThere Is (what o)) where
  last_option_form : (options : List OptionLine) → Each IsOptionLine options → IfThere Is (last_option what options)
  last_option_form options h = last_form Is None _ tt (each_filter_map IsOptionLine Is (λ o. what o.option) options (λ o k. given o.option k) h)

-- the name and the options of a neighbour, and an AS number that is said
pub record IsPlaced (n : Placed) : Type 0 where
  pub group : IfThere IsGroupName n.group
  pub shared : Each IsOptionLine n.shared
  pub own : Each IsOptionLine n.block.options

module _ {A : Type 0} (Is : A → Type 0) (what : NeighbourOption → Option A) (given : (o : NeighbourOption) → IsOption o → IfThere Is (what o)) (n : Placed) (h : IsPlaced n) where
  taken_form : IfThere Is (taken what n)
  taken_form = or_form Is (last_option what n.block.options) (last_option what n.shared) (last_option_form Is what given n.block.options h.own) (last_option_form Is what given n.shared h.shared)

remote_as_given : (o : NeighbourOption) → IsOption o → IfThere IsAs (remote_as_of o)
remote_as_given (option.RemoteAs asn) h = h
remote_as_given _ h = tt

description_given : (o : NeighbourOption) → IsOption o → IfThere IsQuotedText (description_of o)
description_given (option.Description text) h = h
description_given _ h = tt

port_given : (o : NeighbourOption) → IsOption o → IfThere (IsWithin 1 65535) (port_of o)
port_given (option.Port port) h = h
port_given _ h = tt

multihop_given : (o : NeighbourOption) → IsOption o → IfThere (IsWithin 1 255) (multihop_of o)
multihop_given (option.Multihop hops) h = h
multihop_given _ h = tt

hold_option_given : (o : NeighbourOption) → IsOption o → IfThere IsHold (hold_option_of o)
hold_option_given (option.Hold seconds) h = h
hold_option_given _ h = tt

hold_min_option_given : (o : NeighbourOption) → IsOption o → IfThere (IsWithin 3 65535) (hold_min_option_of o)
hold_min_option_given (option.HoldMin seconds) h = h
hold_min_option_given _ h = tt

max_prefix_given : (o : NeighbourOption) → IsOption o → IfThere (IsWithin 1 4294967295) (max_prefix_of o)
max_prefix_given (option.MaxPrefix most) h = h
max_prefix_given _ h = tt

rib_option_given : (o : NeighbourOption) → IsOption o → IfThere IsName (rib_option_of o)
rib_option_given (option.Rib name) h = h
rib_option_given _ h = tt

set_option_given : (o : NeighbourOption) → IsOption o → IfThere (IsSet places.Neighbour) (set_option_of o)
set_option_given (option.Set set) h = h
set_option_given _ h = tt

usual_port : IsWithin 1 65535 179
usual_port = record { least = omega arith; most = omega arith }

no_items : IsSet places.Neighbour []
no_items = (tt, omega arith)

neighbour_form : (conf : Conf) (n : Placed) → IsFrame conf → IsPlaced n → is_none (taken remote_as_of n) ≡ false → IsNeighbour conf (neighbour_of conf n)
unfolding neighbour_of
neighbour_form conf n f h some = record {
  group = h.group;
  remote_as = unwrap_some IsAs (taken remote_as_of n) 0 some (taken_form IsAs remote_as_of remote_as_given n h);
  description = taken_form IsQuotedText description_of description_given n h;
  port = unwrap_form (IsWithin 1 65535) (taken port_of n) 179 (taken_form (IsWithin 1 65535) port_of port_given n h) usual_port;
  multihop = taken_form (IsWithin 1 255) multihop_of multihop_given n h;
  hold = unwrap_form IsHold (taken hold_option_of n) conf.hold (taken_form IsHold hold_option_of hold_option_given n h) f.hold;
  hold_min = unwrap_form (IsWithin 3 65535) (taken hold_min_option_of n) conf.hold_min (taken_form (IsWithin 3 65535) hold_min_option_of hold_min_option_given n h) f.hold_min;
  max_prefix = taken_form (IsWithin 1 4294967295) max_prefix_of max_prefix_given n h;
  rib = unwrap_form (λ k. IsName (rib_name conf k)) (option_and_then (rib_number conf.ribs) (taken rib_option_of n)) 0
      (then_form IsName (λ k. IsName (rib_name conf k)) (rib_number conf.ribs) (taken rib_option_of n) (λ name k. rib_number_form conf name f.ribs) (taken_form IsName rib_option_of rib_option_given n h)) (rib_zero conf);
  set = unwrap_form (IsSet places.Neighbour) (taken set_option_of n) [] (taken_form (IsSet places.Neighbour) set_option_of set_option_given n h) no_items;
}

placed_given : (s : Statement) → IsStatement s → Each IsPlaced (placed_in s)
placed_given (says.Neighbour own) h = (record { group = tt; shared = tt; own = h }, tt)
placed_given (says.Group group) h = each_map IsBlock IsPlaced (λ own. record { group = Some group.name; shared = group.options; block = own }) group.neighbours (λ own k. record { group = h.0; shared = h.1; own = k }) h.2
placed_given _ h = tt

pub placed_form : (lines : List StatementLine) → AreStatements lines → Each IsPlaced (placed lines)
unfolding placed
placed_form lines h = each_flat_map IsStatementLine IsPlaced (λ l. placed_in l.statement) lines (λ l k. placed_given l.statement k) h

-- in form, with an AS number
abbrev pub IsWhole : Placed → Type 0
IsWhole n = IsPlaced n × (is_none (taken remote_as_of n) ≡ false)

pub neighbours_form : (conf : Conf) (all : List Placed) → IsFrame conf → Each IsWhole all → Each (IsNeighbour conf) (neighbours_of conf all)
unfolding neighbours_of
neighbours_form conf all f h =
    each_map (IsEntry (λ (a : Addr). Unit {0}) (IsNeighbour conf)) (IsNeighbour conf) (λ entry. entry.1) _ (λ e k. k.1)
    (by_key_form (λ (a : Addr). Unit {0}) (IsNeighbour conf) addr_cmp (map (λ n. (n.block.address, neighbour_of conf n)) all)
    (each_map IsWhole (IsEntry (λ (a : Addr). Unit {0}) (IsNeighbour conf)) (λ n. (n.block.address, neighbour_of conf n)) all (λ n k. (tt, neighbour_form conf n f k.0 k.1)) h))

-- ---- rules

module _ (conf : Conf) (f : IsFrame conf) where
  names_of : {S : Type 0} (name : S → List ℕ) (Is : S → Type 0) (sets : List S) → ((s : S) → Is s → IsName (name s)) → Each Is sets → Each (λ s. IsName (name s)) sets
  names_of name Is [] w h = tt
  names_of name Is (s ∷ sets) w h = (w s h.0, names_of name Is sets w h.1)

  prefix_set_id_form : (wanted : List ℕ) → IfThere (λ id. IsName (prefix_set_name conf id.at)) (prefix_set_id conf wanted)
  unfolding prefix_set_name prefix_set_id
  prefix_set_id_form wanted = set_id_form kinds.Prefix (λ (s : PrefixSetConf). s.name) conf.prefix_sets wanted (names_of (λ (s : PrefixSetConf). s.name) IsPrefixSet conf.prefix_sets (λ s h. h.0) f.prefix_sets)

  as_set_id_form : (wanted : List ℕ) → IfThere (λ id. IsName (as_set_name conf id.at)) (as_set_id conf wanted)
  unfolding as_set_name as_set_id
  as_set_id_form wanted = set_id_form kinds.As (λ (s : AsSetConf). s.name) conf.as_sets wanted (names_of (λ (s : AsSetConf). s.name) IsAsSet conf.as_sets (λ s h. h.0) f.as_sets)

  origin_set_id_form : (wanted : List ℕ) → IfThere (λ id. IsName (origin_set_name conf id.at)) (origin_set_id conf wanted)
  unfolding origin_set_name origin_set_id
  origin_set_id_form wanted = set_id_form kinds.Origin (λ (s : OriginSetConf). s.name) conf.origin_sets wanted (names_of (λ (s : OriginSetConf). s.name) IsOriginSet conf.origin_sets (λ s h. h.0) f.origin_sets)

  one_way : {A : Type 0} (Is : A → Type 0) (make : A → Condition) (o : Option A) → ((x : A) → Is x → IsCondition conf (make x)) → IfThere Is o → Each (Each (IsCondition conf)) (option_to_list (option_map make o) ∷ [])
  one_way Is make None w h = (tt, tt)
  one_way Is make (Some x) w h = ((w x h, tt), tt)

  ways_form : (c : ConditionBlock) → IsConditionBlock c → Each (Each (IsCondition conf)) (ways conf c)
  unfolding ways
  ways_form (block.Prefixes entries) h = each_map IsRange (Each (IsCondition conf)) (λ entry. conds.Prefix entry ∷ []) entries (λ e k. (k, tt)) h
  ways_form (block.PrefixSet name) h = one_way (λ id. IsName (prefix_set_name conf id.at)) conds.PrefixSet (prefix_set_id conf name) (λ id k. k) (prefix_set_id_form name)
  ways_form (block.PrefixSetOrLonger name) h = one_way (λ id. IsName (prefix_set_name conf id.at)) conds.PrefixSetOrLonger (prefix_set_id conf name) (λ id k. k) (prefix_set_id_form name)
  ways_form (block.PathNumbers part numbers) h = (each_map _ (IsCondition conf) (conds.PathNumber part) numbers (λ n k. k) h, tt)
  ways_form (block.PathSet part name) h = one_way (λ id. IsName (as_set_name conf id.at)) (conds.PathSet part) (as_set_id conf name) (λ id k. k) (as_set_id_form name)
  ways_form (block.OriginSet name) h = one_way (λ id. IsName (origin_set_name conf id.at)) conds.OriginSet (origin_set_id conf name) (λ id k. k) (origin_set_id_form name)
  ways_form (block.Ovs state) h = ((tt, tt), tt)
  ways_form (block.Community pattern) h = ((h, tt), tt)
  ways_form (block.LargeCommunity pattern) h = ((h, tt), tt)
  ways_form (block.MaxAsLen most) h = ((h, tt), tt)
  ways_form (block.NextHop address) h = ((tt, tt), tt)
  ways_form (block.Family family) h = ((tt, tt), tt)

  map_length : (cs : List ConditionBlock) → length (map (ways conf) cs) ≡ length cs
  map_length [] = refl
  map_length (c ∷ cs) = ap suc (map_length cs)

  -- conditions in form, no more than a rule may have
  abbrev IsChoice : ℕ → List Condition → Type 0
  IsChoice n found = Each (IsCondition conf) found × (length found ≡ n)

  same_count : (n m : ℕ) (fronts : List (List Condition)) → n ≡ m → Each (AreChosen (IsCondition conf) n) fronts → Each (IsChoice m) fronts
  same_count n m [] e h = tt
  same_count n m (front ∷ fronts) e h = ((h.0.0, h.0.1 ∙ e), same_count n m fronts e h.1)

  conditions_form : (cs : List ConditionBlock) → Each IsConditionBlock cs → Each (IsChoice (length cs)) (flat_conditions conf cs)
  unfolding flat_conditions
  conditions_form cs h =
      each_flat_map (AreChosen (Each (IsCondition conf)) (0 + length (map (ways conf) cs))) (IsChoice (length cs)) choices (choices (map (ways conf) cs))
      (λ lists k. same_count (0 + length lists) (length cs) (choices lists) (omega (arith, k.1, map_length cs)) (choices_form (IsCondition conf) lists k.0))
      (choices_form (Each (IsCondition conf)) (map (ways conf) cs) (each_map IsConditionBlock (Each (Each (IsCondition conf))) (ways conf) cs ways_form h))

  rule_rib_form : (direction : Direction) (named : Option (List ℕ)) → HasRib direction named → IsRuleRib conf direction (option_and_then (rib_number conf.ribs) named)
  rule_rib_form From None h = tt
  rule_rib_form To None h = tt
  rule_rib_form From (Some name) h = received (rib_number conf.ribs name) (rib_number_form conf name f.ribs)
    where
      received : (o : Option ℕ) → IfThere (λ k. IsName (rib_name conf k)) o → IsRuleRib conf From o
      received None k = tt
      received (Some number) k = k
  rule_rib_form To (Some name) h = absurd h

  rule_with_form : (rule : RuleBlock) (peer : Peer) (found : List Condition) → IsRuleBlock rule → IsPeer peer → IsChoice (length rule.conditions) found → IsRule conf (rule_with conf rule peer found)
  unfolding rule_with
  rule_with_form rule peer found h p k = record {
    rib = rule_rib_form rule.direction rule.rib h.rib;
    peer = p;
    conditions = k.0;
    few = omega (arith, k.1, h.few);
    set = h.set;
  }

  flat_rules_form : (rule : RuleBlock) → IsRuleBlock rule → Each (IsRule conf) (flat_rules conf rule)
  unfolding flat_rules
  flat_rules_form rule h =
      each_flat_map IsPeer (IsRule conf) (λ peer. map (rule_with conf rule peer) (flat_conditions conf rule.conditions)) rule.peers
      (λ peer p. each_map (IsChoice (length rule.conditions)) (IsRule conf) (rule_with conf rule peer) (flat_conditions conf rule.conditions) (λ found k. rule_with_form rule peer found h p k) (conditions_form rule.conditions h.conditions)) h.peers

  pub rules_form : (lines : List StatementLine) → AreStatements lines → Each (IsRule conf) (rules_of conf lines)
  unfolding rules_of
  rules_form lines h = each_flat_map IsRuleBlock (IsRule conf) (flat_rules conf) (said rule_of lines) flat_rules_form (said_form IsRuleBlock rule_of rule_given lines h)
