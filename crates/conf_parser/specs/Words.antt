-- The words that begin an option, an item, a condition and a statement, as the code has them, and what stands behind each.
use Rattle.std.specs.Prelude.{ℕ, List, Ok, is_some, if◌then◌else◌, ◌==◌}
use Rattle.net_base.specs.declared.addr.Family.TheVariants as families
use Rattle.net_base.specs.declared.conf.ConfKind.TheVariants.{NotInProfile}
use Rattle.net_base.specs.declared.conf.Counted.TheVariants as counted
use Rattle.conf_tree.specs.declared.token.Token.{Token}
use Rattle.conf_tree.specs.declared.rule.Item.{Item}
use Rattle.conf_tree.specs.declared.rule.Action.{Action}
use Rattle.conf_tree.specs.declared.rule.Action.TheVariants as actions
use Rattle.conf_tree.specs.declared.rule.PathPart.TheVariants as parts
use Rattle.conf_tree.specs.declared.draft.SetPlace.{SetPlace}
use Rattle.conf_tree.specs.declared.draft.NeighbourOption.{NeighbourOption}
use Rattle.conf_tree.specs.declared.draft.NeighbourOption.TheVariants as options
use Rattle.conf_tree.specs.declared.draft.NeighbourBlock.{NeighbourBlock}
use Rattle.conf_tree.specs.declared.draft.ConditionBlock.{ConditionBlock}
use Rattle.conf_tree.specs.declared.draft.ConditionBlock.TheVariants as conditions
use Rattle.conf_tree.specs.declared.draft.Statement.{Statement}
use Rattle.conf_tree.specs.declared.draft.Statement.TheVariants as says
use Rattle.conf_tree.specs.declared.room.Room.{Room}
use Rattle.conf_tree.specs.declared.room.Lists.{Lists}
use Rattle.conf_tree.specs.Faults.{◌>>=◌}
use Rattle.conf_tree.specs.Reading.{Reading, fails, unexpected, behind, word_in, unless_full}
use Rattle.conf_tree.specs.Values.{prefix_of_word}
use Rattle.conf_tree.specs.ItemReading.{local_pref_at, med_at, weight_at, prepend_self_at, prepend_neighbor_at, origin_at, community_item_at, large_item_at, next_hop_item_at}
use Rattle.conf_tree.specs.NeighbourReading.{remote_as_at, local_address_at, description_at, port_at, multihop_at, any_hold_option_at, announce_at, max_prefix_at, rib_option_at, set_option_at, neighbour_body_at}
use Rattle.conf_tree.specs.RuleReading.{Condition, prefix_condition_at, prefix_set_condition_at, path_condition_at, origin_set_condition_at, ovs_condition_at, community_condition_at, large_condition_at, max_as_len_condition_at, next_hop_condition_at, rule_at}
use Rattle.conf_tree.specs.StatementReading.{as_statement_at, router_id_at, any_hold_statement_at, fib_update_at, qualify_at, rde_at, socket_at, listen_at, prefix_set_at, as_set_at, origin_set_at, roa_set_at, network_at, neighbour_statement_at, group_statement_at, rule_statement_at, left_out_statements}
use Rattle.conf_parser.specs.declared.neighbours.OptionWord.{OptionWord}
use Rattle.conf_parser.specs.declared.neighbours.OptionWord.TheVariants as option_words
use Rattle.conf_parser.specs.declared.items.ItemWord.{ItemWord}
use Rattle.conf_parser.specs.declared.items.ItemWord.TheVariants as item_words
use Rattle.conf_parser.specs.declared.conditions.ConditionWord.{ConditionWord}
use Rattle.conf_parser.specs.declared.conditions.ConditionWord.TheVariants as condition_words
use Rattle.conf_parser.specs.declared.statements.StatementWord.{StatementWord}
use Rattle.conf_parser.specs.declared.statements.StatementWord.TheVariants as statement_words

-- ---- an option of a neighbour or a group

abbrev pub option_behind : OptionWord → List Token → Reading NeighbourOption
option_behind option_words.RemoteAs tokens = remote_as_at tokens
option_behind option_words.LocalAddress tokens = local_address_at tokens
option_behind option_words.Descr tokens = description_at tokens
option_behind option_words.Port tokens = port_at tokens
option_behind option_words.Passive tokens = Ok (options.Passive, tokens)
option_behind option_words.Down tokens = Ok (options.Down, tokens)
option_behind option_words.Multihop tokens = multihop_at tokens
option_behind option_words.Holdtime tokens = any_hold_option_at tokens
option_behind option_words.Announce tokens = announce_at tokens
option_behind option_words.MaxPrefix tokens = max_prefix_at tokens
option_behind option_words.Rib tokens = rib_option_at tokens
option_behind option_words.Set tokens = set_option_at tokens

-- a neighbour behind its word, which stands on this line
abbrev pub neighbour_behind : ℕ → List Token → Reading NeighbourBlock
neighbour_behind line tokens = if is_some (prefix_of_word tokens) then fails NotInProfile tokens else neighbour_body_at line tokens

-- ---- an item of a set at this place

abbrev pub item_behind : SetPlace → ItemWord → List Token → Reading Item
item_behind place item_words.LocalPref tokens = local_pref_at tokens
item_behind place item_words.Med tokens = med_at tokens
item_behind place item_words.Weight tokens = weight_at tokens
item_behind place item_words.PrependSelf tokens = prepend_self_at tokens
item_behind place item_words.PrependNeighbor tokens = prepend_neighbor_at tokens
item_behind place item_words.Origin tokens = origin_at tokens
item_behind place item_words.Community tokens = community_item_at tokens
item_behind place item_words.LargeCommunity tokens = large_item_at tokens
item_behind place item_words.NextHop tokens = next_hop_item_at place tokens

-- ---- a condition of a rule, with what is left to its lists

-- a condition that leaves to the lists what it found
abbrev pub leaving : Lists → Reading ConditionBlock → Reading Condition
leaving lists reading = do
  condition ← reading
  Ok ((condition.0, lists), condition.1)

abbrev pub condition_behind : Lists → ConditionWord → List Token → Reading Condition
condition_behind lists condition_words.Prefix tokens = prefix_condition_at lists tokens
condition_behind lists condition_words.PrefixSet tokens = prefix_set_condition_at lists tokens
condition_behind lists condition_words.As tokens = path_condition_at lists parts.Any 1 tokens
condition_behind lists condition_words.SourceAs tokens = path_condition_at lists parts.Source 0 tokens
condition_behind lists condition_words.TransitAs tokens = path_condition_at lists parts.Transit 1 tokens
condition_behind lists condition_words.PeerAs tokens = path_condition_at lists parts.Peer 1 tokens
condition_behind lists condition_words.OriginSet tokens = leaving lists (origin_set_condition_at tokens)
condition_behind lists condition_words.Ovs tokens = leaving lists (ovs_condition_at tokens)
condition_behind lists condition_words.Community tokens = leaving lists (community_condition_at tokens)
condition_behind lists condition_words.LargeCommunity tokens = leaving lists (large_condition_at tokens)
condition_behind lists condition_words.MaxAsLen tokens = leaving lists (max_as_len_condition_at tokens)
condition_behind lists condition_words.NextHop tokens = leaving lists (next_hop_condition_at tokens)
condition_behind lists condition_words.Inet tokens = Ok ((conditions.Family families.V4, lists), tokens)
condition_behind lists condition_words.Inet6 tokens = Ok ((conditions.Family families.V6, lists), tokens)

-- ---- a statement

-- what begins with none of the words of statements
abbrev pub no_statement_at : List Token → Reading Statement
no_statement_at tokens = if word_in left_out_statements tokens then fails NotInProfile tokens else unexpected tokens

-- a statement from its word on
abbrev pub statement_by : Room → StatementWord → List Token → Reading Statement
statement_by room statement_words.As tokens = as_statement_at (behind tokens)
statement_by room statement_words.RouterId tokens = router_id_at (behind tokens)
statement_by room statement_words.Holdtime tokens = any_hold_statement_at (behind tokens)
statement_by room statement_words.FibUpdate tokens = fib_update_at (behind tokens)
statement_by room statement_words.Nexthop tokens = qualify_at (behind tokens)
statement_by room statement_words.Rde tokens = rde_at room (behind tokens)
statement_by room statement_words.Socket tokens = socket_at (behind tokens)
statement_by room statement_words.Listen tokens = unless_full (room.listens == 0) counted.Listens tokens (listen_at (behind tokens))
statement_by room statement_words.PrefixSet tokens = prefix_set_at room (behind tokens)
statement_by room statement_words.AsSet tokens = as_set_at room (behind tokens)
statement_by room statement_words.OriginSet tokens = origin_set_at room (behind tokens)
statement_by room statement_words.RoaSet tokens = roa_set_at room (behind tokens)
statement_by room statement_words.Network tokens = unless_full (room.networks == 0) counted.Networks tokens (network_at (behind tokens))
statement_by room statement_words.Neighbor tokens = neighbour_statement_at room tokens
statement_by room statement_words.Group tokens = unless_full (room.groups == 0) counted.Groups tokens (group_statement_at room (behind tokens))
statement_by room statement_words.Allow tokens = rule_statement_at room actions.Allow tokens
statement_by room statement_words.Deny tokens = rule_statement_at room actions.Deny tokens
statement_by room statement_words.Match tokens = rule_statement_at room actions.Match tokens

-- a rule behind its action
abbrev pub rule_behind : Room → Action → List Token → Reading Statement
rule_behind room action tokens = do
  rule ← rule_at room.rules action tokens
  Ok (says.Rule rule.0, rule.1)

-- the same where there is room for it, behind its word, which stands on this line
abbrev pub statement_behind : Room → ℕ → StatementWord → List Token → Reading Statement
statement_behind room line statement_words.As tokens = as_statement_at tokens
statement_behind room line statement_words.RouterId tokens = router_id_at tokens
statement_behind room line statement_words.Holdtime tokens = any_hold_statement_at tokens
statement_behind room line statement_words.FibUpdate tokens = fib_update_at tokens
statement_behind room line statement_words.Nexthop tokens = qualify_at tokens
statement_behind room line statement_words.Rde tokens = rde_at room tokens
statement_behind room line statement_words.Socket tokens = socket_at tokens
statement_behind room line statement_words.Listen tokens = listen_at tokens
statement_behind room line statement_words.PrefixSet tokens = prefix_set_at room tokens
statement_behind room line statement_words.AsSet tokens = as_set_at room tokens
statement_behind room line statement_words.OriginSet tokens = origin_set_at room tokens
statement_behind room line statement_words.RoaSet tokens = roa_set_at room tokens
statement_behind room line statement_words.Network tokens = network_at tokens
statement_behind room line statement_words.Group tokens = group_statement_at room tokens
statement_behind room line statement_words.Neighbor tokens = do
  neighbour ← neighbour_behind line tokens
  Ok (says.Neighbour neighbour.0, neighbour.1)
statement_behind room line statement_words.Allow tokens = rule_behind room actions.Allow tokens
statement_behind room line statement_words.Deny tokens = rule_behind room actions.Deny tokens
statement_behind room line statement_words.Match tokens = rule_behind room actions.Match tokens
