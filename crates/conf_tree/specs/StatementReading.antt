-- The statements of a configuration, and the whole text of them as a draft (bgpd.conf(5)).
use Rattle.std.specs.Prelude.{ℕ, zero, suc, ◌-◌, true, false, List, [], ◌∷◌, length, drop, Option, None, Some, Result, Ok, if◌then◌else◌, ◌==◌, codes}
use Rattle.std.specs.List.{prefix_len}
use Rattle.net_base.specs.declared.roa.Roa.{Roa}
use Rattle.net_base.specs.declared.prefix.Prefix.{Prefix}
use Rattle.net_base.specs.declared.conf.ConfFault.{ConfFault}
use Rattle.net_base.specs.declared.conf.ConfKind.TheVariants.{NotInProfile}
use Rattle.net_base.specs.declared.conf.Counted.TheVariants as counted
use Rattle.conf_tree.specs.declared.token.Token.{Token}
use Rattle.conf_tree.specs.declared.sets.PrefixRange.{PrefixRange}
use Rattle.conf_tree.specs.declared.rule.Action.{Action}
use Rattle.conf_tree.specs.declared.rule.Action.TheVariants as actions
use Rattle.conf_tree.specs.declared.draft.SetPlace.TheVariants as places
use Rattle.conf_tree.specs.declared.draft.Statement.{Statement}
use Rattle.conf_tree.specs.declared.draft.Statement.TheVariants as says
use Rattle.conf_tree.specs.declared.draft.StatementLine.{StatementLine}
use Rattle.conf_tree.specs.declared.draft.Draft.{Draft}
use Rattle.conf_tree.specs.declared.room.Room.{Room as room_left}
use Rattle.conf_tree.specs.Faults.{◌>>=◌}
use Rattle.conf_tree.specs.Kinds.{is_line_end}
use Rattle.conf_tree.specs.Reading.{Reading, Member, line_of, fails, unexpected, behind, word_is, word_in, keyword_at, mark_at, line_end_at, list_at, unless_full}
use Rattle.conf_tree.specs.Values.{number_at, as_number_at, hold_at, yes_no_at, address_at, v4_at, prefix_at, width, name_at, quoted_at}
use Rattle.conf_tree.specs.ItemReading.{optional_set_at}
use Rattle.conf_tree.specs.RuleReading.{ranged_at, counted_number_at, rule_at, flat_rules_of}
use Rattle.conf_tree.specs.NeighbourReading.{neighbour_at, group_at}

-- how many more there may be of what is counted
abbrev pub Room : Type 0
Room = room_left

-- the most of each in one configuration; Loc-RIB is the sixteenth RIB
abbrev pub all_room : Room
all_room = record { neighbours = 256; groups = 64; ribs = 15; rules = 4096; networks = 4096; entries = 262144; listens = 8 }

-- what a statement leaves of it
unfoldable pub room_behind : Room → Statement → Room
room_behind room (says.As asn) = room
room_behind room (says.RouterId id) = room
room_behind room (says.Hold seconds) = room
room_behind room (says.HoldMin seconds) = room
room_behind room (says.FibUpdate on) = room
room_behind room says.QualifyDefault = room
room_behind room (says.MedCompare always) = room
room_behind room (says.Socket path) = room
room_behind room (says.Listen listen) = record room { listens = room.listens - 1 }
room_behind room (says.Rib name table) = record room { ribs = room.ribs - 1 }
room_behind room (says.PrefixSet name entries) = record room { entries = room.entries - length entries }
room_behind room (says.AsSet name numbers) = record room { entries = room.entries - length numbers }
room_behind room (says.OriginSet name entries) = record room { entries = room.entries - length entries }
room_behind room (says.RoaSet entries) = record room { entries = room.entries - length entries }
room_behind room (says.Network prefix set) = record room { networks = room.networks - 1 }
room_behind room (says.Neighbour neighbour) = record room { neighbours = room.neighbours - 1 }
room_behind room (says.Group group) = record room { groups = room.groups - 1; neighbours = room.neighbours - length group.neighbours }
room_behind room (says.Rule rule) = record room { rules = room.rules - flat_rules_of rule }

-- ---- global settings, each behind its word

unfoldable pub as_statement_at : List Token → Reading Statement
as_statement_at tokens = do
  asn ← as_number_at 1 tokens
  Ok (says.As asn.0, asn.1)

unfoldable pub router_id_at : List Token → Reading Statement
router_id_at tokens = do
  id ← v4_at tokens
  Ok (says.RouterId id.0, id.1)

unfoldable pub hold_min_statement_at : List Token → Reading Statement
hold_min_statement_at tokens = do
  seconds ← number_at 3 65535 tokens
  Ok (says.HoldMin seconds.0, seconds.1)

unfoldable pub hold_statement_at : List Token → Reading Statement
hold_statement_at tokens = do
  seconds ← hold_at tokens
  Ok (says.Hold seconds.0, seconds.1)

-- behind `holdtime`
unfoldable pub any_hold_statement_at : List Token → Reading Statement
any_hold_statement_at tokens = if word_is (codes "min") tokens then hold_min_statement_at (behind tokens) else hold_statement_at tokens

unfoldable pub fib_update_at : List Token → Reading Statement
fib_update_at tokens = do
  on ← yes_no_at tokens
  Ok (says.FibUpdate on.0, on.1)

-- behind `nexthop qualify via`
unfoldable pub qualify_word_at : List Token → Reading Statement
qualify_word_at tokens =
    if word_is (codes "bgp") tokens then fails NotInProfile tokens
    else (if word_is (codes "default") tokens then Ok (says.QualifyDefault, behind tokens) else unexpected tokens)

-- behind `nexthop`
unfoldable pub qualify_at : List Token → Reading Statement
qualify_at tokens = do
  via ← keyword_at (codes "qualify") tokens
  what ← keyword_at (codes "via") via
  qualify_word_at what

unfoldable pub compare_word_at : List Token → Reading Statement
compare_word_at tokens =
    if word_is (codes "always") tokens then Ok (says.MedCompare true, behind tokens)
    else (if word_is (codes "strict") tokens then Ok (says.MedCompare false, behind tokens) else unexpected tokens)

-- behind `rde med`
unfoldable pub med_compare_at : List Token → Reading Statement
med_compare_at tokens = do
  how ← keyword_at (codes "compare") tokens
  compare_word_at how

-- a kernel table where there may be one
unfoldable pub optional_table_at : List Token → Reading (Option ℕ)
optional_table_at tokens =
    if word_is (codes "rtable") tokens
    then (do
      table ← number_at 1 255 (behind tokens)
      Ok (Some table.0, table.1))
    else Ok (None, tokens)

-- behind `rde rib`
unfoldable pub rib_at : List Token → Reading Statement
rib_at tokens = do
  name ← name_at tokens
  table ← optional_table_at name.1
  Ok (says.Rib name.0 table.0, table.1)

-- behind `rde`
unfoldable pub rde_at : Room → List Token → Reading Statement
rde_at room tokens =
    if word_is (codes "route-age") tokens then fails NotInProfile tokens
    else (if word_is (codes "med") tokens then med_compare_at (behind tokens)
    else (if word_is (codes "rib") tokens then unless_full (room.ribs == 0) counted.Ribs tokens (rib_at (behind tokens))
    else unexpected tokens))

unfoldable pub socket_at : List Token → Reading Statement
socket_at tokens = do
  path ← quoted_at tokens
  Ok (says.Socket path.0, path.1)

-- a port where there may be one
unfoldable pub optional_port_at : List Token → Reading ℕ
optional_port_at tokens = if word_is (codes "port") tokens then number_at 1 65535 (behind tokens) else Ok (179, tokens)

-- behind `listen`
unfoldable pub listen_at : List Token → Reading Statement
listen_at tokens = do
  where_to ← keyword_at (codes "on") tokens
  address ← address_at where_to
  port ← optional_port_at address.1
  Ok (says.Listen (record { address = address.0; port = port.0 }), port.1)

-- ---- sets

-- the members of all sets are counted together; `expires` is left out of the language
unfoldable pub entry_at : {A : Type 0} → List Token → Reading A → Reading A
entry_at tokens reading = if word_is (codes "expires") tokens then fails NotInProfile tokens else reading

unfoldable pub prefix_entry_at : Member PrefixRange
prefix_entry_at full tokens = entry_at tokens (ranged_at full counted.Entries tokens)

unfoldable pub number_entry_at : Member ℕ
number_entry_at full tokens = entry_at tokens (counted_number_at 1 full counted.Entries tokens)

-- the greatest length of an authorization, which is the prefix's own where none is said
unfoldable pub optional_maxlen_at : Prefix → List Token → Reading ℕ
optional_maxlen_at prefix tokens = if word_is (codes "maxlen") tokens then number_at prefix.len (width prefix) (behind tokens) else Ok (prefix.len, tokens)

unfoldable pub source_at : List Token → Reading ℕ
source_at tokens = entry_at tokens (do
  rest ← keyword_at (codes "source-as") tokens
  as_number_at 0 rest)

-- behind the prefix of an authorization
unfoldable pub authorization_at : Prefix → List Token → Reading Roa
authorization_at prefix tokens = do
  maxlen ← optional_maxlen_at prefix tokens
  source ← source_at maxlen.1
  Ok (record { prefix = prefix; maxlen = maxlen.0; source = source.0 }, source.1)

unfoldable pub counted_authorization_at : Member Roa
counted_authorization_at full tokens = do
  prefix ← prefix_at tokens
  unless_full full counted.Entries tokens (authorization_at prefix.0 prefix.1)

unfoldable pub roa_entry_at : Member Roa
roa_entry_at full tokens = entry_at tokens (counted_authorization_at full tokens)

-- a name and `{`
unfoldable pub named_brace_at : List Token → Reading (List ℕ)
named_brace_at tokens = do
  name ← name_at tokens
  rest ← mark_at (codes "{") name.1
  Ok (name.0, rest)

unfoldable pub prefix_set_at : Room → List Token → Reading Statement
prefix_set_at room tokens = do
  name ← named_brace_at tokens
  entries ← list_at prefix_entry_at room.entries name.1
  Ok (says.PrefixSet name.0 entries.0, entries.1)

unfoldable pub as_set_at : Room → List Token → Reading Statement
as_set_at room tokens = do
  name ← named_brace_at tokens
  numbers ← list_at number_entry_at room.entries name.1
  Ok (says.AsSet name.0 numbers.0, numbers.1)

unfoldable pub origin_set_at : Room → List Token → Reading Statement
origin_set_at room tokens = do
  name ← named_brace_at tokens
  entries ← list_at roa_entry_at room.entries name.1
  Ok (says.OriginSet name.0 entries.0, entries.1)

unfoldable pub roa_set_at : Room → List Token → Reading Statement
roa_set_at room tokens = do
  rest ← mark_at (codes "{") tokens
  entries ← list_at roa_entry_at room.entries rest
  Ok (says.RoaSet entries.0, entries.1)

-- ---- networks, neighbours, groups and rules

unfoldable pub network_body_at : List Token → Reading Statement
network_body_at tokens = do
  prefix ← prefix_at tokens
  set ← optional_set_at places.Network prefix.1
  Ok (says.Network prefix.0 set.0, set.1)

-- behind `network`
unfoldable pub network_at : List Token → Reading Statement
network_at tokens =
    if word_in (codes "inet" ∷ codes "inet6" ∷ codes "prefix-set" ∷ []) tokens then fails NotInProfile tokens else network_body_at tokens

unfoldable pub neighbour_statement_at : Room → List Token → Reading Statement
neighbour_statement_at room tokens = do
  neighbour ← neighbour_at (room.neighbours == 0) tokens
  Ok (says.Neighbour neighbour.0, neighbour.1)

unfoldable pub group_statement_at : Room → List Token → Reading Statement
group_statement_at room tokens = do
  group ← group_at room.neighbours tokens
  Ok (says.Group group.0, group.1)

-- a rule, of which one more can't be taken where there is no room
unfoldable pub rule_statement_at : Room → Action → List Token → Reading Statement
rule_statement_at room action tokens =
    unless_full (room.rules == 0) counted.Rules tokens (do
      rule ← rule_at room.rules action (behind tokens)
      Ok (says.Rule rule.0, rule.1))

-- ---- a statement by its word

abbrev pub left_out_statements : List (List ℕ)
left_out_statements =
    codes "include" ∷ codes "dump" ∷ codes "log" ∷ codes "transparent-as" ∷ codes "vpn" ∷ codes "flowspec" ∷ codes "rtr" ∷ codes "aspa-set" ∷ []

unfoldable pub rule_word_at : Room → List Token → Reading Statement
rule_word_at room tokens =
    if word_is (codes "allow") tokens then rule_statement_at room actions.Allow tokens
    else (if word_is (codes "deny") tokens then rule_statement_at room actions.Deny tokens
    else (if word_is (codes "match") tokens then rule_statement_at room actions.Match tokens
    else (if word_in left_out_statements tokens then fails NotInProfile tokens
    else unexpected tokens)))

unfoldable pub peer_word_at : Room → List Token → Reading Statement
peer_word_at room tokens =
    if word_is (codes "network") tokens then unless_full (room.networks == 0) counted.Networks tokens (network_at (behind tokens))
    else (if word_is (codes "neighbor") tokens then neighbour_statement_at room tokens
    else (if word_is (codes "group") tokens then unless_full (room.groups == 0) counted.Groups tokens (group_statement_at room (behind tokens))
    else rule_word_at room tokens))

unfoldable pub set_word_at : Room → List Token → Reading Statement
set_word_at room tokens =
    if word_is (codes "prefix-set") tokens then prefix_set_at room (behind tokens)
    else (if word_is (codes "as-set") tokens then as_set_at room (behind tokens)
    else (if word_is (codes "origin-set") tokens then origin_set_at room (behind tokens)
    else (if word_is (codes "roa-set") tokens then roa_set_at room (behind tokens)
    else peer_word_at room tokens)))

unfoldable pub engine_word_at : Room → List Token → Reading Statement
engine_word_at room tokens =
    if word_is (codes "nexthop") tokens then qualify_at (behind tokens)
    else (if word_is (codes "rde") tokens then rde_at room (behind tokens)
    else (if word_is (codes "socket") tokens then socket_at (behind tokens)
    else (if word_is (codes "listen") tokens then unless_full (room.listens == 0) counted.Listens tokens (listen_at (behind tokens))
    else set_word_at room tokens)))

unfoldable pub statement_at : Room → List Token → Reading Statement
statement_at room tokens =
    if word_is (codes "AS") tokens then as_statement_at (behind tokens)
    else (if word_is (codes "router-id") tokens then router_id_at (behind tokens)
    else (if word_is (codes "holdtime") tokens then any_hold_statement_at (behind tokens)
    else (if word_is (codes "fib-update") tokens then fib_update_at (behind tokens)
    else engine_word_at room tokens)))

-- ---- the whole text

-- a statement with its line, up to the end of its line
unfoldable pub statement_line_at : Room → List Token → Reading StatementLine
statement_line_at room tokens = do
  statement ← statement_at room tokens
  rest ← line_end_at statement.1
  Ok (record { line = line_of tokens; statement = statement.0 }, rest)

-- the tokens behind all line ends in front
unfoldable pub after_empty_lines : List Token → List Token
after_empty_lines tokens = drop (prefix_len (λ token. is_line_end token.kind) tokens) tokens

-- The statements up to the end, with room for so much. There are no more of them than tokens.
unfoldable pub statements_at : Room → ℕ → List Token → Result (List StatementLine) ConfFault
statements_at room zero tokens = Ok []
statements_at room (suc most) tokens =
    if length (after_empty_lines tokens) == 0 then Ok []
    else (do
      first ← statement_line_at room (after_empty_lines tokens)
      others ← statements_at (room_behind room first.0.statement) most first.1
      Ok (first.0 ∷ others))

-- the draft that the tokens of a text write
unfoldable pub draft_of : List Token → Result Draft ConfFault
draft_of tokens = do
  statements ← statements_at all_room (length tokens) tokens
  Ok (record { statements = statements })
