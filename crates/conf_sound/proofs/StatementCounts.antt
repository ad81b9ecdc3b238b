-- All statements that there is room for count no more than the room.
use Rattle.std.proofs.Common.{ℕ, ◌+◌, ◌≤◌, List, [], ◌∷◌, length, Some, arith}
use Rattle.conf_tree.specs.declared.draft.NeighbourBlock.{NeighbourBlock}
use Rattle.conf_tree.specs.declared.draft.Statement.{Statement}
use Rattle.conf_tree.specs.declared.draft.Statement.TheVariants as says
use Rattle.conf_tree.specs.declared.draft.StatementLine.{StatementLine}
use Rattle.conf_tree.specs.Said.{listen_of, rib_of, prefix_set_of, as_set_of, origin_set_of, roas_of, network_of, rule_of}
use Rattle.conf_tree.specs.Checks.{group_name_of}
use Rattle.conf_tree.specs.Flat.{Placed, placed_in}
use Rattle.conf_tree.specs.RuleReading.{flat_rules_of}
use Rattle.conf_tree.specs.StatementReading.{Room, room_behind}
use Rattle.conf_tree.specs.Readable.{total}
use Rattle.conf_sound.specs.InRoom.{Fits, AllFit}
use Rattle.conf_sound.proofs.Totals.{there}
use Rattle.conf_sound.proofs.ChoiceSizes.{length_mapped}

abbrev pub listens_in : Statement → ℕ
listens_in s = there (λ x. 1) (listen_of s)

abbrev pub ribs_in : Statement → ℕ
ribs_in s = there (λ x. 1) (rib_of s)

abbrev pub networks_in : Statement → ℕ
networks_in s = there (λ x. 1) (network_of s)

abbrev pub groups_in : Statement → ℕ
groups_in s = there (λ x. 1) (group_name_of s)

abbrev pub neighbours_in : Statement → ℕ
neighbours_in s = length (placed_in s)

abbrev pub rules_in : Statement → ℕ
rules_in s = there flat_rules_of (rule_of s)

abbrev pub entries_in : Statement → ℕ
entries_in s = there (λ set. length set.1) (prefix_set_of s) + (there (λ set. length set.1) (as_set_of s) + (there (λ set. length set.1) (origin_set_of s) + length (roas_of s)))

-- ---- what one statement counts comes off the room

module _ (room : Room) where
  listens_left : (s : Statement) → Fits room s → listens_in s + (room_behind room s).listens ≤ room.listens
  unfolding room_behind
  listens_left (says.Listen listen) h = omega (arith, h)
  listens_left _ h = omega arith

  ribs_left : (s : Statement) → Fits room s → ribs_in s + (room_behind room s).ribs ≤ room.ribs
  unfolding room_behind
  ribs_left (says.Rib name table) h = omega (arith, h)
  ribs_left _ h = omega arith

  networks_left : (s : Statement) → Fits room s → networks_in s + (room_behind room s).networks ≤ room.networks
  unfolding room_behind
  networks_left (says.Network prefix set) h = omega (arith, h)
  networks_left _ h = omega arith

  groups_left : (s : Statement) → Fits room s → groups_in s + (room_behind room s).groups ≤ room.groups
  unfolding room_behind
  groups_left (says.Group group) h = omega (arith, h.0)
  groups_left _ h = omega arith

  neighbours_left : (s : Statement) → Fits room s → neighbours_in s + (room_behind room s).neighbours ≤ room.neighbours
  unfolding room_behind
  neighbours_left (says.Neighbour neighbour) h = omega (arith, h)
  neighbours_left (says.Group group) h =
      let in_group : NeighbourBlock → Placed = λ own. record { group = Some group.name; shared = group.options; block = own } in
      omega (arith, h.1, length_mapped in_group group.neighbours)
  neighbours_left _ h = omega arith

  rules_left : (s : Statement) → Fits room s → rules_in s + (room_behind room s).rules ≤ room.rules
  unfolding room_behind
  rules_left (says.Rule rule) h = omega (arith, h)
  rules_left _ h = omega arith

  entries_left : (s : Statement) → Fits room s → entries_in s + (room_behind room s).entries ≤ room.entries
  unfolding room_behind
  entries_left (says.PrefixSet name entries) h = omega (arith, h)
  entries_left (says.AsSet name numbers) h = omega (arith, h)
  entries_left (says.OriginSet name entries) h = omega (arith, h)
  entries_left (says.RoaSet entries) h = omega (arith, h)
  entries_left _ h = omega arith

-- ---- and so what they count in all

module _ (count : Statement → ℕ) (left : Room → ℕ) (step : (room : Room) (s : Statement) → Fits room s → count s + left (room_behind room s) ≤ left room) where
  all_counted : (room : Room) (lines : List StatementLine) → AllFit room lines → total (λ l. count l.statement) lines ≤ left room
  all_counted room [] h = omega arith
  all_counted room (l ∷ lines) h = omega (arith, step room l.statement h.0, all_counted (room_behind room l.statement) lines h.1)

pub record AreFew (room : Room) (lines : List StatementLine) : Type 0 where
  pub listens : total (λ l. listens_in l.statement) lines ≤ room.listens
  pub ribs : total (λ l. ribs_in l.statement) lines ≤ room.ribs
  pub networks : total (λ l. networks_in l.statement) lines ≤ room.networks
  pub groups : total (λ l. groups_in l.statement) lines ≤ room.groups
  pub neighbours : total (λ l. neighbours_in l.statement) lines ≤ room.neighbours
  pub rules : total (λ l. rules_in l.statement) lines ≤ room.rules
  pub entries : total (λ l. entries_in l.statement) lines ≤ room.entries

pub few_statements : (room : Room) (lines : List StatementLine) → AllFit room lines → AreFew room lines
few_statements room lines h = record {
  listens = all_counted listens_in (λ room. room.listens) listens_left room lines h;
  ribs = all_counted ribs_in (λ room. room.ribs) ribs_left room lines h;
  networks = all_counted networks_in (λ room. room.networks) networks_left room lines h;
  groups = all_counted groups_in (λ room. room.groups) groups_left room lines h;
  neighbours = all_counted neighbours_in (λ room. room.neighbours) neighbours_left room lines h;
  rules = all_counted rules_in (λ room. room.rules) rules_left room lines h;
  entries = all_counted entries_in (λ room. room.entries) entries_left room lines h;
}
