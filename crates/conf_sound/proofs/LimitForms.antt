-- The configuration of a draft that there is room for is within limits.
use Rattle.std.proofs.Common.{◌≡◌, ◌∙◌, ℕ, ◌+◌, ◌≤◌, List, length, map, Option, Some, None, Ok, Err, refl, sym, arith}
use Rattle.std.specs.List.{flat_map}
use Rattle.std.specs.Option.{option_map_or}
use Rattle.std.specs.Ordering.{nat_cmp}
use Rattle.std.specs.declared.cmp.Ordering.{Ordering}
use Rattle.net_base.specs.declared.conf.ConfFault.{ConfFault}
use Rattle.net_base.specs.declared.roa.Roa.{Roa}
use Rattle.net_base.specs.declared.prefix.Prefix.{Prefix}
use Rattle.net_base.specs.Order.{prefix_cmp}
use Rattle.conf_tree.specs.declared.conf.Network.{Network}
use Rattle.conf_tree.specs.declared.draft.Draft.{Draft}
use Rattle.conf_tree.specs.declared.draft.Statement.{Statement}
use Rattle.conf_tree.specs.declared.draft.StatementLine.{StatementLine}
use Rattle.conf_tree.specs.declared.rule.Item.{Item}
use Rattle.conf_tree.specs.declared.sets.AsSetConf.{AsSetConf}
use Rattle.conf_tree.specs.declared.sets.OriginSetConf.{OriginSetConf}
use Rattle.conf_tree.specs.declared.sets.PrefixSetConf.{PrefixSetConf}
use Rattle.conf_tree.specs.Said.{said, listen_of, rib_of, prefix_set_of, as_set_of, origin_set_of, roas_of, network_of, rule_of}
use Rattle.conf_tree.specs.Flat.{text_cmp, range_cmp, roa_cmp, in_order, by_key, prefix_sets_of, as_sets_of, origin_sets_of, roas_said, networks_of, frame_of, flat}
use Rattle.conf_tree.specs.Checks.{group_name_of, first_fault, checked}
use Rattle.conf_tree.specs.RuleReading.{flat_rules_of}
use Rattle.conf_tree.specs.StatementReading.{all_room}
use Rattle.conf_tree.specs.Readable.{total, IsWithinLimits}
use Rattle.conf_sound.proofs.StatementForms.{Gives, IsDraft}
use Rattle.conf_sound.proofs.Totals.{there, total_le, total_both, total_ones, total_map, total_filter_map}
use Rattle.conf_sound.proofs.Sizes.{in_order_size, by_key_total, by_key_size}
use Rattle.conf_sound.proofs.ChoiceSizes.{length_flat_map, length_mapped, rules_size}
use Rattle.conf_sound.proofs.StatementCounts.{AreFew, few_statements}
use Rattle.conf_sound.proofs.GroupSizes.{few_neighbours, few_groups}

-- what statements of one kind say is as much as they count
said_total : {A : Type 0} (count : A → ℕ) (what : Statement → Option A) (lines : List StatementLine) → total count (said what lines) ≡ total (λ l. there count (what l.statement)) lines
said_total count what lines = total_filter_map count (λ l. what l.statement) lines

pub said_size : {A : Type 0} (what : Statement → Option A) (lines : List StatementLine) → length (said what lines) ≡ total (λ l. there (λ x. 1) (what l.statement)) lines
said_size {A} what lines = sym (total_ones (said what lines)) ∙ said_total (λ (x : A). 1) what lines

-- ---- sets

module _ {A S : Type 0} (cmp : A → A → Ordering) (what : Statement → Option (List ℕ × List A)) (make : List ℕ × List A → S) (count : S → ℕ) (counts : (set : List ℕ × List A) → count (make set) ≡ length set.1) (lines : List StatementLine) where
  abbrev ordered : List ℕ × List A → List ℕ × List A
  ordered set = (set.0, in_order cmp set.1)

  -- sets by name, each in order, have no more entries than the statements
  sets_total : total count (map make (by_key text_cmp (map ordered (said what lines)))) ≤ total (λ l. there (λ set. length set.1) (what l.statement)) lines
  sets_total =
      let all : List (List ℕ × List A) = map ordered (said what lines) in
      let made = total_map count make (by_key text_cmp all) in
      let same = total_le (λ set. count (make set)) (λ (set : List ℕ × List A). length set.1) (by_key text_cmp all) (λ set. omega (arith, counts set)) in
      let once = by_key_total text_cmp (λ (entries : List A). length entries) all in
      let each = total_map (λ (set : List ℕ × List A). length set.1) ordered (said what lines) in
      let fewer = total_le (λ set. length (ordered set).1) (λ (set : List ℕ × List A). length set.1) (said what lines) (λ set. in_order_size cmp set.1) in
      omega (arith, made, same, once, each, fewer, said_total (λ (set : List ℕ × List A). length set.1) what lines)

module _ (lines : List StatementLine) where
  abbrev prefix_entries : ℕ
  prefix_entries = total (λ l. there (λ set. length set.1) (prefix_set_of l.statement)) lines

  abbrev as_entries : ℕ
  as_entries = total (λ l. there (λ set. length set.1) (as_set_of l.statement)) lines

  abbrev origin_entries : ℕ
  origin_entries = total (λ l. there (λ set. length set.1) (origin_set_of l.statement)) lines

  abbrev roa_entries : ℕ
  roa_entries = total (λ l. length (roas_of l.statement)) lines

  prefix_sets_total : total (λ s. length s.entries) (prefix_sets_of lines) ≤ prefix_entries
  prefix_sets_total = sets_total range_cmp prefix_set_of (λ set. record { name = set.0; entries = set.1 }) (λ (s : PrefixSetConf). length s.entries) (λ set. refl) lines

  as_sets_total : total (λ s. length s.numbers) (as_sets_of lines) ≤ as_entries
  as_sets_total = sets_total nat_cmp as_set_of (λ set. record { name = set.0; numbers = set.1 }) (λ (s : AsSetConf). length s.numbers) (λ set. refl) lines

  origin_sets_total : total (λ s. length s.entries) (origin_sets_of lines) ≤ origin_entries
  origin_sets_total = sets_total roa_cmp origin_set_of (λ set. record { name = set.0; entries = set.1 }) (λ (s : OriginSetConf). length s.entries) (λ set. refl) lines

  roas_size : length (roas_said lines) ≤ roa_entries
  roas_size =
      let of_line : StatementLine → List Roa = λ l. roas_of l.statement in
      omega (arith, in_order_size roa_cmp (flat_map of_line lines), length_flat_map of_line lines)

  few_entries : AreFew all_room lines → total (λ s. length s.entries) (prefix_sets_of lines) + (total (λ s. length s.numbers) (as_sets_of lines) + (total (λ s. length s.entries) (origin_sets_of lines) + length (roas_said lines))) ≤ 262144
  few_entries few =
      let origins = total_both (λ (l : StatementLine). there (λ set. length set.1) (origin_set_of l.statement)) (λ l. length (roas_of l.statement)) lines in
      let numbers = total_both (λ (l : StatementLine). there (λ set. length set.1) (as_set_of l.statement)) (λ l. there (λ set. length set.1) (origin_set_of l.statement) + length (roas_of l.statement)) lines in
      let all = total_both (λ (l : StatementLine). there (λ set. length set.1) (prefix_set_of l.statement)) (λ l. there (λ set. length set.1) (as_set_of l.statement) + (there (λ set. length set.1) (origin_set_of l.statement) + length (roas_of l.statement))) lines in
      omega (arith, few.entries, origins, numbers, all, prefix_sets_total, as_sets_total, origin_sets_total, roas_size)

  -- ---- the others

  few_networks : AreFew all_room lines → length (networks_of lines) ≤ 4096
  few_networks few =
      let make : Prefix × List Item → Network = λ network. record { prefix = network.0; set = network.1 } in
      omega (arith, few.networks, length_mapped make (by_key prefix_cmp (said network_of lines)), by_key_size prefix_cmp (said network_of lines), said_size network_of lines)

  flat_within : AreFew all_room lines → IsWithinLimits (flat lines)
  unfolding flat frame_of
  flat_within few = record {
    listens = omega (arith, few.listens, said_size listen_of lines);
    ribs = omega (arith, few.ribs, said_size rib_of lines);
    entries = few_entries few;
    networks = few_networks few;
    neighbours = omega (arith, few.neighbours, few_neighbours (frame_of lines) lines);
    groups = omega (arith, few.groups, few_groups (frame_of lines) lines, said_size group_name_of lines);
    rules = omega (arith, few.rules, rules_size (frame_of lines) lines, said_total flat_rules_of rule_of lines);
  }

-- the configuration of a draft that there is room for
pub checked_within : (draft : Draft) → IsDraft draft → Gives IsWithinLimits (checked draft)
unfolding checked
checked_within draft h = by (first_fault draft.statements)
  where
    by : (fault : Option ConfFault) → Gives IsWithinLimits (option_map_or Err fault (Ok (flat draft.statements)))
    by None = flat_within draft.statements (few_statements all_room draft.statements h.1)
    by (Some fault) = tt
