-- What the checks leave in every configuration: its lists are in their order, no name comes twice, and each name stands for
-- something that there is.
use Rattle.std.proofs.Common.{◌≡◌, ℕ, List, Option, Some, None, Result, Ok, Err, map, refl, subst}
use Rattle.std.specs.Option.{option_or, option_map_or}
use Rattle.std.specs.Ordering.{nat_cmp}
use Rattle.net_base.specs.declared.conf.ConfFault.{ConfFault}
use Rattle.conf_tree.specs.declared.conf.Conf.{Conf}
use Rattle.conf_tree.specs.declared.draft.Draft.{Draft}
use Rattle.conf_tree.specs.declared.draft.StatementLine.{StatementLine}
use Rattle.conf_tree.specs.Faults.{◌>>=◌}
use Rattle.conf_tree.specs.Said.{said, prefix_set_of, as_set_of, origin_set_of}
use Rattle.conf_tree.specs.Flat.{range_cmp, roa_cmp, in_order, placed, frame_of, flat}
use Rattle.conf_tree.specs.Checks.{missing_global, double_name, double_neighbour, without_as, unknown_name, family_mismatch, first_fault, checked}
use Rattle.conf_tree.specs.Language.{draft_within, configuration_within}
use Rattle.conf_tree.proofs.Sorted.{sets_sorted}
use Rattle.conf_tree.specs.Settled.{IsSettled}
use Rattle.conf_sound.proofs.Lists.{or_none}
use Rattle.conf_sound.proofs.StatementForms.{Gives}
use Rattle.conf_sound.proofs.SettledLists.{prefix_entries_sorted, as_entries_sorted, origin_entries_sorted, roas_sorted, networks_sorted}
use Rattle.conf_sound.proofs.SettledNames.{ribs_distinct, tables_distinct}
use Rattle.conf_sound.proofs.SettledNeighbours.{neighbours_sorted, neighbours_of_one_family}
use Rattle.conf_sound.proofs.SettledRules.{rules_known}

-- what the checks of names and families leave
record HasNoFault (lines : List StatementLine) : Type 0 where
  names : double_name lines ≡ None
  neighbours : double_neighbour (placed lines) ≡ None
  known : unknown_name (frame_of lines) lines ≡ None
  families : family_mismatch (placed lines) ≡ None

no_fault : (lines : List StatementLine) → first_fault lines ≡ None → HasNoFault lines
unfolding first_fault
no_fault lines e =
    let last : Option ConfFault = option_or (unknown_name (frame_of lines) lines) (family_mismatch (placed lines)) in
    let globals = or_none (missing_global lines) (option_or (double_name lines) (option_or (double_neighbour (placed lines)) (option_or (without_as (placed lines)) last))) e in
    let names = or_none (double_name lines) (option_or (double_neighbour (placed lines)) (option_or (without_as (placed lines)) last)) globals.1 in
    let neighbours = or_none (double_neighbour (placed lines)) (option_or (without_as (placed lines)) last) names.1 in
    let numbers = or_none (without_as (placed lines)) last neighbours.1 in
    let known = or_none (unknown_name (frame_of lines) lines) (family_mismatch (placed lines)) numbers.1 in
    record { names = names.0; neighbours = neighbours.0; known = known.0; families = known.1 }

flat_settled : (lines : List StatementLine) → HasNoFault lines → IsSettled (flat lines)
unfolding flat frame_of
flat_settled lines h = record {
  ribs = ribs_distinct lines h.names;
  tables = tables_distinct lines h.names;
  prefix_sets = sets_sorted (λ s. s.name) (λ set. record { name = set.0; entries = set.1 }) (λ e. refl) (map (λ set. (set.0, in_order range_cmp set.1)) (said prefix_set_of lines));
  as_sets = sets_sorted (λ s. s.name) (λ set. record { name = set.0; numbers = set.1 }) (λ e. refl) (map (λ set. (set.0, in_order nat_cmp set.1)) (said as_set_of lines));
  origin_sets = sets_sorted (λ s. s.name) (λ set. record { name = set.0; entries = set.1 }) (λ e. refl) (map (λ set. (set.0, in_order roa_cmp set.1)) (said origin_set_of lines));
  prefix_entries = prefix_entries_sorted lines;
  as_entries = as_entries_sorted lines;
  origin_entries = origin_entries_sorted lines;
  roas = roas_sorted lines;
  networks = networks_sorted lines;
  neighbours = neighbours_sorted (frame_of lines) (placed lines);
  families = neighbours_of_one_family (frame_of lines) (placed lines) h.families;
  rules = rules_known lines h.neighbours h.known;
}

checked_settled : (draft : Draft) → Gives IsSettled (checked draft)
unfolding checked
checked_settled draft = by (first_fault draft.statements) refl
  where
    by : (fault : Option ConfFault) → first_fault draft.statements ≡ fault → Gives IsSettled (option_map_or Err fault (Ok (flat draft.statements)))
    by None e = flat_settled draft.statements (no_fault draft.statements e)
    by (Some fault) e = tt

configuration_settled : (limit : ℕ) (text : List ℕ) → Gives IsSettled (configuration_within limit text)
unfolding configuration_within
configuration_settled limit text = by (draft_within limit text)
  where
    by : (draft : Result Draft ConfFault) → Gives IsSettled (draft >>= checked)
    by (Ok draft) = checked_settled draft
    by (Err fault) = tt

-- every configuration that a text says is settled
pub settled : (limit : ℕ) (text : List ℕ) (conf : Conf) → configuration_within limit text ≡ Ok conf → IsSettled conf
settled limit text conf e = subst (Gives IsSettled) e (configuration_settled limit text)
