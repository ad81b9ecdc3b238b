-- The canonical draft of a configuration stands for that configuration.
use Rattle.std.proofs.Common.{◌≡◌, ◌∙◌, Option, None, Ok, Err, refl, ap}
use Rattle.std.specs.Option.{option_map_or}
use Rattle.net_base.specs.declared.conf.ConfFault.{ConfFault}
use Rattle.conf_tree.specs.declared.conf.Conf.{Conf}
use Rattle.conf_tree.specs.Flat.{placed, frame_of, neighbours_of, rules_of, flat}
use Rattle.conf_tree.specs.Checks.{missing_global, double_name, unknown_name, groups_of, first_fault, checked}
use Rattle.conf_tree.specs.Readable.{IsReadable, IsWithinLimits}
use Rattle.conf_tree.specs.Settled.{IsSettled}
use Rattle.conf_tree.specs.CanonicalDraft.{canonical_draft}
use Rattle.conf_back.proofs.Framed.{lines_back}
use Rattle.conf_back.proofs.Selected.{as_said, router_id_said}
use Rattle.conf_back.proofs.FrameBack.{frame_back}
use Rattle.conf_back.proofs.RulesBack.{rules_back}
use Rattle.conf_back.proofs.NoDoubles.{no_double_rib, no_double_table, no_double_prefix_set, no_double_as_set, no_double_origin_set}
use Rattle.conf_back.proofs.RulesKnown.{no_unknown_rule}
use Rattle.conf_back.proofs.NeighboursBack.{neighbours_back, no_double_neighbour, none_without_as, no_unknown_neighbour, no_mismatch}
use Rattle.conf_back.proofs.GroupsBack.{no_double_group, group_known}

module _ (conf : Conf) (h : IsReadable conf) (fits : IsWithinLimits conf) (s : IsSettled conf) where
  nothing_missing : missing_global (lines_back conf) ≡ None
  unfolding missing_global
  nothing_missing = rw (as_said conf, router_id_said conf) refl

  names_differ : double_name (lines_back conf) ≡ None
  unfolding double_name
  names_differ = rw (no_double_rib conf s, no_double_table conf s, no_double_prefix_set conf s, no_double_as_set conf s, no_double_origin_set conf s, no_double_group conf) refl

  names_known : unknown_name (frame_of (lines_back conf)) (lines_back conf) ≡ None
  unfolding unknown_name
  names_known =
      rw (frame_back conf s)
      (rw (no_unknown_neighbour conf h fits s, no_unknown_rule conf fits s (groups_of (lines_back conf)) (group_known conf) h.rules refl) refl)

  no_fault : first_fault (lines_back conf) ≡ None
  unfolding first_fault
  no_fault = rw (nothing_missing, names_differ, no_double_neighbour conf h fits s, none_without_as conf h fits s, names_known, no_mismatch conf h fits s) refl

  flat_back : flat (lines_back conf) ≡ conf
  unfolding flat
  flat_back =
      (λ i. record (frame_back conf s i) { neighbours = neighbours_of (frame_back conf s i) (placed (lines_back conf)); rules = rules_of (frame_back conf s i) (lines_back conf) })
      ∙ (λ i. record conf { neighbours = neighbours_back conf h fits s i; rules = rules_back conf s fits h.rules i })

-- Nothing is at fault in the canonical draft, and it stands for the configuration.
pub checked_back : (conf : Conf) → IsReadable conf → IsWithinLimits conf → IsSettled conf → checked (canonical_draft conf) ≡ Ok conf
unfolding checked
checked_back conf h fits s = ap (λ (fault : Option ConfFault). option_map_or Err fault (Ok (flat (lines_back conf)))) (no_fault conf h fits s) ∙ ap Ok (flat_back conf h fits s)
