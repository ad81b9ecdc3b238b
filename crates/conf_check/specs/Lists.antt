-- The sets and networks of a text under their keys.
use Rattle.std.specs.Prelude.{ℕ, List, map}
use Rattle.std.specs.Ordering.{nat_cmp}
use Rattle.net_base.specs.declared.prefix.Prefix.{Prefix}
use Rattle.net_base.specs.declared.roa.Roa.{Roa}
use Rattle.net_base.specs.Order.{prefix_cmp}
use Rattle.conf_tree.specs.declared.draft.StatementLine.{StatementLine}
use Rattle.conf_tree.specs.declared.rule.Item.{Item}
use Rattle.conf_tree.specs.declared.sets.PrefixRange.{PrefixRange}
use Rattle.conf_tree.specs.Said.{said, prefix_set_of, as_set_of, origin_set_of, network_of}
use Rattle.conf_tree.specs.Flat.{text_cmp, range_cmp, roa_cmp, in_order, by_key}

abbrev pub prefix_sets_by_name : List StatementLine → List (List ℕ × List PrefixRange)
prefix_sets_by_name lines = by_key text_cmp (map (λ set. (set.0, in_order range_cmp set.1)) (said prefix_set_of lines))

abbrev pub as_sets_by_name : List StatementLine → List (List ℕ × List ℕ)
as_sets_by_name lines = by_key text_cmp (map (λ set. (set.0, in_order nat_cmp set.1)) (said as_set_of lines))

abbrev pub origin_sets_by_name : List StatementLine → List (List ℕ × List Roa)
origin_sets_by_name lines = by_key text_cmp (map (λ set. (set.0, in_order roa_cmp set.1)) (said origin_set_of lines))

abbrev pub networks_by_prefix : List StatementLine → List (Prefix × List Item)
networks_by_prefix lines = by_key prefix_cmp (said network_of lines)
