-- The sets of a configuration stand in the order of their names, each name once.
use Rattle.std.specs.Ordering.{on}
use Rattle.std.specs.List.Sorted.{IsStrictlySortedBy}
use Rattle.conf_tree.specs.declared.conf.Conf.{Conf}
use Rattle.conf_tree.specs.Flat.{text_cmp}

pub record HasOrderedSets (conf : Conf) : Type 0 where
  pub prefix_sets : IsStrictlySortedBy (on (λ s. s.name) text_cmp) conf.prefix_sets
  pub as_sets : IsStrictlySortedBy (on (λ s. s.name) text_cmp) conf.as_sets
  pub origin_sets : IsStrictlySortedBy (on (λ s. s.name) text_cmp) conf.origin_sets
