-- A configuration with one set of each kind, each without entries, as the tests use it.
use Rattle.std.specs.Prelude.{[], ◌∷◌}
use Rattle.conf_tree.specs.declared.conf.Conf.{Conf}
use Rattle.conf_tree.specs.Empty.{empty_conf}

abbrev pub empty_sets : Conf
empty_sets = record empty_conf {
  prefix_sets = record { name = []; entries = [] } ∷ [];
  as_sets = record { name = []; numbers = [] } ∷ [];
  origin_sets = record { name = []; entries = [] } ∷ [];
}
