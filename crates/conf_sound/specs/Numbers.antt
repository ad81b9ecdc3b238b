-- The number of the named sets of a configuration.
use Rattle.std.specs.Prelude.{ℕ, ◌+◌, length}
use Rattle.conf_tree.specs.declared.conf.Conf.{Conf}

-- the sets of all three kinds that have a name
abbrev pub sets_of : Conf → ℕ
sets_of conf = length conf.prefix_sets + (length conf.as_sets + length conf.origin_sets)
