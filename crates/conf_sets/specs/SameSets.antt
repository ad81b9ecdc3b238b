-- Configurations with the same sets.
use Rattle.std.specs.Prelude.{◌≡◌}
use Rattle.conf_tree.specs.declared.conf.Conf.{Conf}

-- the same sets of each kind, and the same authorizations
pub record SameSets (one other : Conf) : Type 0 where
  pub prefix_sets : one.prefix_sets ≡ other.prefix_sets
  pub as_sets : one.as_sets ≡ other.as_sets
  pub origin_sets : one.origin_sets ≡ other.origin_sets
  pub roas : one.roas ≡ other.roas
