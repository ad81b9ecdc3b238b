-- The routes that a rule is for.
use Rattle.std.specs.Prelude.{Bool, ◌&&◌}
use Rattle.conf_tree.specs.declared.rule.Rule.{Rule}
use Rattle.filter_engine.specs.declared.context.Context.{Context}
use Rattle.filter_engine.specs.Conditions.{direction_fits, peer_fits, rib_fits}

-- the rule is for routes of this direction, RIB and neighbour
abbrev pub is_for : Context → Rule → Bool
is_for context rule = direction_fits rule.direction context && rib_fits rule.rib context && peer_fits rule.peer context
