-- The sets that rules name are there.
use Rattle.std.specs.Prelude.{List}
use Rattle.std.specs.List.{All}
use Rattle.conf_tree.specs.declared.conf.Conf.{Conf}
use Rattle.conf_tree.specs.declared.sets.SetKind.TheVariants as kinds
use Rattle.conf_tree.specs.declared.rule.Condition.{Condition}
use Rattle.conf_tree.specs.declared.rule.Condition.TheVariants as asks
use Rattle.conf_tree.specs.declared.rule.Rule.{Rule}
use Rattle.conf_tree.specs.Membership.{Names}

-- the set of a condition is one of the configuration's, of the kind that is asked for
abbrev pub IsNamed : Conf → Condition → Type 0
IsNamed conf (asks.PrefixSet set) = Names conf kinds.Prefix set
IsNamed conf (asks.PrefixSetOrLonger set) = Names conf kinds.Prefix set
IsNamed conf (asks.PathSet place set) = Names conf kinds.As set
IsNamed conf (asks.OriginSet set) = Names conf kinds.Origin set
IsNamed conf condition = Unit {0}

abbrev pub AreNamed : Conf → List Rule → Type 0
AreNamed conf rules = All (λ rule. All (IsNamed conf) rule.conditions) rules
