-- What depends on a configuration depends on its sets alone.
use Rattle.std.proofs.Common.{◌≡◌, ℕ, cond, ◌&&◌, List, [], ◌∷◌, Option, None, refl, ap}
use Rattle.std.specs.Prelude.{◌==◌}
use Rattle.std.specs.List.{list_any, list_all}
use Rattle.net_base.specs.declared.prefix.Prefix.{Prefix}
use Rattle.net_base.specs.Prefix.{covers}
use Rattle.net_base.specs.Roa.{matches, origin_validation}
use Rattle.attr_model.specs.declared.attrs.Attrs.{Attrs}
use Rattle.attr_model.specs.Path.{origin_as}
use Rattle.conf_tree.specs.declared.conf.Conf.{Conf}
use Rattle.conf_tree.specs.declared.sets.SetId.{SetId}
use Rattle.conf_tree.specs.declared.rule.Condition.{Condition}
use Rattle.conf_tree.specs.declared.rule.Condition.TheVariants as asks
use Rattle.conf_tree.specs.declared.rule.Rule.{Rule}
use Rattle.conf_tree.specs.Membership.{entries_at, holds, in_prefix_set, in_prefix_set_or_longer, in_as_set, in_origin_set}
use Rattle.filter_engine.specs.declared.context.Context.{Context}
use Rattle.filter_engine.specs.declared.verdict.Hop.{Hop}
use Rattle.filter_engine.specs.Conditions.{condition_holds, direction_fits, peer_fits, rib_fits, rule_matches, same_ovs, numbers_in, path_numbers}
use Rattle.filter_engine.specs.Verdict.{Course, begun, taken, evaluated, outcome, verdict}

module _ (one other : Conf) (prefixes : one.prefix_sets ≡ other.prefix_sets) (numbers : one.as_sets ≡ other.as_sets) (origins : one.origin_sets ≡ other.origin_sets) (roas : one.roas ≡ other.roas) where
  same_prefix_set : (set : SetId) (prefix : Prefix) → in_prefix_set one set prefix ≡ in_prefix_set other set prefix
  unfolding in_prefix_set
  same_prefix_set set prefix = ap (λ sets. list_any (holds prefix) (entries_at (λ s. s.entries) sets set.at)) prefixes

  same_or_longer : (set : SetId) (prefix : Prefix) → in_prefix_set_or_longer one set prefix ≡ in_prefix_set_or_longer other set prefix
  unfolding in_prefix_set_or_longer
  same_or_longer set prefix = ap (λ sets. list_any (λ entry. covers entry.prefix prefix) (entries_at (λ s. s.entries) sets set.at)) prefixes

  same_as_set : (set : SetId) (asn : ℕ) → in_as_set one set asn ≡ in_as_set other set asn
  unfolding in_as_set
  same_as_set set asn = ap (λ sets. list_any (λ number. number == asn) (entries_at (λ s. s.numbers) sets set.at)) numbers

  same_origin_set : (set : SetId) (prefix : Prefix) (origin : Option ℕ) → in_origin_set one set prefix origin ≡ in_origin_set other set prefix origin
  unfolding in_origin_set
  same_origin_set set prefix origin = ap (λ sets. list_any (matches prefix origin) (entries_at (λ s. s.entries) sets set.at)) origins

  same_condition : (context : Context) (origin : Option ℕ) (attrs : Attrs) (hop : Hop) (condition : Condition) → condition_holds one context origin attrs hop condition ≡ condition_holds other context origin attrs hop condition
  same_condition context origin attrs hop (asks.Prefix range) = refl
  same_condition context origin attrs hop (asks.PrefixSet set) = same_prefix_set set context.prefix
  same_condition context origin attrs hop (asks.PrefixSetOrLonger set) = same_or_longer set context.prefix
  same_condition context origin attrs hop (asks.PathNumber place asn) = refl
  same_condition context origin attrs hop (asks.PathSet place set) = λ i. list_any (λ asn. same_as_set set asn i) (numbers_in place (path_numbers attrs.path))
  same_condition context origin attrs hop (asks.OriginSet set) = same_origin_set set context.prefix origin
  same_condition context origin attrs hop (asks.Ovs wanted) = ap (λ table. same_ovs (origin_validation table context.prefix origin) wanted) roas
  same_condition context origin attrs hop (asks.Community pattern) = refl
  same_condition context origin attrs hop (asks.LargeCommunity pattern) = refl
  same_condition context origin attrs hop (asks.MaxAsLen most) = refl
  same_condition context origin attrs hop (asks.NextHop address) = refl
  same_condition context origin attrs hop (asks.Family family) = refl

  same_matches : (context : Context) (origin : Option ℕ) (attrs : Attrs) (hop : Hop) (rule : Rule) → rule_matches one context origin attrs hop rule ≡ rule_matches other context origin attrs hop rule
  same_matches context origin attrs hop rule = λ i. direction_fits rule.direction context && rib_fits rule.rib context && peer_fits rule.peer context
      && list_all (λ condition. same_condition context origin attrs hop condition i) rule.conditions

  same_evaluated : (context : Context) (origin : Option ℕ) (rules : List Rule) (course : Course) → evaluated one context origin rules course ≡ evaluated other context origin rules course
  unfolding evaluated
  same_evaluated context origin [] course = refl
  same_evaluated context origin (rule ∷ rules) course =
      let next = taken context course rule in
      let here = same_matches context origin course.attrs course.hop rule in
      let after = same_evaluated context origin rules next in
      let past = same_evaluated context origin rules course in
      λ i. cond (here i) (cond rule.quick next (after i)) (past i)

  pub same_verdict : (rules : List Rule) (context : Context) (attrs : Attrs) → verdict one rules context attrs ≡ verdict other rules context attrs
  unfolding verdict
  same_verdict rules context attrs = ap outcome (same_evaluated context (origin_as context.own_as attrs.path) rules (begun attrs))

pub no_rules : (conf : Conf) (context : Context) (attrs : Attrs) → verdict conf [] context attrs ≡ None
unfolding verdict evaluated
no_rules conf context attrs = refl
