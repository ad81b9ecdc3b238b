-- What the rules decide of a route (bgpd.conf(5), FILTER).
use Rattle.std.specs.Prelude.{◌≡◌, ◌≢◌, ℕ, Bool, true, false, List, [], ◌∷◌, Option, Some, None, if◌then◌else◌}
use Rattle.attr_model.specs.declared.attrs.Attrs.{Attrs}
use Rattle.attr_model.specs.Path.{origin_as}
use Rattle.attr_model.specs.Valid.{IsValid}
use Rattle.conf_tree.specs.declared.conf.Conf.{Conf}
use Rattle.conf_tree.specs.declared.rule.Action.{Action}
use Rattle.conf_tree.specs.declared.rule.Action.TheVariants as does
use Rattle.conf_tree.specs.declared.rule.Rule.{Rule}
use Rattle.filter_engine.specs.declared.context.Context.{Context}
use Rattle.filter_engine.specs.declared.verdict.Hop.{Hop}
use Rattle.filter_engine.specs.declared.verdict.Hop.TheVariants.{Unset}
use Rattle.filter_engine.specs.declared.verdict.Verdict.{Verdict}
use Rattle.filter_engine.specs.declared.verdict.Verdict.TheVariants.{Deny, Same, Changed}
use Rattle.filter_engine.specs.Conditions.{rule_matches}
use Rattle.filter_engine.specs.Items.{with_items, hop_with_items}

-- how a route stands behind some rules: its attributes, the choice of its next hop, and whether it passes
pub record Course : Type 0 where
  pub attrs : Attrs
  pub hop : Hop
  pub passes : Bool

-- at first nothing is chosen, and the route doesn't pass
abbrev pub begun : Attrs → Course
begun attrs = record { attrs = attrs; hop = Unset; passes = false }

-- `match` decides nothing
abbrev pub decided : Action → Bool → Bool
decided does.Allow passes = true
decided does.Deny passes = false
decided does.Match passes = passes

-- a rule that matches applies its set, whatever it decides
abbrev pub taken : Context → Course → Rule → Course
taken context course rule = record {
  attrs = with_items context course.attrs rule.set;
  hop = hop_with_items context course.hop rule.set;
  passes = decided rule.action course.passes;
}

-- The rules in order, each for the route as those before it left it. A quick rule that matches is the last.
unfoldable pub evaluated : Conf → Context → Option ℕ → List Rule → Course → Course
evaluated conf context origin [] course = course
evaluated conf context origin (rule ∷ rules) course =
    if rule_matches conf context origin course.attrs course.hop rule
    then (if rule.quick then taken context course rule else evaluated conf context origin rules (taken context course rule))
    else evaluated conf context origin rules course

-- the attributes and the choice of the next hop, or nothing for a route that doesn't pass
abbrev pub outcome : Course → Option (Attrs × Hop)
outcome course = if course.passes then Some (course.attrs, course.hop) else None

unfoldable pub verdict : Conf → List Rule → Context → Attrs → Option (Attrs × Hop)
verdict conf rules context attrs = outcome (evaluated conf context (origin_as context.own_as attrs.path) rules (begun attrs))

-- A verdict says so: deny, or the choice of the next hop, with the attributes exactly where they changed.
abbrev pub Says : Attrs → Option (Attrs × Hop) → Verdict → Type 0
Says route None said = said ≡ Deny
Says route (Some (attrs, hop)) said = (attrs ≡ route → said ≡ Same hop) × (attrs ≢ route → said ≡ Changed attrs hop)

-- the attributes of a verdict, where it changes them, could be sent
abbrev pub IsValidVerdict : Verdict → Type 0
IsValidVerdict (Changed attrs hop) = IsValid attrs
IsValidVerdict said = Unit {0}
