-- The attributes of a verdict are valid where those of the route were.
use Rattle.std.proofs.Common.{◌≡◌, ◌≢◌, ℕ, Bool, true, false, List, [], ◌∷◌, Option, Some, refl, ap, subst}
use Rattle.std.proofs.lemmas.Bool.{cond_both}
use Rattle.std.proofs.lemmas.Option.{none-some, same_Some}
use Rattle.attr_model.specs.declared.attrs.Attrs.{Attrs}
use Rattle.attr_model.specs.Path.{origin_as}
use Rattle.attr_model.specs.Valid.{IsValid}
use Rattle.conf_tree.specs.declared.conf.Conf.{Conf}
use Rattle.conf_tree.specs.declared.rule.Rule.{Rule}
use Rattle.filter_engine.specs.declared.context.Context.{Context}
use Rattle.filter_engine.specs.declared.verdict.Hop.{Hop}
use Rattle.filter_engine.specs.declared.verdict.Verdict.{Verdict}
use Rattle.filter_engine.specs.declared.verdict.Verdict.TheVariants.{Deny, Same, Changed}
use Rattle.filter_engine.specs.Conditions.{rule_matches}
use Rattle.filter_engine.specs.Verdict.{Course, IsValidVerdict, Says, begun, evaluated, outcome, taken, verdict}
use Rattle.filter_engine.proofs.ItemsValid.{items_valid}

pub evaluated_valid : (conf : Conf) (context : Context) (origin : Option ℕ) (rules : List Rule) (course : Course) → IsValid course.attrs → IsValid (evaluated conf context origin rules course).attrs
unfolding evaluated
evaluated_valid conf context origin [] course valid = valid
evaluated_valid conf context origin (rule ∷ rules) course valid =
    let next = taken context course rule in
    let applied : IsValid next.attrs = items_valid context course.attrs rule.set valid in
    let after = evaluated conf context origin rules next in
    let past = evaluated conf context origin rules course in
    cond_both (rule_matches conf context origin course.attrs course.hop rule) _ past (λ (c : Course). IsValid c.attrs)
    (λ _. cond_both rule.quick next after (λ (c : Course). IsValid c.attrs) (λ _. applied) (λ _. evaluated_valid conf context origin rules next applied))
    (λ _. evaluated_valid conf context origin rules course valid)

-- what is decided of a course with valid attributes
pub said_valid : (route : Attrs) (course : Course) (said : Verdict) → IsValid course.attrs → Says route (outcome course) said → IsValidVerdict said
said_valid route course Deny valid says = tt
said_valid route course (Same hop) valid says = tt
said_valid route course (Changed attrs hop) valid says = by course.passes refl
  where
    by : (passes : Bool) → course.passes ≡ passes → IsValid attrs
    by true e =
        let both : Says route (Some (course.attrs, course.hop)) (Changed attrs hop) = rw e at says in
        let other : course.attrs ≢ route = λ same. changed (both.0 same) in
        subst IsValid (same_attrs (both.1 other)) valid
      where
        changed : Changed attrs hop ≡ Same course.hop → ⊥
        changed h = cc

        same_attrs : Changed attrs hop ≡ Changed course.attrs course.hop → course.attrs ≡ attrs
        same_attrs h = cc
    by false e =
        let denied : Changed attrs hop ≡ Deny = rw e at says in
        absurd cc

-- the attributes that rules let pass
pub passed_valid : (conf : Conf) (rules : List Rule) (context : Context) (attrs told : Attrs) (hop : Hop) → verdict conf rules context attrs ≡ Some (told, hop) → IsValid attrs → IsValid told
unfolding verdict
passed_valid conf rules context attrs told hop e valid =
    let course = evaluated conf context (origin_as context.own_as attrs.path) rules (begun attrs) in
    subst IsValid (told_attrs course e) (evaluated_valid conf context (origin_as context.own_as attrs.path) rules (begun attrs) valid)
  where
    told_attrs : (course : Course) → outcome course ≡ Some (told, hop) → course.attrs ≡ told
    told_attrs course h = decided course.passes h
      where
        decided : (b : Bool) → outcome (record course { passes = b }) ≡ Some (told, hop) → course.attrs ≡ told
        decided true h = ap (λ (p : Attrs × Hop). p.0) (same_Some (course.attrs, course.hop) (told, hop) h)
        decided false h = absurd (none-some (told, hop) h)
