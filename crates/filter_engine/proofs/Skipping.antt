-- Rules that aren't for a route change nothing.
use Rattle.std.proofs.Common.{◌≡◌, ℕ, zero, suc, ◌+◌, ◌<◌, ◌≤◌, Bool, true, false, cond, ◌&&◌, List, [], ◌∷◌, length, get_or, map, drop, Option, refl, sym, ap, ◌∙◌, subst, arith}
use Rattle.std.specs.Prelude.{◌≢◌, filter, if◌then◌else◌}
use Rattle.std.specs.List.{list_all}
use Rattle.std.proofs.lemmas.Bool.{cond-false, false_from_ne_true}
use Rattle.std.proofs.lemmas.List.{drop_more, get_or-map, length-map}
use Rattle.attr_model.specs.declared.attrs.Attrs.{Attrs}
use Rattle.attr_model.specs.Path.{origin_as}
use Rattle.conf_tree.specs.declared.conf.Conf.{Conf}
use Rattle.conf_tree.specs.declared.rule.Rule.{Rule}
use Rattle.filter_engine.specs.declared.context.Context.{Context}
use Rattle.filter_engine.specs.declared.verdict.Hop.{Hop}
use Rattle.filter_engine.specs.Conditions.{condition_holds, direction_fits, peer_fits, rib_fits, rule_matches}
use Rattle.filter_engine.specs.IsFor.{is_for}
use Rattle.filter_engine.specs.Skips.{AreNext, bucket_of, wanted}
use Rattle.filter_engine.proofs.Meets.{by_rule}
use Rattle.filter_engine.specs.Verdict.{Course, begun, evaluated, outcome, taken, verdict}

module _ (conf : Conf) (context : Context) (origin : Option ℕ) where
  false_and : (a b c d : Bool) → (a && b && c) ≡ false → (a && b && c && d) ≡ false
  false_and false b c d h = refl
  false_and true false c d h = refl
  false_and true true false d h = refl
  false_and true true true d h = absurd cc

  -- a rule that isn't for the route doesn't match
  no_match : (attrs : Attrs) (hop : Hop) (rule : Rule) → is_for context rule ≡ false → rule_matches conf context origin attrs hop rule ≡ false
  no_match attrs hop rule h =
      false_and (direction_fits rule.direction context) (rib_fits rule.rib context) (peer_fits rule.peer context)
      (list_all (condition_holds conf context origin attrs hop) rule.conditions) h

  -- one rule that isn't for the route
  one_passed : (rule : Rule) (rules : List Rule) (course : Course) → is_for context rule ≡ false → evaluated conf context origin (rule ∷ rules) course ≡ evaluated conf context origin rules course
  unfolding evaluated
  one_passed rule rules course h =
      let next = taken context course rule in
      let past = evaluated conf context origin rules course in
      ap (λ b. cond b (cond rule.quick next (evaluated conf context origin rules next)) past) (no_match course.attrs course.hop rule h)

  -- the rules that are for the route alone
  pub those_for : (rules : List Rule) (course : Course) → evaluated conf context origin (filter (is_for context) rules) course ≡ evaluated conf context origin rules course
  unfolding evaluated
  those_for [] course = refl
  those_for (rule ∷ rules) course = by (is_for context rule) refl (λ c. those_for rules c)
    where
      by : (b : Bool) → is_for context rule ≡ b → ((c : Course) → evaluated conf context origin (filter (is_for context) rules) c ≡ evaluated conf context origin rules c) → evaluated conf context origin (cond b (rule ∷ filter (is_for context) rules) (filter (is_for context) rules)) course ≡ evaluated conf context origin (rule ∷ rules) course
      by true e rest =
          let next = taken context course rule in
          λ i. cond (rule_matches conf context origin course.attrs course.hop rule) (cond rule.quick next (rest next i)) (rest course i)
      by false e rest = rest course ∙ sym (one_passed rule rules course e)

  -- some rules in a row that aren't for the route
  passed : (at to : ℕ) (rules : List Rule) (course : Course) → ((k : ℕ) (d : Rule) → at ≤ k → k < to → is_for context (get_or rules k d) ≡ false) → at ≤ to → to ≤ length rules
      → evaluated conf context origin (drop at rules) course ≡ evaluated conf context origin (drop to rules) course
  passed zero zero rules course none ordered within = refl
  passed zero (suc to) [] course none ordered within = absurd (omega (arith, within))
  passed zero (suc to) (rule ∷ rules) course none ordered within =
      one_passed rule rules course (none 0 rule (omega arith) (omega arith))
      ∙ passed zero to rules course (λ k d from before. none (suc k) d (omega arith) (omega (arith, before))) (omega arith) (omega (arith, within))
  passed (suc at) zero rules course none ordered within = absurd (omega (arith, ordered))
  passed (suc at) (suc to) [] course none ordered within = absurd (omega (arith, within))
  passed (suc at) (suc to) (rule ∷ rules) course none ordered within =
      passed at to rules course (λ k d from before. none (suc k) d (omega (arith, from)) (omega (arith, before))) (omega (arith, ordered)) (omega (arith, within))

  -- the rules before all places that a route asks for
  pub skipped : (count : ℕ) (rules : List Rule) (buckets asked places : List ℕ) (at to : ℕ) (course : Course)
      → buckets ≡ map (bucket_of count) rules → asked ≡ wanted count context
      → AreNext buckets asked at places → ((k : ℕ) → k < 10 → to ≤ get_or places k 0) → at ≤ to → to ≤ length rules
      → evaluated conf context origin (drop at rules) course ≡ evaluated conf context origin (drop to rules) course
  skipped count rules buckets asked places at to course placed is next low ordered within = passed at to rules course none ordered within
    where
      settled : AreNext (map (bucket_of count) rules) (wanted count context) at places
      settled = subst (λ (b : List ℕ). AreNext b (wanted count context) at places) placed (subst (λ (a : List ℕ). AreNext buckets a at places) is next)

      none : (k : ℕ) (d : Rule) → at ≤ k → k < to → is_for context (get_or rules k d) ≡ false
      none k d from before = false_from_ne_true (is_for context (get_or rules k d)) (λ fits. by_rule context (λ b. get_or (map (bucket_of count) rules) k 0 ≢ b) count away (get_or rules k d) fits (get_or-map (bucket_of count) rules k d 0 (omega (arith, before, within))))
        where
          away : (n : ℕ) → n < 10 → get_or (map (bucket_of count) rules) k 0 ≢ get_or (wanted count context) n 0
          away n small = (settled n small).clear k from (omega (arith, before, low n small)) (omega (arith, before, within, length-map rules (bucket_of count)))

  -- one rule that is looked at, and isn't the last
  pub followed : (rules : List Rule) (at : ℕ) (rule : Rule) (last : Bool) (old new : Course) → at < length rules → rule ≡ get_or rules at rule
      → ((rest : List Rule) → evaluated conf context origin (rule ∷ rest) old ≡ (if last then new else evaluated conf context origin rest new)) → last ≡ false
      → evaluated conf context origin (drop (at + 1) rules) new ≡ evaluated conf context origin (drop at rules) old
  followed rules at rule last old new within is step more =
      let rest = drop (at + 1) rules in
      sym (ap (λ (left : List Rule). evaluated conf context origin left old) (drop_more rules at rule within ∙ ap (λ (r : Rule). r ∷ rest) (sym is))
      ∙ (step rest ∙ cond-false last new (evaluated conf context origin rest new) more))

-- the verdict of the rules that are for the route alone
pub same_for : (conf : Conf) (context : Context) (rules : List Rule) (attrs : Attrs) → verdict conf (filter (is_for context) rules) context attrs ≡ verdict conf rules context attrs
unfolding verdict
same_for conf context rules attrs = ap outcome (those_for conf context (origin_as context.own_as attrs.path) rules (begun attrs))
