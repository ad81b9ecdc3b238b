-- A next hop that rules give has the family of the prefix.
use Rattle.std.proofs.Common.{◌≡◌, ℕ, Bool, true, false, List, [], ◌∷◌, Option, Some, refl, ap, subst}
use Rattle.std.specs.Prelude.{if◌then◌else◌}
use Rattle.std.proofs.lemmas.Bool.{cond_both}
use Rattle.std.proofs.lemmas.Option.{same_Some, none-some}
use Rattle.net_base.specs.declared.addr.Addr.{Addr}
use Rattle.net_base.specs.Order.{same_family}
use Rattle.attr_model.specs.declared.attrs.Attrs.{Attrs}
use Rattle.attr_model.specs.Path.{origin_as}
use Rattle.conf_tree.specs.declared.conf.Conf.{Conf}
use Rattle.conf_tree.specs.declared.rule.NextHop.{NextHop}
use Rattle.conf_tree.specs.declared.rule.NextHop.TheVariants as next
use Rattle.conf_tree.specs.declared.rule.Item.{Item}
use Rattle.conf_tree.specs.declared.rule.Item.TheVariants as sets
use Rattle.conf_tree.specs.declared.rule.Rule.{Rule}
use Rattle.filter_engine.specs.declared.context.Context.{Context}
use Rattle.filter_engine.specs.declared.verdict.Hop.{Hop}
use Rattle.filter_engine.specs.declared.verdict.Hop.TheVariants.{Unset, Given}
use Rattle.filter_engine.specs.Conditions.{rule_matches}
use Rattle.filter_engine.specs.Items.{chosen_hop, hop_with_item, hop_with_items}
use Rattle.filter_engine.specs.Verdict.{Course, begun, evaluated, outcome, taken, verdict}

module _ (context : Context) where
  abbrev Fits : Hop → Type 0
  Fits hop = (address : Addr) → hop ≡ Given address → same_family address.family context.prefix.family ≡ true

  unset_fits : Fits Unset
  unset_fits address e = absurd cc

  chosen_fits : (hop : Hop) (choice : NextHop) → Fits hop → Fits (chosen_hop context hop choice)
  chosen_fits hop (next.Address given) fits = decided (same_family given.family context.prefix.family) refl
    where
      decided : (b : Bool) → same_family given.family context.prefix.family ≡ b → Fits (if b then Given given else hop)
      decided true e address same = subst (λ (a : Addr). same_family a.family context.prefix.family ≡ true) (given_is same) e
        where
          given_is : Given given ≡ Given address → given ≡ address
          given_is h = cc
      decided false e address same = fits address same
  chosen_fits hop next.Own fits = λ address e. absurd cc
  chosen_fits hop next.NoModify fits = λ address e. absurd cc

  item_fits : (hop : Hop) (item : Item) → Fits hop → Fits (hop_with_item context hop item)
  item_fits hop (sets.NextHop choice) fits = chosen_fits hop choice fits
  item_fits hop item fits = fits

  items_fit : (items : List Item) (hop : Hop) → Fits hop → Fits (hop_with_items context hop items)
  items_fit [] hop fits = fits
  items_fit (item ∷ items) hop fits = items_fit items (hop_with_item context hop item) (item_fits hop item fits)

  evaluated_fits : (conf : Conf) (origin : Option ℕ) (rules : List Rule) (course : Course) → Fits course.hop → Fits (evaluated conf context origin rules course).hop
  unfolding evaluated
  evaluated_fits conf origin [] course fits = fits
  evaluated_fits conf origin (rule ∷ rules) course fits =
      let after = taken context course rule in
      let applied : Fits after.hop = items_fit rule.set course.hop fits in
      let rest = evaluated conf context origin rules after in
      let past = evaluated conf context origin rules course in
      cond_both (rule_matches conf context origin course.attrs course.hop rule) _ past (λ (c : Course). Fits c.hop)
      (λ _. cond_both rule.quick after rest (λ (c : Course). Fits c.hop) (λ _. applied) (λ _. evaluated_fits conf origin rules after applied))
      (λ _. evaluated_fits conf origin rules course fits)

  told_hop : (course : Course) (told : Attrs) (hop : Hop) → outcome course ≡ Some (told, hop) → course.hop ≡ hop
  told_hop course told hop e = decided course.passes e
    where
      decided : (b : Bool) → outcome (record course { passes = b }) ≡ Some (told, hop) → course.hop ≡ hop
      decided true h = ap (λ (p : Attrs × Hop). p.1) (same_Some (course.attrs, course.hop) (told, hop) h)
      decided false h = absurd (none-some (told, hop) h)

  pub given_fits : (conf : Conf) (rules : List Rule) (attrs told : Attrs) (address : Addr) → verdict conf rules context attrs ≡ Some (told, Given address) → same_family address.family context.prefix.family ≡ true
  unfolding verdict
  given_fits conf rules attrs told address e =
      let course = evaluated conf context (origin_as context.own_as attrs.path) rules (begun attrs) in
      evaluated_fits conf (origin_as context.own_as attrs.path) rules (begun attrs) unset_fits address (told_hop course told (Given address) e)
