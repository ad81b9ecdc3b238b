-- What sets and rules leave of a route: valid attributes stay valid, the next hop of the attributes stays, and one that is given has
-- the family of the prefix.
use Rattle.std.proofs.Common.{◌≡◌, ℕ, Bool, true, false, List, [], ◌∷◌, Option, Some, None, refl, sym, ap, ◌∙◌, subst}
use Rattle.std.specs.Prelude.{if◌then◌else◌}
use Rattle.std.proofs.lemmas.Bool.{cond_both}
use Rattle.std.proofs.lemmas.Option.{cond_some}
use Rattle.net_base.specs.declared.addr.Addr.{Addr}
use Rattle.net_base.specs.declared.addr.Family.{Family}
use Rattle.net_base.specs.declared.addr.Family.TheVariants.{V4, V6}
use Rattle.net_base.specs.declared.prefix.Prefix.{Prefix}
use Rattle.net_base.specs.Order.{same_family}
use Rattle.attr_model.specs.declared.attrs.Attrs.{Attrs}
use Rattle.attr_model.specs.Path.{origin_as}
use Rattle.attr_model.specs.Valid.{IsValid}
use Rattle.conf_tree.specs.declared.conf.Conf.{Conf}
use Rattle.conf_tree.specs.declared.rule.NextHop.{NextHop}
use Rattle.conf_tree.specs.declared.rule.NextHop.TheVariants as next
use Rattle.conf_tree.specs.declared.rule.Item.{Item}
use Rattle.conf_tree.specs.declared.rule.Item.TheVariants as sets
use Rattle.conf_tree.specs.declared.rule.Rule.{Rule}
use Rattle.filter_engine.specs.declared.context.Context.{Context}
use Rattle.filter_engine.specs.declared.verdict.Hop.{Hop}
use Rattle.filter_engine.specs.declared.verdict.Hop.TheVariants.{Unset, SelfHop, NoModify, Given}
use Rattle.filter_engine.specs.Conditions.{rule_matches}
use Rattle.filter_engine.specs.Items.{chosen_hop, hop_with_item, hop_with_items, with_item, with_items}
use Rattle.filter_engine.specs.Verdict.{Course, begun, evaluated, outcome, taken, verdict}
use Rattle.filter_engine.proofs.ItemsValid.{items_valid}
use Rattle.route_world.specs.Import.{with_given, with_set}
use Rattle.route_world.specs.Sent.{IsGood}

pub one_family : (one other : Family) → same_family one other ≡ true → one ≡ other
one_family V4 V4 same = refl
one_family V4 V6 same = absurd cc
one_family V6 V4 same = absurd cc
one_family V6 V6 same = refl

-- a given next hop is of this family
abbrev pub Fits : Family → Hop → Type 0
Fits family (Given address) = address.family ≡ family
Fits family Unset = Unit {0}
Fits family SelfHop = Unit {0}
Fits family NoModify = Unit {0}

-- another next hop
pub hop_valid : (attrs : Attrs) (hop : Addr) → IsValid attrs → IsValid (record attrs { hop = hop })
hop_valid attrs hop valid = record {
  origin = valid.origin;
  path = valid.path;
  communities = valid.communities;
  large = valid.large;
  unknown = valid.unknown;
  unknown_types = valid.unknown_types;
  «partial» = record { below = valid.partial.below; aggregator = valid.partial.aggregator; communities = valid.partial.communities; large = valid.partial.large };
}

pub given_good : (prefix : Prefix) (attrs : Attrs) (hop : Hop) → IsGood prefix attrs → Fits prefix.family hop → IsGood prefix (with_given attrs hop)
given_good prefix attrs (Given address) good fits = record { valid = hop_valid attrs address good.valid; family = fits }
given_good prefix attrs Unset good fits = good
given_good prefix attrs SelfHop good fits = good
given_good prefix attrs NoModify good fits = good

module _ (context : Context) where
  abbrev FitsHere : Hop → Type 0
  FitsHere hop = Fits context.prefix.family hop

  -- ---- sets

  chosen_fits : (hop : Hop) (choice : NextHop) → FitsHere hop → FitsHere (chosen_hop context hop choice)
  chosen_fits hop (next.Address address) fits =
      cond_both (same_family address.family context.prefix.family) (Given address) hop FitsHere (λ same. one_family address.family context.prefix.family same) (λ other. fits)
  chosen_fits hop next.Own fits = tt
  chosen_fits hop next.NoModify fits = tt

  item_fits : (hop : Hop) (item : Item) → FitsHere hop → FitsHere (hop_with_item context hop item)
  item_fits hop (sets.NextHop choice) fits = chosen_fits hop choice fits
  item_fits hop item fits = fits

  items_fit : (items : List Item) (hop : Hop) → FitsHere hop → FitsHere (hop_with_items context hop items)
  items_fit [] hop fits = fits
  items_fit (item ∷ items) hop fits = items_fit items (hop_with_item context hop item) (item_fits hop item fits)

  item_keeps : (attrs : Attrs) (item : Item) → (with_item context attrs item).hop ≡ attrs.hop
  item_keeps attrs (sets.LocalPref by) = refl
  item_keeps attrs (sets.Med by) = refl
  item_keeps attrs (sets.Weight by) = refl
  item_keeps attrs (sets.PrependSelf times) = refl
  item_keeps attrs (sets.PrependNeighbor times) = refl
  item_keeps attrs (sets.Origin code) = refl
  item_keeps attrs (sets.Community community) = refl
  item_keeps attrs (sets.DeleteCommunity pattern) = refl
  item_keeps attrs (sets.LargeCommunity global first second) = refl
  item_keeps attrs (sets.DeleteLargeCommunity pattern) = refl
  item_keeps attrs (sets.NextHop hop) = refl

  items_keep : (items : List Item) (attrs : Attrs) → (with_items context attrs items).hop ≡ attrs.hop
  items_keep [] attrs = refl
  items_keep (item ∷ items) attrs = items_keep items (with_item context attrs item) ∙ item_keeps attrs item

  pub set_good : (items : List Item) (attrs : Attrs) → IsGood context.prefix attrs → IsGood context.prefix (with_set context items attrs)
  set_good items attrs good =
      given_good context.prefix (with_items context attrs items) (hop_with_items context Unset items)
      (record { valid = items_valid context attrs items good.valid; family = ap (λ (a : Addr). a.family) (items_keep items attrs) ∙ good.family })
      (items_fit items Unset tt)

  -- ---- rules

  record Stays (course : Course) : Type 0 where
    good : IsGood context.prefix course.attrs
    fits : FitsHere course.hop

  taken_stays : (course : Course) (rule : Rule) → Stays course → Stays (taken context course rule)
  taken_stays course rule stays = record {
    good = record {
      valid = items_valid context course.attrs rule.set stays.good.valid;
      family = ap (λ (a : Addr). a.family) (items_keep rule.set course.attrs) ∙ stays.good.family;
    };
    fits = items_fit rule.set course.hop stays.fits;
  }

  evaluated_stays : (conf : Conf) (origin : Option ℕ) (rules : List Rule) (course : Course) → Stays course → Stays (evaluated conf context origin rules course)
  unfolding evaluated
  evaluated_stays conf origin [] course stays = stays
  evaluated_stays conf origin (rule ∷ rules) course stays =
      let after = taken context course rule in
      let applied : Stays after = taken_stays course rule stays in
      let rest = evaluated conf context origin rules after in
      let past = evaluated conf context origin rules course in
      cond_both (rule_matches conf context origin course.attrs course.hop rule) _ past Stays
      (λ _. cond_both rule.quick after rest Stays (λ _. applied) (λ _. evaluated_stays conf origin rules after applied))
      (λ _. evaluated_stays conf origin rules course stays)

  abbrev IsSteady : Attrs × Hop → Type 0
  IsSteady passed = IsGood context.prefix passed.0 × FitsHere passed.1

  pub verdict_steady : (conf : Conf) (rules : List Rule) (attrs : Attrs) (passed : Attrs × Hop) → IsGood context.prefix attrs → verdict conf rules context attrs ≡ Some passed → IsSteady passed
  unfolding verdict
  verdict_steady conf rules attrs passed good e =
      let course = evaluated conf context (origin_as context.own_as attrs.path) rules (begun attrs) in
      let stays = evaluated_stays conf (origin_as context.own_as attrs.path) rules (begun attrs) (record { good = good; fits = tt }) in
      let is = cond_some course.passes (course.attrs, course.hop) passed e in
      subst IsSteady is.1 (stays.good, stays.fits)
