-- Numbers keep their width where sets and rules change attributes.
use Rattle.std.proofs.Common.{◌≡◌, ℕ, zero, suc, ◌<◌, ◌≤◌, ◌+◌, ◌-◌, Bool, true, false, List, [], ◌∷◌, ◌++◌, length, Option, Some, None, refl, sym, ap, ◌∙◌, subst, arith}
use Rattle.std.specs.Prelude.{filter, unwrap_or, not, nat_lt, min, IfSome, if◌then◌else◌}
use Rattle.std.specs.List.{AllByRecursion}
use Rattle.std.proofs.lemmas.Bool.{cond_both}
use Rattle.std.proofs.lemmas.Option.{cond_some}
use Rattle.net_base.specs.declared.addr.Addr.{Addr}
use Rattle.attr_model.specs.declared.attrs.Attrs.{Attrs}
use Rattle.attr_model.specs.declared.path.Segment.{Segment}
use Rattle.attr_model.specs.declared.path.Segment.TheVariants.{Set, Sequence}
use Rattle.attr_model.specs.Path.{origin_as, prepended, prepended_once}
use Rattle.attr_codec.specs.Width.{AreNumbers, AreSegments, HaveWidth, IsLarge, IsNumber}
use Rattle.conf_tree.specs.declared.conf.Conf.{Conf}
use Rattle.conf_tree.specs.declared.draft.SetPlace.{SetPlace}
use Rattle.conf_tree.specs.declared.rule.Change.{Change}
use Rattle.conf_tree.specs.declared.rule.Change.TheVariants as change
use Rattle.conf_tree.specs.declared.rule.CommunityPattern.{CommunityPattern}
use Rattle.conf_tree.specs.declared.rule.Item.{Item}
use Rattle.conf_tree.specs.declared.rule.Item.TheVariants as sets
use Rattle.conf_tree.specs.declared.rule.LargePattern.{LargePattern}
use Rattle.conf_tree.specs.declared.rule.Rule.{Rule}
use Rattle.conf_tree.specs.Readable.{Each, IsChange, IsItem, IsRule, IsWithin}
use Rattle.filter_engine.specs.declared.context.Context.{Context}
use Rattle.filter_engine.specs.declared.verdict.Hop.{Hop}
use Rattle.filter_engine.specs.declared.verdict.Hop.TheVariants.{Unset, SelfHop, NoModify, Given}
use Rattle.filter_engine.specs.Conditions.{community_agrees, large_agrees, rule_matches}
use Rattle.filter_engine.specs.Items.{changed_number, hop_with_items, large_below, large_placed, placed, with_item, with_items, with_localpref, with_med, with_prepends}
use Rattle.filter_engine.specs.Verdict.{Course, begun, evaluated, taken, verdict}
use Rattle.route_world.specs.Import.{with_given, with_set}
use Rattle.route_world.proofs.GoodCandidates.{joined}

-- ---- lists

kept : {X : Type 0} (P : X → Type 0) (test : X → Bool) (xs : List X) → AllByRecursion P xs → AllByRecursion P (filter test xs)
kept P test [] all = tt
kept P test (x ∷ xs) all = by (test x) (kept P test xs all.1)
  where
    by : (stays : Bool) → AllByRecursion P (filter test xs) → AllByRecursion P (if stays then x ∷ filter test xs else filter test xs)
    by true rest = (all.0, rest)
    by false rest = rest

-- one more between two parts of a list
between : {X : Type 0} (P : X → Type 0) (low high : X → Bool) (x : X) (xs : List X) → P x → AllByRecursion P xs → AllByRecursion P (filter low xs ++ (x ∷ filter high xs))
between P low high x xs one all = joined P (filter low xs) (x ∷ filter high xs) (kept P low xs all) (one, kept P high xs all)

-- ---- numbers and paths

pub of_range : (low n : ℕ) → IsWithin low 4294967295 n → IsNumber n
of_range low n within = omega (arith, within.most)

changed : (by : Change) (current : ℕ) → IsChange by → IsNumber current → IsNumber (changed_number by current)
changed (change.Set number) current within is = of_range 0 number within
changed (change.Add number) current within is = omega arith
changed (change.Subtract number) current within is = omega (arith, is)

changed_if : (by : Change) (current : Option ℕ) (absent : ℕ) → IsChange by → IsNumber absent → IfSome current IsNumber → IsNumber (changed_number by (unwrap_or current absent))
changed_if by None absent within is some = changed by absent within is
changed_if by (Some current) absent within is some = changed by current within some

once : (asn : ℕ) (path : List Segment) → IsNumber asn → AreSegments path → AreSegments (prepended_once asn path)
once asn [] is all = ((is, tt), tt)
once asn (Set numbers ∷ rest) is all = ((is, tt), all)
once asn (Sequence numbers ∷ rest) is all = by (nat_lt (length numbers) 255)
  where
    by : (room : Bool) → AreSegments (if room then Sequence (asn ∷ numbers) ∷ rest else Sequence (asn ∷ []) ∷ (Sequence numbers ∷ rest))
    by true = ((is, all.0), all.1)
    by false = ((is, tt), all)

pub in_front : (asn times : ℕ) (path : List Segment) → IsNumber asn → AreSegments path → AreSegments (prepended asn times path)
in_front asn zero path is all = all
in_front asn (suc times) path is all = once asn (prepended asn times path) is (in_front asn times path is all)

-- ---- attributes

-- other numbers, paths and communities, and whatever has no width of its own
pub wide : (attrs : Attrs) (origin : ℕ) (path : List Segment) (hop : Addr) (med local_pref : Option ℕ) (communities : List ℕ) (large : List (ℕ × ℕ × ℕ)) (bits weight : ℕ) →
    AreSegments path → IfSome med IsNumber → IfSome local_pref IsNumber → AreNumbers communities → AllByRecursion IsLarge large → HaveWidth attrs →
    HaveWidth (record attrs { origin = origin; path = path; hop = hop; med = med; local_pref = local_pref; communities = communities; large = large; «partial» = bits; weight = weight })
wide attrs origin path hop med local_pref communities large bits weight segments is_med is_pref are are_large width = record {
  path = segments;
  med = is_med;
  local_pref = is_pref;
  aggregator = width.aggregator;
  communities = are;
  large = are_large;
  unknown = width.unknown;
}

-- another next hop
pub given_wide : (attrs : Attrs) (hop : Hop) → HaveWidth attrs → HaveWidth (with_given attrs hop)
given_wide attrs (Given address) w = wide attrs attrs.origin attrs.path address attrs.med attrs.local_pref attrs.communities attrs.large attrs.partial attrs.weight w.path w.med w.local_pref w.communities w.large w
given_wide attrs Unset w = w
given_wide attrs SelfHop w = w
given_wide attrs NoModify w = w

module _ (context : Context) (own : IsNumber context.own_as) (peer : IsNumber context.peer_as) where
  item_wide : (place : SetPlace) (item : Item) (attrs : Attrs) → IsItem place item → HaveWidth attrs → HaveWidth (with_item context attrs item)
  item_wide place (sets.LocalPref by) attrs is w =
      wide attrs attrs.origin attrs.path attrs.hop attrs.med (Some (changed_number by (unwrap_or attrs.local_pref 100))) attrs.communities attrs.large attrs.partial attrs.weight w.path w.med (changed_if by attrs.local_pref 100 is (omega arith) w.local_pref) w.communities w.large w
  item_wide place (sets.Med by) attrs is w =
      wide attrs attrs.origin attrs.path attrs.hop (Some (changed_number by (unwrap_or attrs.med 0))) attrs.local_pref attrs.communities attrs.large attrs.partial attrs.weight w.path (changed_if by attrs.med 0 is (omega arith) w.med) w.local_pref w.communities w.large w
  item_wide place (sets.Weight by) attrs is w =
      wide attrs attrs.origin attrs.path attrs.hop attrs.med attrs.local_pref attrs.communities attrs.large attrs.partial (changed_number by attrs.weight) w.path w.med w.local_pref w.communities w.large w
  item_wide place (sets.PrependSelf times) attrs is w =
      wide attrs attrs.origin (prepended context.own_as times attrs.path) attrs.hop attrs.med attrs.local_pref attrs.communities attrs.large attrs.partial attrs.weight (in_front context.own_as times attrs.path own w.path) w.med w.local_pref w.communities w.large w
  item_wide place (sets.PrependNeighbor times) attrs is w =
      wide attrs attrs.origin (prepended context.peer_as times attrs.path) attrs.hop attrs.med attrs.local_pref attrs.communities attrs.large attrs.partial attrs.weight (in_front context.peer_as times attrs.path peer w.path) w.med w.local_pref w.communities w.large w
  item_wide place (sets.Origin code) attrs is w =
      wide attrs _ attrs.path attrs.hop attrs.med attrs.local_pref attrs.communities attrs.large attrs.partial attrs.weight w.path w.med w.local_pref w.communities w.large w
  item_wide place (sets.Community community) attrs is w =
      wide attrs attrs.origin attrs.path attrs.hop attrs.med attrs.local_pref (placed community attrs.communities) attrs.large attrs.partial attrs.weight w.path w.med w.local_pref
      (between IsNumber (λ other. nat_lt other community) (λ other. nat_lt community other) community attrs.communities (of_range 0 community is) w.communities) w.large w
  item_wide place (sets.DeleteCommunity pattern) attrs is w =
      wide attrs attrs.origin attrs.path attrs.hop attrs.med attrs.local_pref (filter (λ (community : ℕ). not (community_agrees pattern community)) attrs.communities) attrs.large _ attrs.weight w.path w.med w.local_pref
      (kept IsNumber (λ community. not (community_agrees pattern community)) attrs.communities w.communities) w.large w
  item_wide place (sets.LargeCommunity global first second) attrs is w =
      wide attrs attrs.origin attrs.path attrs.hop attrs.med attrs.local_pref attrs.communities (large_placed (global, first, second) attrs.large) attrs.partial attrs.weight w.path w.med w.local_pref w.communities
      (between IsLarge (λ other. large_below other (global, first, second)) (λ other. large_below (global, first, second) other) (global, first, second) attrs.large ((of_range 0 global is.0, of_range 0 first is.1), of_range 0 second is.2) w.large) w
  item_wide place (sets.DeleteLargeCommunity pattern) attrs is w =
      wide attrs attrs.origin attrs.path attrs.hop attrs.med attrs.local_pref attrs.communities (filter (λ (community : ℕ × ℕ × ℕ). not (large_agrees pattern community)) attrs.large) _ attrs.weight w.path w.med w.local_pref w.communities
      (kept IsLarge (λ community. not (large_agrees pattern community)) attrs.large w.large) w
  item_wide place (sets.NextHop hop) attrs is w = w

  items_wide : (place : SetPlace) (items : List Item) (attrs : Attrs) → Each (IsItem place) items → HaveWidth attrs → HaveWidth (with_items context attrs items)
  items_wide place [] attrs are w = w
  items_wide place (item ∷ items) attrs are w = items_wide place items (with_item context attrs item) are.1 (item_wide place item attrs are.0 w)

  pub set_wide : (place : SetPlace) (items : List Item) (attrs : Attrs) → Each (IsItem place) items → HaveWidth attrs → HaveWidth (with_set context items attrs)
  set_wide place items attrs are w = given_wide (with_items context attrs items) (hop_with_items context Unset items) (items_wide place items attrs are w)

  -- ---- rules

  evaluated_wide : (settled conf : Conf) (origin : Option ℕ) (rules : List Rule) (course : Course) → Each (IsRule settled) rules → HaveWidth course.attrs → HaveWidth (evaluated conf context origin rules course).attrs
  unfolding evaluated
  evaluated_wide settled conf origin [] course are w = w
  evaluated_wide settled conf origin (rule ∷ rules) course are w =
      let after = taken context course rule in
      let applied : HaveWidth after.attrs = items_wide _ rule.set course.attrs are.0.set.0 w in
      let rest = evaluated conf context origin rules after in
      let past = evaluated conf context origin rules course in
      cond_both (rule_matches conf context origin course.attrs course.hop rule) _ past (λ (c : Course). HaveWidth c.attrs)
      (λ _. cond_both rule.quick after rest (λ (c : Course). HaveWidth c.attrs) (λ _. applied) (λ _. evaluated_wide settled conf origin rules after are.1 applied))
      (λ _. evaluated_wide settled conf origin rules course are.1 w)

  pub verdict_wide : (settled conf : Conf) (rules : List Rule) (attrs : Attrs) (passed : Attrs × Hop) → Each (IsRule settled) rules → HaveWidth attrs → verdict conf rules context attrs ≡ Some passed → HaveWidth passed.0
  unfolding verdict
  verdict_wide settled conf rules attrs passed are w e =
      let course = evaluated conf context (origin_as context.own_as attrs.path) rules (begun attrs) in
      let is = cond_some course.passes (course.attrs, course.hop) passed e in
      subst (λ (p : Attrs × Hop). HaveWidth p.0) is.1 (evaluated_wide settled conf (origin_as context.own_as attrs.path) rules (begun attrs) are w)
