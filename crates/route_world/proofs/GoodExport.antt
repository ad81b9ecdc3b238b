-- What export gives may be sent.
use Rattle.std.proofs.Common.{◌≡◌, ◌≢◌, ℕ, zero, suc, ◌<◌, ◌≤◌, Bool, true, false, not, ◌&&◌, ◌||◌, List, [], ◌∷◌, length, get_or, Option, Some, None, option_map, option_and_then, refl, sym, ap, ◌∙◌, subst, arith}
use Rattle.std.specs.Prelude.{Contains, is_some, unwrap_or, IfSome, if◌then◌else◌, ◌==◌, nat_le}
use Rattle.std.specs.List.{AllByRecursion}
use Rattle.std.proofs.lemmas.Bool.{cond-false, cond-true, leb-true, not-false, or_parts, true≢false}
use Rattle.std.proofs.lemmas.Option.{cond_some, none-some, option_and_then_some, same_Some}
use Rattle.net_base.specs.declared.addr.Addr.{Addr}
use Rattle.net_base.specs.declared.addr.Family.{Family}
use Rattle.net_base.specs.declared.addr.Family.TheVariants.{V4, V6}
use Rattle.net_base.specs.declared.prefix.Prefix.{Prefix}
use Rattle.net_base.specs.Order.{same_family}
use Rattle.bgp_wire.specs.declared.open.OpenFacts.{OpenFacts}
use Rattle.bgp_wire.specs.declared.open.Encoding.{Encoding}
use Rattle.attr_model.specs.declared.attrs.Attrs.{Attrs}
use Rattle.attr_model.specs.Path.{prepended}
use Rattle.attr_model.specs.Valid.{IsValid}
use Rattle.attr_model.proofs.PrependedValid.{prepended_valid}
use Rattle.attr_codec.specs.Prefixes.{prefix_bytes}
use Rattle.attr_codec.specs.Size.{update_size}
use Rattle.conf_tree.specs.declared.conf.Conf.{Conf}
use Rattle.conf_tree.specs.declared.neighbour.Neighbour.{Neighbour}
use Rattle.decision.specs.declared.candidate.Candidate.{Candidate}
use Rattle.decision.specs.declared.candidate.Origin.{Origin}
use Rattle.decision.specs.Best.{best_of}
use Rattle.decision.proofs.SameMembers.{best_there}
use Rattle.filter_engine.specs.declared.verdict.Hop.{Hop}
use Rattle.filter_engine.specs.declared.verdict.Hop.TheVariants.{Unset, SelfHop, NoModify, Given}
use Rattle.filter_engine.specs.Verdict.{verdict}
use Rattle.route_world.specs.declared.world.World.{World}
use Rattle.route_world.specs.declared.world.Session.{Session}
use Rattle.route_world.specs.World.{neighbour_at}
use Rattle.route_world.specs.Import.{candidates}
use Rattle.route_world.specs.Export.{as_told, came_from, exchanges, export, export_context, if_it_fits, is_held_by_community, is_internal, is_kept_back, is_local, own_address, own_address_or, router_address, specified_or, told_attrs, told_hop, told_if_it_fits, without_med}
use Rattle.route_world.specs.Sent.{HoldGood, IsGood, MayBeTold}
use Rattle.route_world.specs.Tables.{best_at, told_at}
use Rattle.conf_tree.specs.Readable.{IsReadable}
use Rattle.attr_codec.specs.Width.{HaveWidth, IsNumber}
use Rattle.route_world.specs.Sent.{HaveWidthAt}
use Rattle.route_world.proofs.Steady.{Fits, one_family, verdict_steady}
use Rattle.route_world.proofs.Widths.{in_front, of_range, verdict_wide, wide}
use Rattle.route_world.proofs.WideCandidates.{IsWideOne, candidates_wide}
use Rattle.route_world.proofs.GoodCandidates.{IsGoodOne, candidates_good}

-- ---- options

none_or : {A : Type 0} (b : Bool) (o : Option A) (x : A) → (if b then None else o) ≡ Some x → (b ≡ false) × (o ≡ Some x)
none_or true o x e = absurd (none-some x e)
none_or false o x e = (refl, e)

mapped : {A B P : Type 0} (f : A → B) (o : Option A) (y : B) → option_map f o ≡ Some y → ((x : A) → o ≡ Some x → f x ≡ y → P) → P
mapped f None y e go = absurd (none-some y e)
mapped f (Some x) y e go = go x refl (same_Some (f x) y e)

-- ---- next hops

abbrev IsOf : Family → Option Addr → Type 0
IsOf family None = Unit {0}
IsOf family (Some address) = address.family ≡ family

router_is_of : (conf : Conf) (family : Family) → IsOf family (router_address conf family)
router_is_of conf V4 = refl
router_is_of conf V6 = tt

own_is_of : (conf : Conf) (family : Family) (local : Option Addr) → IsOf family (own_address_or conf family local)
own_is_of conf family None = router_is_of conf family
own_is_of conf family (Some local) = by (same_family local.family family) refl
  where
    by : (same : Bool) → same_family local.family family ≡ same → IsOf family (if same then Some local else router_address conf family)
    by true is = one_family local.family family is
    by false is = router_is_of conf family

specified_is_of : (family : Family) (own : Option Addr) (hop : Addr) → IsOf family own → hop.family ≡ family → IsOf family (specified_or own hop)
specified_is_of family own hop mine theirs = by (hop.bits == 0)
  where
    by : (none : Bool) → IsOf family (if none then own else Some hop)
    by true = mine
    by false = theirs

told_is_of : (family : Family) (own : Option Addr) (external : Bool) (choice : Hop) (hop : Addr) → IsOf family own → Fits family choice → hop.family ≡ family → IsOf family (told_hop own external choice hop)
told_is_of family own external SelfHop hop mine fits theirs = mine
told_is_of family own external NoModify hop mine fits theirs = specified_is_of family own hop mine theirs
told_is_of family own external (Given address) hop mine fits theirs = specified_is_of family own address mine fits
told_is_of family own true Unset hop mine fits theirs = mine
told_is_of family own false Unset hop mine fits theirs = specified_is_of family own hop mine theirs

-- ---- attributes

-- MED, next hop, weight, LOCAL_PREF and path apart
valid_with : (attrs : Attrs) (hop : Addr) (local_pref : Option ℕ) (times : ℕ) (asn : ℕ) → IsValid attrs → IsValid (record attrs { hop = hop; weight = 0; local_pref = local_pref; path = prepended asn times attrs.path })
valid_with attrs hop local_pref times asn valid = record {
  origin = valid.origin;
  path = prepended_valid asn times attrs.path valid.path;
  communities = valid.communities;
  large = valid.large;
  unknown = valid.unknown;
  unknown_types = valid.unknown_types;
  «partial» = record { below = valid.partial.below; aggregator = valid.partial.aggregator; communities = valid.partial.communities; large = valid.partial.large };
}

without_med_good : (prefix : Prefix) (external : Bool) (from : Origin) (attrs : Attrs) → IsGood prefix attrs → IsGood prefix (without_med external from attrs)
without_med_good prefix external from attrs good = by (external && not (is_local from))
  where
    by : (gone : Bool) → IsGood prefix (if gone then record attrs { med = None } else attrs)
    by true = record {
      valid = record {
        origin = good.valid.origin;
        path = good.valid.path;
        communities = good.valid.communities;
        large = good.valid.large;
        unknown = good.valid.unknown;
        unknown_types = good.valid.unknown_types;
        «partial» = record { below = good.valid.partial.below; aggregator = good.valid.partial.aggregator; communities = good.valid.partial.communities; large = good.valid.partial.large };
      };
      family = good.family;
    }
    by false = good

-- what is told of attributes, whatever they are
record IsTold (external : Bool) (attrs : Attrs) : Type 0 where
  weight : attrs.weight ≡ 0
  local_pref : is_some attrs.local_pref ≡ not external

told_attrs_told : (conf : Conf) (external : Bool) (attrs : Attrs) (hop : Addr) → IsTold external (told_attrs conf external attrs hop)
told_attrs_told conf true attrs hop = record { weight = refl; local_pref = refl }
told_attrs_told conf false attrs hop = record { weight = refl; local_pref = refl }

told_attrs_good : (prefix : Prefix) (conf : Conf) (external : Bool) (attrs : Attrs) (hop : Addr) → IsGood prefix attrs → hop.family ≡ prefix.family → IsGood prefix (told_attrs conf external attrs hop)
told_attrs_good prefix conf true attrs hop good family = record { valid = valid_with attrs hop None 1 conf.asn good.valid; family = family }
told_attrs_good prefix conf false attrs hop good family = record { valid = valid_with attrs hop _ 0 conf.asn good.valid; family = family }

without_med_wide : (external : Bool) (from : Origin) (attrs : Attrs) → HaveWidth attrs → HaveWidth (without_med external from attrs)
without_med_wide external from attrs w = by (external && not (is_local from))
  where
    by : (gone : Bool) → HaveWidth (if gone then record attrs { med = None } else attrs)
    by true = wide attrs attrs.origin attrs.path attrs.hop None attrs.local_pref attrs.communities attrs.large attrs.partial attrs.weight w.path tt w.local_pref w.communities w.large w
    by false = w

preferred : (current : Option ℕ) → IfSome current IsNumber → IsNumber (unwrap_or current 100)
preferred None is = omega arith
preferred (Some current) is = is

told_attrs_wide : (conf : Conf) (external : Bool) (attrs : Attrs) (hop : Addr) → IsNumber conf.asn → HaveWidth attrs → HaveWidth (told_attrs conf external attrs hop)
told_attrs_wide conf true attrs hop own w =
    wide attrs attrs.origin (prepended conf.asn 1 attrs.path) hop attrs.med None attrs.communities attrs.large attrs.partial 0 (in_front conf.asn 1 attrs.path own w.path) w.med tt w.communities w.large w
told_attrs_wide conf false attrs hop own w =
    wide attrs attrs.origin attrs.path hop attrs.med (Some (unwrap_or attrs.local_pref 100)) attrs.communities attrs.large attrs.partial 0 w.path w.med (preferred attrs.local_pref w.local_pref) w.communities w.large w

-- ---- export

module _ (conf : Conf) (facts : OpenFacts) (neighbour : Neighbour) (prefix : Prefix) where
  abbrev own : Option Addr
  own = own_address conf neighbour prefix.family

  abbrev Goes : Attrs × Hop → Attrs → Type 0
  Goes passed attrs = IsTold facts.encoding.external attrs × (update_size facts.encoding attrs (length (prefix_bytes prefix)) ≤ 4096) × (IsGood prefix passed.0 → Fits prefix.family passed.1 → IsGood prefix attrs) × (IsNumber conf.asn → HaveWidth passed.0 → HaveWidth attrs)

  as_told_good : (passed : Attrs × Hop) (hop : Addr) → told_hop own facts.encoding.external passed.1 passed.0.hop ≡ Some hop → IsGood prefix passed.0 → Fits prefix.family passed.1 → IsGood prefix (told_attrs conf facts.encoding.external passed.0 hop)
  as_told_good passed hop is good fits =
      told_attrs_good prefix conf facts.encoding.external passed.0 hop good
      (subst (IsOf prefix.family) is (told_is_of prefix.family own facts.encoding.external passed.1 passed.0.hop (own_is_of conf prefix.family neighbour.local_address) fits good.family))

  goes : (passed : Attrs × Hop) (attrs : Attrs) → told_if_it_fits conf facts neighbour prefix passed ≡ Some attrs → Goes passed attrs
  goes passed attrs e =
      option_and_then_some (if_it_fits facts.encoding prefix) (as_told conf facts neighbour prefix passed) attrs e
      (λ told is_told fits.
      let fit = cond_some (nat_le (update_size facts.encoding told (length (prefix_bytes prefix))) 4096) told attrs fits in
      subst (Goes passed) fit.1
      (mapped (told_attrs conf facts.encoding.external passed.0) (told_hop own facts.encoding.external passed.1 passed.0.hop) told is_told
      (λ hop is_hop same.
      (subst (IsTold facts.encoding.external) same (told_attrs_told conf facts.encoding.external passed.0 hop), leb-true _ _ fit.0, λ good fits_too. subst (IsGood prefix) same (as_told_good passed hop is_hop good fits_too), λ own_number w. subst HaveWidth same (told_attrs_wide conf facts.encoding.external passed.0 hop own_number w)))))

  abbrev kept_back : Candidate → Bool
  kept_back best = is_kept_back facts.encoding neighbour prefix best

  abbrev route : Candidate → Attrs
  route best = without_med facts.encoding.external best.from best.attrs.attrs

  exported : {P : Type 0} (best : Candidate) (attrs : Attrs) → export conf facts neighbour prefix best ≡ Some attrs
      → ((passed : Attrs × Hop) → kept_back best ≡ false → verdict conf conf.rules (export_context conf facts neighbour prefix) (route best) ≡ Some passed → Goes passed attrs → P) → P
  unfolding export
  exported best attrs e go =
      let said = verdict conf conf.rules (export_context conf facts neighbour prefix) (route best) in
      let parts = none_or (kept_back best) (option_and_then (told_if_it_fits conf facts neighbour prefix) said) attrs e in
      option_and_then_some (told_if_it_fits conf facts neighbour prefix) said attrs parts.1 (λ passed is_said told. go passed parts.0 is_said (goes passed attrs told))

  -- a route that isn't kept back is of a family that is exchanged
  exchanged : (best : Candidate) → kept_back best ≡ false → exchanges facts.encoding neighbour prefix.family ≡ true
  exchanged best e = not-false _ (or_parts _ _ e).1

  pub export_good : (best : Candidate) (attrs : Attrs) → IsGood prefix best.attrs.attrs → export conf facts neighbour prefix best ≡ Some attrs → MayBeTold facts.encoding neighbour prefix attrs
  export_good best attrs good e =
      exported best attrs e
      (λ passed free is_said went.
      let steady = verdict_steady (export_context conf facts neighbour prefix) conf conf.rules (route best) passed (without_med_good prefix facts.encoding.external best.from best.attrs.attrs good) is_said in
      record {
        good = went.2 steady.0 steady.1;
        agreed = exchanged best free;
        weight = went.0.weight;
        local_pref = went.0.local_pref;
        fits = went.1;
      })

  pub export_local_pref : (best : Candidate) (attrs : Attrs) → export conf facts neighbour prefix best ≡ Some attrs → is_some attrs.local_pref ≡ not facts.encoding.external
  export_local_pref best attrs e = exported best attrs e (λ passed free is_said went. went.0.local_pref)

  pub export_wide : (best : Candidate) (attrs : Attrs) → IsReadable conf → IsNumber facts.asn → HaveWidth best.attrs.attrs → export conf facts neighbour prefix best ≡ Some attrs → HaveWidth attrs
  export_wide best attrs ready peer w e =
      let own_number = of_range 1 conf.asn ready.asn in
      exported best attrs e
      (λ passed free is_said went. went.3 own_number
      (verdict_wide (export_context conf facts neighbour prefix) own_number peer conf conf conf.rules (route best) passed ready.rules (without_med_wide facts.encoding.external best.from best.attrs.attrs w) is_said))

-- ---- what a session is told

pub member : {X : Type 0} (P : X → Type 0) (xs : List X) (k : ℕ) (x : X) → AllByRecursion P xs → k < length xs → get_or xs k x ≡ x → P x
member P [] k x all within is = absurd (omega (arith, within))
member P (y ∷ ys) zero x all within is = subst P is all.0
member P (y ∷ ys) (suc k) x all within is = member P ys k x all.1 (omega (arith, within)) is

pub told_good : (world : World) (session : Session) (neighbour : Neighbour) (prefix : Prefix) (attrs : Attrs) → HoldGood prefix world → neighbour_at world.conf session.peer ≡ Some neighbour → told_at world session prefix ≡ Some attrs
    → MayBeTold session.facts.encoding neighbour prefix attrs
unfolding told_at
told_good world session neighbour prefix attrs good is_neighbour e =
    let best_in = λ (n : Neighbour). best_at world n.rib prefix in
    let told = λ (n : Neighbour). option_and_then (export world.conf session.facts n prefix) (best_in n) in
    option_and_then_some (export world.conf session.facts neighbour prefix) (best_in neighbour) attrs (sym (ap (option_and_then told) is_neighbour) ∙ e)
    (λ best is_best is_told.
    let found = candidates world neighbour.rib prefix in
    let there = best_there world.conf.med_always found best is_best in
    export_good world.conf session.facts neighbour prefix best attrs
    (member (IsGoodOne prefix) found there.0 best (candidates_good world neighbour.rib prefix good) there.1 there.2) is_told)

pub told_wide : (world : World) (session : Session) (prefix : Prefix) (attrs : Attrs) → IsReadable world.conf → IsNumber session.facts.asn → HaveWidthAt prefix world → told_at world session prefix ≡ Some attrs → HaveWidth attrs
unfolding told_at
told_wide world session prefix attrs ready peer said e =
    option_and_then_some (λ (n : Neighbour). option_and_then (export world.conf session.facts n prefix) (best_at world n.rib prefix)) (neighbour_at world.conf session.peer) attrs e
    (λ neighbour is_neighbour is.
    option_and_then_some (export world.conf session.facts neighbour prefix) (best_at world neighbour.rib prefix) attrs is
    (λ best is_best is_told.
    let found = candidates world neighbour.rib prefix in
    let there = best_there world.conf.med_always found best is_best in
    export_wide world.conf session.facts neighbour prefix best attrs ready peer
    (member IsWideOne found there.0 best (candidates_wide world neighbour.rib prefix ready said) there.1 there.2) is_told))
