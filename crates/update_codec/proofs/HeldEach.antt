-- What holds of each route that UPDATEs announce holds of each route that they leave.
use Rattle.std.proofs.Common.{◌≡◌, Bool, true, false, cond, List, [], ◌∷◌, fold, flat_map, refl, subst}
use Rattle.std.specs.List.{AllByRecursion}
use Rattle.std.specs.BTreeMap.{is_at}
use Rattle.std.specs.Ordering.{eq_by_cmp, match_ordering}
use Rattle.std.specs.declared.cmp.Ordering.{Ordering}
use Rattle.std.specs.declared.cmp.Ordering.TheVariants.{Less, Equal, Greater}
use Rattle.net_base.specs.declared.prefix.Prefix.{Prefix}
use Rattle.net_base.specs.Order.{prefix_cmp}
use Rattle.net_base.proofs.Order.{prefix_cmp-Equal}
use Rattle.bgp_wire.specs.declared.open.Encoding.{Encoding}
use Rattle.bgp_wire.specs.Message.{Message}
use Rattle.attr_model.specs.declared.attrs.Attrs.{Attrs}
use Rattle.attr_codec.proofs.Appends.{all_append}
use Rattle.update_codec.specs.declared.update.Update.{Update}
use Rattle.attr_model.specs.Routes.{RouteTable, without_route, with_route}
use Rattle.update_codec.specs.Held.{with_group, with_update, held, updates_in}

module _ (P : Attrs → Prefix → Type 0) where
  abbrev pub Each : RouteTable → Type 0
  Each routes = AllByRecursion (λ (route : Prefix × Attrs). P route.1 route.0) routes

  abbrev pub Announces : Update → Type 0
  Announces update = AllByRecursion (λ (group : Attrs × List Prefix). AllByRecursion (P group.0) group.1) update.announced

  without_each : (routes : RouteTable) (prefix : Prefix) → Each routes → Each (without_route routes prefix)
  without_each [] prefix each = tt
  without_each (route ∷ routes) prefix each = by (is_at (prefix_cmp prefix) route.0) (without_each routes prefix each.1)
    where
      by : (b : Bool) → Each (without_route routes prefix) → Each (cond b routes (route ∷ without_route routes prefix))
      by true rest = each.1
      by false rest = (each.0, rest)

  with_each : (attrs : Attrs) (routes : RouteTable) (prefix : Prefix) → P attrs prefix → Each routes → Each (with_route attrs routes prefix)
  with_each attrs [] prefix is each = (is, tt)
  with_each attrs (route ∷ routes) prefix is each = by (prefix_cmp prefix route.0) refl (with_each attrs routes prefix is each.1)
    where
      by : (o : Ordering) → prefix_cmp prefix route.0 ≡ o → Each (with_route attrs routes prefix) → Each (match_ordering o ((prefix, attrs) ∷ (route ∷ routes)) ((route.0, attrs) ∷ routes) (route ∷ with_route attrs routes prefix))
      by Less e rest = (is, each)
      by Equal e rest = (subst (P attrs) (prefix_cmp-Equal prefix route.0 (equal e)) is, each.1)
        where
          equal : prefix_cmp prefix route.0 ≡ Equal → eq_by_cmp prefix_cmp prefix route.0 ≡ true
          equal e = rw e refl
      by Greater e rest = (each.0, rest)

  all_without : (prefixes : List Prefix) (routes : RouteTable) → Each routes → Each (fold without_route routes prefixes)
  all_without [] routes each = each
  all_without (prefix ∷ prefixes) routes each = all_without prefixes (without_route routes prefix) (without_each routes prefix each)

  all_with : (attrs : Attrs) (prefixes : List Prefix) (routes : RouteTable) → AllByRecursion (P attrs) prefixes → Each routes → Each (fold (with_route attrs) routes prefixes)
  all_with attrs [] routes are each = each
  all_with attrs (prefix ∷ prefixes) routes are each = all_with attrs prefixes (with_route attrs routes prefix) are.1 (with_each attrs routes prefix are.0 each)

  all_groups : (groups : List (Attrs × List Prefix)) (routes : RouteTable) → AllByRecursion (λ (group : Attrs × List Prefix). AllByRecursion (P group.0) group.1) groups → Each routes → Each (fold with_group routes groups)
  all_groups [] routes are each = each
  all_groups (group ∷ groups) routes are each = all_groups groups (with_group routes group) are.1 (all_with group.0 group.1 routes are.0 each)

  all_updates : (updates : List Update) (routes : RouteTable) → AllByRecursion Announces updates → Each routes → Each (fold with_update routes updates)
  all_updates [] routes are each = each
  all_updates (update ∷ updates) routes are each =
      all_updates updates (with_update routes update) are.1 (all_groups update.announced (fold without_route routes update.withdrawn) are.0 (all_without update.withdrawn routes each))

  pub held_each : (updates : List Update) → AllByRecursion Announces updates → Each (held updates)
  held_each updates are = all_updates updates [] are tt

  -- of messages whose UPDATEs announce such routes
  pub messages_announce : (enc : Encoding) (whole : List Message) → AllByRecursion (λ (message : Message). AllByRecursion Announces (updates_in enc message)) whole → AllByRecursion Announces (flat_map (updates_in enc) whole)
  messages_announce enc [] are = tt
  messages_announce enc (message ∷ whole) are = all_append Announces (updates_in enc message) (flat_map (updates_in enc) whole) are.0 (messages_announce enc whole are.1)
