-- A rule that is for a route stands in one of the buckets that the route asks for.
use Rattle.std.proofs.Common.{◌≡◌, ℕ, ◌+◌, ◌*◌, ◌%◌, ◌<◌, true, false, not, ◌&&◌, List, map, get_or, Option, Some, None, subst, lit<}
use Rattle.std.specs.Prelude.{◌==◌, bytes_eq, if◌then◌else◌}
use Rattle.std.specs.Option.{option_map_or}
use Rattle.std.proofs.lemmas.Bool.{and_parts, not-true, eqb-true, cond-true, cond-false}
use Rattle.std.proofs.lemmas.List.Elements.{All-append, All-map}
use Rattle.std.proofs.lemmas.Nat.{mod_below}
use Rattle.std.proofs.lemmas.Slice.Eq.{bytes_eq-Decides}
use Rattle.net_base.specs.Order.{same_family}
use Rattle.conf_tree.specs.declared.rule.Direction.{Direction}
use Rattle.conf_tree.specs.declared.rule.Direction.TheVariants as goes
use Rattle.conf_tree.specs.declared.rule.Peer.{Peer}
use Rattle.conf_tree.specs.declared.rule.Peer.TheVariants as peer
use Rattle.conf_tree.specs.declared.rule.Rule.{Rule}
use Rattle.filter_engine.specs.declared.context.Context.{Context}
use Rattle.filter_engine.specs.Conditions.{direction_fits, peer_fits, rib_fits}
use Rattle.filter_engine.specs.IsFor.{is_for}
use Rattle.filter_engine.specs.Skips.{bucket, bucket_of, group_number, name_number, narrow_way, peer_number, peers_wanted, wanted, way_number, wide_way}

-- a bucket is one of so many
pub below : (count way number : ℕ) → 0 < count → bucket count way number < count
unfolding bucket
below count way number some = mod_below (way + 512 * number) count some

module _ (context : Context) where
  -- what holds of the ways of a route holds of each way that fits it
  by_way : (P : ℕ → Type 0) → P (wide_way context) → P (narrow_way context) → (direction : Direction) (rib : Option ℕ) → direction_fits direction context ≡ true → rib_fits rib context ≡ true → P (way_number direction rib)
  by_way P wide narrow goes.To rib fits here = subst P (cond-true context.to 257 256 fits) wide
  by_way P wide narrow goes.From None fits here = subst P (cond-false context.to 257 256 (not-true context.to fits)) wide
  by_way P wide narrow goes.From (Some rib) fits here =
      let same : context.rib ≡ rib = eqb-true context.rib rib (and_parts (not context.to) (context.rib == rib) here).1 in
      subst P same (subst P (cond-false context.to 257 context.rib (not-true context.to fits)) narrow)

  in_group : (P : ℕ → Type 0) (name : List ℕ) (group : Option (List ℕ)) → option_map_or (λ group. bytes_eq group name) group false ≡ true → P (group_number group) → P (4 + 8 * name_number name)
  in_group P name None fits holds = absurd cc
  in_group P name (Some group) fits holds = subst (λ (n : List ℕ). P (4 + 8 * name_number n)) ((bytes_eq-Decides group name).0 fits) holds

  -- what holds of the numbers that a route asks for holds of that of each neighbour that fits it
  by_peer : (P : ℕ → Type 0) → P 0 → P (if context.external then 1 else 2) → P (3 + 8 * (context.peer.bits % 4294967291)) → P (group_number context.group) → P (5 + 8 * context.peer_as)
      → (neighbours : Peer) → peer_fits neighbours context ≡ true → P (peer_number neighbours)
  by_peer P any kind address group asn peer.Any fits = any
  by_peer P any kind address group asn peer.Ebgp fits = subst P (cond-true context.external 1 2 fits) kind
  by_peer P any kind address group asn peer.Ibgp fits = subst P (cond-false context.external 1 2 (not-true context.external fits)) kind
  by_peer P any kind address group asn (peer.Address wanted) fits =
      let same = eqb-true context.peer.bits wanted.bits (and_parts (same_family context.peer.family wanted.family) (context.peer.bits == wanted.bits) fits).1 in
      subst (λ bits. P (3 + 8 * (bits % 4294967291))) same address
  by_peer P any kind address group asn (peer.Group name) fits = in_group P name context.group fits group
  by_peer P any kind address group asn (peer.As number) fits = subst (λ n. P (5 + 8 * n)) (eqb-true context.peer_as number fits) asn

  -- what holds of each bucket that a route asks for holds of that of each rule that is for it
  pub by_rule : (P : ℕ → Type 0) (count : ℕ) → ((k : ℕ) → k < 10 → P (get_or (wanted count context) k 0)) → (rule : Rule) → is_for context rule ≡ true → P (bucket_of count rule)
  by_rule P count each rule fits =
      let outer = and_parts (direction_fits rule.direction context && rib_fits rule.rib context) (peer_fits rule.peer context) fits in
      let inner = and_parts (direction_fits rule.direction context) (rib_fits rule.rib context) outer.0 in
      by_way (λ way. P (bucket count way (peer_number rule.peer)))
      (by_peer (λ n. P (bucket count (wide_way context) n)) (each 0 (lit< tt)) (each 1 (lit< tt)) (each 2 (lit< tt)) (each 3 (lit< tt)) (each 4 (lit< tt)) rule.peer outer.1)
      (by_peer (λ n. P (bucket count (narrow_way context) n)) (each 5 (lit< tt)) (each 6 (lit< tt)) (each 7 (lit< tt)) (each 8 (lit< tt)) (each 9 (lit< tt)) rule.peer outer.1)
      rule.direction rule.rib inner.0 inner.1

  -- the buckets are those of the table
  pub wanted_below : (count : ℕ) → 0 < count → (k : ℕ) → k < 10 → get_or (wanted count context) k 0 < count
  wanted_below count some k within =
      All-append (λ b. b < count) (map (bucket count (wide_way context)) (peers_wanted context)) (map (bucket count (narrow_way context)) (peers_wanted context))
      (All-map (λ b. b < count) (bucket count (wide_way context)) (peers_wanted context) (λ j d h. below count (wide_way context) (get_or (peers_wanted context) j d) some))
      (All-map (λ b. b < count) (bucket count (narrow_way context)) (peers_wanted context) (λ j d h. below count (narrow_way context) (get_or (peers_wanted context) j d) some))
      k 0 within
