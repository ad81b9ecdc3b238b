-- The items of a `set` are read in form.
use Rattle.std.proofs.Common.{◌≡◌, ℕ, Bool, true, false, cond, not, ◌&&◌, ◌||◌, List, [], ◌∷◌, codes, Option, Some, None, option_map, Ok, arith}
use Rattle.net_base.specs.declared.conf.ConfKind.TheVariants.{NotInProfile}
use Rattle.net_base.specs.declared.conf.Counted.TheVariants as counted
use Rattle.conf_tree.specs.declared.token.Token.{Token}
use Rattle.conf_tree.specs.declared.rule.Item.{Item}
use Rattle.conf_tree.specs.declared.rule.Item.TheVariants as items
use Rattle.conf_tree.specs.declared.rule.Change.{Change}
use Rattle.conf_tree.specs.declared.rule.Change.TheVariants as changes
use Rattle.conf_tree.specs.declared.rule.NextHop.TheVariants as hops
use Rattle.conf_tree.specs.declared.draft.SetPlace.{SetPlace}
use Rattle.conf_tree.specs.Reading.{Reading, behind, fails, unexpected, word_is, word_in, unless_full}
use Rattle.conf_tree.specs.Values.{in_range, within, word_text, number_or_zero}
use Rattle.conf_tree.specs.ItemReading.{unsigned, changed_by, change_at, local_pref_at, med_at, weight_at, prepend_self_at, prepend_neighbor_at, origin_at, deleted_community_at, added_community_at, community_item_at, deleted_large_at, added_large_at, large_item_at, is_to, is_network, is_refused_hop, hop_address_at, next_hop_item_at, left_out_of_rules, item_words, naming_item_at, route_item_at, known_item_at, is_refused_item, item_at, most_items, set_at, optional_set_at}
use Rattle.conf_tree.specs.Readable.{IfThere, IsWithin, IsChange, IsPart, IsItem, IsSet}
use Rattle.conf_sound.proofs.Finds.{AreGood, Finds, ok, err, bind, either, wider, good_behind, reading}
use Rattle.conf_sound.proofs.ReadingForms.{ReadsMembers, unless_full_form, one_or_list_form}
use Rattle.conf_sound.proofs.ValueForms.{within_form, in_range_form, number_form, address_form, community_form, large_community_form, part_small, one_small}

-- ---- numbers that change

changed_form : (make : ℕ → Change) (text : List ℕ) → ((n : ℕ) → IsWithin 0 4294967295 n → IsChange (make n)) → IfThere IsChange (changed_by make text)
changed_form make text is = of_number (within 0 4294967295 text) (within_form 0 4294967295 text)
  where
    of_number : (value : Option ℕ) → IfThere (IsWithin 0 4294967295) value → IfThere IsChange (option_map make value)
    of_number None h = tt
    of_number (Some n) h = is n h

change_form : (tokens : List Token) → AreGood tokens → Finds IsChange (change_at tokens)
unfolding change_at
change_form tokens g =
    let added : Finds IsChange (in_range tokens (changed_by changes.Add (unsigned (word_text tokens)))) = in_range_form IsChange tokens _ g (changed_form changes.Add _ (λ n h. h)) in
    let less : Finds IsChange (in_range tokens (changed_by changes.Subtract (unsigned (word_text tokens)))) = in_range_form IsChange tokens _ g (changed_form changes.Subtract _ (λ n h. h)) in
    let to : Finds IsChange (in_range tokens (changed_by changes.Set (word_text tokens))) = in_range_form IsChange tokens _ g (changed_form changes.Set _ (λ n h. h)) in
    search (reading, added, less, to) depth 9

module _ (place : SetPlace) where
  local_pref_form : (tokens : List Token) → AreGood tokens → Finds (IsItem place) (local_pref_at tokens)
  unfolding local_pref_at
  local_pref_form tokens g = bind _ _ (change_form tokens g) (λ change h rest. ok _ _ h rest)

  med_form : (tokens : List Token) → AreGood tokens → Finds (IsItem place) (med_at tokens)
  unfolding med_at
  med_form tokens g = bind _ _ (change_form tokens g) (λ change h rest. ok _ _ h rest)

  weight_form : (tokens : List Token) → AreGood tokens → Finds (IsItem place) (weight_at tokens)
  unfolding weight_at
  weight_form tokens g = bind _ _ (change_form tokens g) (λ change h rest. ok _ _ h rest)

  prepend_self_form : (tokens : List Token) → AreGood tokens → Finds (IsItem place) (prepend_self_at tokens)
  unfolding prepend_self_at
  prepend_self_form tokens g = bind _ _ (number_form 1 128 tokens g) (λ times h rest. ok _ _ h rest)

  prepend_neighbor_form : (tokens : List Token) → not (is_network place) ≡ true → AreGood tokens → Finds (IsItem place) (prepend_neighbor_at tokens)
  unfolding prepend_neighbor_at
  prepend_neighbor_form tokens e g = bind _ _ (number_form 1 128 tokens g) (λ times h rest. ok _ _ (h, e) rest)

  origin_form : (tokens : List Token) → AreGood tokens → Finds (IsItem place) (origin_at tokens)
  unfolding origin_at
  origin_form tokens g = search (reading, g, tt) depth 9

  deleted_community_form : (tokens : List Token) → AreGood tokens → Finds (IsItem place) (deleted_community_at tokens)
  unfolding deleted_community_at
  deleted_community_form tokens g = bind _ _ (community_form true tokens g) (λ pattern h rest. ok _ _ h rest)

  added_community_form : (tokens : List Token) → AreGood tokens → Finds (IsItem place) (added_community_at tokens)
  unfolding added_community_at
  added_community_form tokens g = bind _ _ (community_form false tokens g) (λ pattern h rest. ok _ _ (one_small pattern.0 h) rest)

  community_item_form : (tokens : List Token) → AreGood tokens → Finds (IsItem place) (community_item_at tokens)
  unfolding community_item_at
  community_item_form tokens g = search (reading, deleted_community_form, added_community_form, g)

  deleted_large_form : (tokens : List Token) → AreGood tokens → Finds (IsItem place) (deleted_large_at tokens)
  unfolding deleted_large_at
  deleted_large_form tokens g = bind _ _ (large_community_form true tokens g) (λ pattern h rest. ok _ _ h rest)

  within_zero : (part : Option ℕ) → IsPart 4294967295 part → IsWithin 0 4294967295 (number_or_zero part)
  within_zero part h = record { least = omega arith; most = part_small 4294967295 part h }

  added_large_form : (tokens : List Token) → AreGood tokens → Finds (IsItem place) (added_large_at tokens)
  unfolding added_large_at
  added_large_form tokens g =
      bind _ _ (large_community_form false tokens g) (λ pattern h rest. ok _ _ (within_zero pattern.0.global h.0, within_zero pattern.0.first h.1, within_zero pattern.0.second h.2) rest)

  large_item_form : (tokens : List Token) → AreGood tokens → Finds (IsItem place) (large_item_at tokens)
  unfolding large_item_at
  large_item_form tokens g = search (reading, deleted_large_form, added_large_form, g)

  hop_address_form : (tokens : List Token) → AreGood tokens → Finds (IsItem place) (hop_address_at tokens)
  unfolding hop_address_at
  hop_address_form tokens g = bind _ _ (address_form tokens g) (λ address h rest. ok _ _ tt rest)

  -- a hop that isn't left out in a place
  sent : (b own : Bool) → (b || (not (is_to place) && own)) ≡ false → own ≡ true → is_to place ≡ true
  sent b own e h = grind arith

  is_own : (own other : Bool) → own ≡ true → (own || (other || false)) ≡ true
  is_own own other e = grind arith

  is_other : (own other : Bool) → other ≡ true → (own || (other || false)) ≡ true
  is_other own other e = grind arith

  next_hop_item_form : (tokens : List Token) → AreGood tokens → Finds (IsItem place) (next_hop_item_at place tokens)
  unfolding next_hop_item_at word_in
  next_hop_item_form tokens g =
      let own : Bool = word_is (codes "self") tokens in
      let other : Bool = word_is (codes "no-modify") tokens in
      let last : Reading Item = cond other (Ok (items.NextHop hops.NoModify, behind tokens)) (hop_address_at tokens) in
      either (is_refused_hop place tokens) (fails NotInProfile tokens) (cond own (Ok (items.NextHop hops.Own, behind tokens)) last) (λ e. err _)
      (λ e. either own (Ok (items.NextHop hops.Own, behind tokens)) last
      (λ h. ok _ _ (sent (word_in (codes "blackhole" ∷ codes "reject" ∷ []) tokens) (own || (other || false)) e (is_own own other h)) (good_behind tokens g))
      (λ n. either other (Ok (items.NextHop hops.NoModify, behind tokens)) (hop_address_at tokens)
      (λ h. ok _ _ (sent (word_in (codes "blackhole" ∷ codes "reject" ∷ []) tokens) (own || (other || false)) e (is_other own other h)) (good_behind tokens g))
      (λ h. hop_address_form tokens g)))

  -- ---- an item by its word

  naming_item_form : (tokens : List Token) → AreGood tokens → Finds (IsItem place) (naming_item_at place tokens)
  unfolding naming_item_at
  naming_item_form tokens g = search (reading, community_item_form, large_item_form, next_hop_item_form, g) depth 9

  not_network : (refused network here : Bool) → (refused || (network && here)) ≡ false → here ≡ true → not network ≡ true
  not_network refused network here e h = grind arith

  route_item_form : (tokens : List Token) → is_refused_item place tokens ≡ false → AreGood tokens → Finds (IsItem place) (route_item_at place tokens)
  unfolding route_item_at
  route_item_form tokens e g =
      let naming : Reading Item = cond (word_is (codes "origin") tokens) (origin_at (behind tokens)) (naming_item_at place tokens) in
      let neighbor : Bool = word_is (codes "prepend-neighbor") tokens in
      let naming_form : Finds (IsItem place) naming = search (reading, origin_form, naming_item_form, g) in
      either (word_is (codes "prepend-self") tokens) (prepend_self_at (behind tokens)) (cond neighbor (prepend_neighbor_at (behind tokens)) naming) (λ h. prepend_self_form (behind tokens) (good_behind tokens g))
      (λ n. either neighbor (prepend_neighbor_at (behind tokens)) naming
      (λ h. prepend_neighbor_form (behind tokens) (not_network (word_in left_out_of_rules tokens) (is_network place) neighbor e h) (good_behind tokens g))
      (λ h. naming_form))

  known_item_form : (tokens : List Token) → is_refused_item place tokens ≡ false → AreGood tokens → Finds (IsItem place) (known_item_at place tokens)
  unfolding known_item_at
  known_item_form tokens e g = search (reading, local_pref_form, med_form, weight_form, route_item_form tokens e g, g) depth 9

  item_form : ReadsMembers (IsItem place) (item_at place)
  unfolding item_at
  item_form full tokens g =
      let last : Reading Item = unless_full full counted.Items tokens (known_item_at place tokens) in
      either (is_refused_item place tokens) (fails NotInProfile tokens) (cond (word_in item_words tokens) last (unexpected tokens)) (λ e. err _)
      (λ e. either (word_in item_words tokens) last (unexpected tokens) (λ h. unless_full_form (IsItem place) full counted.Items tokens (known_item_at place tokens) (known_item_form tokens e g)) (λ h. err _))

  pub set_form : (tokens : List Token) → AreGood tokens → Finds (IsSet place) (set_at place tokens)
  unfolding set_at
  set_form tokens g = wider _ (λ set h. h.0) (one_or_list_form (IsItem place) (item_at place) most_items most_items tokens (omega arith) (omega arith) item_form g)

  pub optional_set_form : (tokens : List Token) → AreGood tokens → Finds (IsSet place) (optional_set_at place tokens)
  unfolding optional_set_at
  optional_set_form tokens g =
      let none : IsSet place [] = (tt, omega arith) in
      search (reading, set_form, none, g)
