-- The last option of each kind in a neighbour's printed block is what the neighbour has.
use Rattle.std.proofs.Common.{◌≡◌, ◌∙◌, ℕ, ◌+◌, Bool, true, false, List, [], ◌∷◌, ◌++◌, Option, Some, None, refl, ap}
use Rattle.std.specs.Prelude.{filter_map, unwrap_or}
use Rattle.std.specs.List.{cons_option}
use Rattle.std.specs.Option.{option_or}
use Rattle.std.proofs.lemmas.List.Elements.{filter_map-append}
use Rattle.net_base.specs.declared.addr.Addr.{Addr}
use Rattle.conf_tree.specs.declared.conf.Conf.{Conf}
use Rattle.conf_tree.specs.declared.draft.NeighbourOption.{NeighbourOption}
use Rattle.conf_tree.specs.declared.draft.NeighbourOption.TheVariants as options
use Rattle.conf_tree.specs.declared.neighbour.Neighbour.{Neighbour}
use Rattle.conf_tree.specs.declared.rule.Item.{Item}
use Rattle.conf_tree.specs.Canonical.{rib_name}
use Rattle.conf_tree.specs.Flat.{Placed, taken}
use Rattle.conf_tree.specs.Said.{last, last_option, remote_as_of, local_address_of, description_of, port_of, passive_of, down_of, multihop_of, hold_option_of, hold_min_option_of, announce_v4_of, announce_v6_of, announce_refresh_of, announce_as_4byte_of, max_prefix_of, rib_option_of, set_option_of}
use Rattle.conf_tree.specs.CanonicalDraft.{given_options, set_options, items_options, open_options_of, options_of, numbered, block_of}

-- a neighbour as it stands in the text, with its first line
abbrev pub placed_as : Conf → ℕ → Neighbour → Placed
placed_as conf line n = record { group = n.group; shared = []; block = block_of conf line n }

-- ---- options without their lines

module _ {A : Type 0} (what : NeighbourOption → Option A) where
  without_lines : (line : ℕ) (os : List NeighbourOption) → filter_map (λ o. what o.option) (numbered line os) ≡ filter_map what os
  without_lines line [] = refl
  without_lines line (o ∷ os) = ap (cons_option (what o)) (without_lines (line + 1) os)

  or_nothing : (o : Option A) → option_or o None ≡ o
  or_nothing None = refl
  or_nothing (Some x) = refl

  taken_last : (conf : Conf) (line : ℕ) (n : Neighbour) → taken what (placed_as conf line n) ≡ last (filter_map what (options_of conf n))
  taken_last conf line n = or_nothing (last_option what (numbered (line + 1) (options_of conf n))) ∙ ap last (without_lines (line + 1) (options_of conf n))

  -- ---- parts

  -- what is selected of options that may be missing
  abbrev given : {V : Type 0} → (V → NeighbourOption) → Option V → List A
  given make value = filter_map what (given_options make value)

  abbrev flagged : Bool → NeighbourOption → List A
  flagged flag o = filter_map what (set_options flag o)

  not_given : {V : Type 0} (make : V → NeighbourOption) (value : Option V) → ((v : V) → what (make v) ≡ None) → given make value ≡ []
  not_given make None lacks = refl
  not_given make (Some v) lacks = rw (lacks v) refl

  not_flagged : (flag : Bool) (o : NeighbourOption) → what o ≡ None → flagged flag o ≡ []
  not_flagged true o lacks = rw lacks refl
  not_flagged false o lacks = refl

  no_items : (set : List Item) → ((items : List Item) → what (options.Set items) ≡ None) → filter_map what (items_options set) ≡ []
  no_items [] lacks = refl
  no_items (item ∷ set) lacks = rw (lacks (item ∷ set)) refl

  -- what is selected of a neighbour's options: `own`, `about` and so on of those that may be missing
  abbrev all_of : Conf → Neighbour → (own about silent shut hops most set : List A) → List A
  all_of conf n own about silent shut hops most set =
      cons_option (what (options.RemoteAs n.remote_as)) (own ++ (about ++ cons_option (what (options.Port n.port)) (silent ++ (shut ++ hops))))
      ++ (filter_map what (open_options_of n) ++ (most ++ cons_option (what (options.Rib (rib_name conf n.rib))) set))

  selected : (conf : Conf) (n : Neighbour) → filter_map what (options_of conf n)
      ≡ all_of conf n (given options.LocalAddress n.local_address) (given options.Description n.description) (flagged n.passive options.Passive) (flagged n.down options.Down)
      (given options.Multihop n.multihop) (given options.MaxPrefix n.max_prefix) (filter_map what (items_options n.set))
  selected conf n = simp filter_map-append

  taken_from : (conf : Conf) (line : ℕ) (n : Neighbour) (own about silent shut hops most set : List A)
      → given options.LocalAddress n.local_address ≡ own → given options.Description n.description ≡ about → flagged n.passive options.Passive ≡ silent → flagged n.down options.Down ≡ shut
      → given options.Multihop n.multihop ≡ hops → given options.MaxPrefix n.max_prefix ≡ most → filter_map what (items_options n.set) ≡ set
      → taken what (placed_as conf line n) ≡ last (all_of conf n own about silent shut hops most set)
  taken_from conf line n own about silent shut hops most set o a p d h m s = taken_last conf line n ∙ ap last (selected conf n ∙ (λ i. all_of conf n (o i) (a i) (p i) (d i) (h i) (m i) (s i)))

  -- an option that each block has
  taken_each : (conf : Conf) (line : ℕ) (n : Neighbour) → ((a : Addr) → what (options.LocalAddress a) ≡ None) → ((text : List ℕ) → what (options.Description text) ≡ None)
      → what options.Passive ≡ None → what options.Down ≡ None → ((hops : ℕ) → what (options.Multihop hops) ≡ None) → ((most : ℕ) → what (options.MaxPrefix most) ≡ None)
      → ((items : List Item) → what (options.Set items) ≡ None) → taken what (placed_as conf line n) ≡ last (all_of conf n [] [] [] [] [] [] [])
  taken_each conf line n o a p d h m s =
      taken_from conf line n [] [] [] [] [] [] [] (not_given options.LocalAddress n.local_address o) (not_given options.Description n.description a) (not_flagged n.passive options.Passive p)
      (not_flagged n.down options.Down d) (not_given options.Multihop n.multihop h) (not_given options.MaxPrefix n.max_prefix m) (no_items n.set s)

module _ (conf : Conf) (line : ℕ) (n : Neighbour) where
  abbrev here : Placed
  here = placed_as conf line n

  -- ---- options that each block has

  pub remote_as_taken : taken remote_as_of here ≡ Some n.remote_as
  remote_as_taken = taken_each remote_as_of conf line n (λ _. refl) (λ _. refl) refl refl (λ _. refl) (λ _. refl) (λ _. refl)

  pub port_taken : taken port_of here ≡ Some n.port
  port_taken = taken_each port_of conf line n (λ _. refl) (λ _. refl) refl refl (λ _. refl) (λ _. refl) (λ _. refl)

  pub hold_taken : taken hold_option_of here ≡ Some n.hold
  hold_taken = taken_each hold_option_of conf line n (λ _. refl) (λ _. refl) refl refl (λ _. refl) (λ _. refl) (λ _. refl)

  pub hold_min_taken : taken hold_min_option_of here ≡ Some n.hold_min
  hold_min_taken = taken_each hold_min_option_of conf line n (λ _. refl) (λ _. refl) refl refl (λ _. refl) (λ _. refl) (λ _. refl)

  pub v4_taken : taken announce_v4_of here ≡ Some n.announce_v4
  v4_taken = taken_each announce_v4_of conf line n (λ _. refl) (λ _. refl) refl refl (λ _. refl) (λ _. refl) (λ _. refl)

  pub v6_taken : taken announce_v6_of here ≡ Some n.announce_v6
  v6_taken = taken_each announce_v6_of conf line n (λ _. refl) (λ _. refl) refl refl (λ _. refl) (λ _. refl) (λ _. refl)

  pub refresh_taken : taken announce_refresh_of here ≡ Some n.announce_refresh
  refresh_taken = taken_each announce_refresh_of conf line n (λ _. refl) (λ _. refl) refl refl (λ _. refl) (λ _. refl) (λ _. refl)

  pub as_4byte_taken : taken announce_as_4byte_of here ≡ Some n.announce_as_4byte
  as_4byte_taken = taken_each announce_as_4byte_of conf line n (λ _. refl) (λ _. refl) refl refl (λ _. refl) (λ _. refl) (λ _. refl)

  pub rib_taken : taken rib_option_of here ≡ Some (rib_name conf n.rib)
  rib_taken = taken_each rib_option_of conf line n (λ _. refl) (λ _. refl) refl refl (λ _. refl) (λ _. refl) (λ _. refl)

  -- ---- options that a block may have

  pub local_address_taken : taken local_address_of here ≡ n.local_address
  local_address_taken =
      taken_from local_address_of conf line n (given local_address_of options.LocalAddress n.local_address) [] [] [] [] [] [] refl
      (not_given local_address_of options.Description n.description (λ _. refl)) (not_flagged local_address_of n.passive options.Passive refl) (not_flagged local_address_of n.down options.Down refl)
      (not_given local_address_of options.Multihop n.multihop (λ _. refl)) (not_given local_address_of options.MaxPrefix n.max_prefix (λ _. refl)) (no_items local_address_of n.set (λ _. refl))
      ∙ by n.local_address
    where
      by : (value : Option Addr) → last ((given local_address_of options.LocalAddress value ++ []) ++ []) ≡ value
      by None = refl
      by (Some a) = refl

  pub description_taken : taken description_of here ≡ n.description
  description_taken =
      taken_from description_of conf line n [] (given description_of options.Description n.description) [] [] [] [] [] (not_given description_of options.LocalAddress n.local_address (λ _. refl))
      refl (not_flagged description_of n.passive options.Passive refl) (not_flagged description_of n.down options.Down refl) (not_given description_of options.Multihop n.multihop (λ _. refl))
      (not_given description_of options.MaxPrefix n.max_prefix (λ _. refl)) (no_items description_of n.set (λ _. refl))
      ∙ by n.description
    where
      by : (value : Option (List ℕ)) → last ((given description_of options.Description value ++ []) ++ []) ≡ value
      by None = refl
      by (Some text) = refl

  pub passive_taken : unwrap_or (taken passive_of here) false ≡ n.passive
  passive_taken =
      ap (λ (o : Option Bool). unwrap_or o false)
      (taken_from passive_of conf line n [] [] (flagged passive_of n.passive options.Passive) [] [] [] [] (not_given passive_of options.LocalAddress n.local_address (λ _. refl))
      (not_given passive_of options.Description n.description (λ _. refl)) refl (not_flagged passive_of n.down options.Down refl) (not_given passive_of options.Multihop n.multihop (λ _. refl))
      (not_given passive_of options.MaxPrefix n.max_prefix (λ _. refl)) (no_items passive_of n.set (λ _. refl)))
      ∙ by n.passive
    where
      by : (flag : Bool) → unwrap_or (last ((flagged passive_of flag options.Passive ++ []) ++ [])) false ≡ flag
      by true = refl
      by false = refl

  pub down_taken : unwrap_or (taken down_of here) false ≡ n.down
  down_taken =
      ap (λ (o : Option Bool). unwrap_or o false)
      (taken_from down_of conf line n [] [] [] (flagged down_of n.down options.Down) [] [] [] (not_given down_of options.LocalAddress n.local_address (λ _. refl))
      (not_given down_of options.Description n.description (λ _. refl)) (not_flagged down_of n.passive options.Passive refl) refl (not_given down_of options.Multihop n.multihop (λ _. refl))
      (not_given down_of options.MaxPrefix n.max_prefix (λ _. refl)) (no_items down_of n.set (λ _. refl)))
      ∙ by n.down
    where
      by : (flag : Bool) → unwrap_or (last ((flagged down_of flag options.Down ++ []) ++ [])) false ≡ flag
      by true = refl
      by false = refl

  pub multihop_taken : taken multihop_of here ≡ n.multihop
  multihop_taken =
      taken_from multihop_of conf line n [] [] [] [] (given multihop_of options.Multihop n.multihop) [] [] (not_given multihop_of options.LocalAddress n.local_address (λ _. refl))
      (not_given multihop_of options.Description n.description (λ _. refl)) (not_flagged multihop_of n.passive options.Passive refl) (not_flagged multihop_of n.down options.Down refl) refl
      (not_given multihop_of options.MaxPrefix n.max_prefix (λ _. refl)) (no_items multihop_of n.set (λ _. refl))
      ∙ by n.multihop
    where
      by : (value : Option ℕ) → last (given multihop_of options.Multihop value ++ []) ≡ value
      by None = refl
      by (Some hops) = refl

  pub max_prefix_taken : taken max_prefix_of here ≡ n.max_prefix
  max_prefix_taken =
      taken_from max_prefix_of conf line n [] [] [] [] [] (given max_prefix_of options.MaxPrefix n.max_prefix) [] (not_given max_prefix_of options.LocalAddress n.local_address (λ _. refl))
      (not_given max_prefix_of options.Description n.description (λ _. refl)) (not_flagged max_prefix_of n.passive options.Passive refl) (not_flagged max_prefix_of n.down options.Down refl)
      (not_given max_prefix_of options.Multihop n.multihop (λ _. refl)) refl (no_items max_prefix_of n.set (λ _. refl))
      ∙ by n.max_prefix
    where
      by : (value : Option ℕ) → last (given max_prefix_of options.MaxPrefix value ++ []) ≡ value
      by None = refl
      by (Some most) = refl

  pub set_taken : unwrap_or (taken set_option_of here) [] ≡ n.set
  set_taken =
      ap (λ (o : Option (List Item)). unwrap_or o [])
      (taken_from set_option_of conf line n [] [] [] [] [] [] (filter_map set_option_of (items_options n.set)) (not_given set_option_of options.LocalAddress n.local_address (λ _. refl))
      (not_given set_option_of options.Description n.description (λ _. refl)) (not_flagged set_option_of n.passive options.Passive refl) (not_flagged set_option_of n.down options.Down refl)
      (not_given set_option_of options.Multihop n.multihop (λ _. refl)) (not_given set_option_of options.MaxPrefix n.max_prefix (λ _. refl)) refl)
      ∙ by n.set
    where
      by : (set : List Item) → unwrap_or (last (filter_map set_option_of (items_options set))) [] ≡ set
      by [] = refl
      by (item ∷ set) = refl
