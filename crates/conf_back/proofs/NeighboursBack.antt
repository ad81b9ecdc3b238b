-- The neighbours that are made of the statements of a canonical text are those of the configuration, and no check of them finds a fault.
use Rattle.std.proofs.Common.{◌≡◌, ◌∙◌, ℕ, Bool, true, false, List, [], ◌∷◌, map, filter, flat_map, Option, Some, None, refl, sym, ap, subst}
use Rattle.std.specs.Prelude.{find, is_none, option_map}
use Rattle.std.specs.List.{IsDistinct}
use Rattle.std.proofs.lemmas.Simd.{map-map}
use Rattle.net_base.specs.declared.addr.Addr.{Addr}
use Rattle.net_base.specs.declared.conf.ConfKind.TheVariants.{NoAs, DoubleNeighbour, FamilyMismatch}
use Rattle.net_base.specs.Order.{addr_cmp, same_family}
use Rattle.net_base.proofs.Order.{addr_cmp-total}
use Rattle.conf_tree.specs.declared.conf.Conf.{Conf}
use Rattle.conf_tree.specs.declared.neighbour.Neighbour.{Neighbour}
use Rattle.conf_tree.specs.Canonical.{is_alone, is_of_group, group_names}
use Rattle.conf_tree.specs.Flat.{Placed, placed, taken, neighbour_of, by_key, neighbours_of}
use Rattle.conf_tree.specs.Said.{remote_as_of, local_address_of, rib_option_of}
use Rattle.conf_tree.specs.Checks.{same_addr, fault_at, fault_of, is_mismatch, is_unknown_rib, double_neighbour, without_as, family_mismatch, unknown_neighbour}
use Rattle.conf_tree.specs.Readable.{Each, IfThere, IsNeighbour, IsReadable, IsWithinLimits, members_of}
use Rattle.conf_tree.specs.Settled.{HasOneFamily, IsSettled}
use Rattle.conf_tree.proofs.Each.{each_filter}
use Rattle.conf_tree.proofs.Each.{each_append, each_both}
use Rattle.conf_back.proofs.Framed.{framed, lines_back}
use Rattle.conf_back.proofs.Merged.{merged}
use Rattle.conf_back.proofs.GroupNames.{covered}
use Rattle.conf_back.proofs.RibsBack.{rib_number_back}
use Rattle.conf_back.proofs.OptionsBack.{placed_as, remote_as_taken, rib_taken, local_address_taken}
use Rattle.conf_back.proofs.NeighbourBack.{neighbour_back}
use Rattle.conf_back.proofs.PlacedBack.{written, ArePlacedAs, placed_back}
use Rattle.conf_back.proofs.Differing.{no_double}
use Rattle.conf_back.proofs.AddressesDiffer.{flips, addresses_differ}

-- ---- what is made, and what is found, of neighbours with their places

module _ (conf : Conf) (Good : Neighbour → Type 0) where
  made_back : {B : Type 0} (f : Placed → B) (g : Neighbour → B) → ((line : ℕ) (n : Neighbour) → Good n → f (placed_as conf line n) ≡ g n)
      → (ps : List Placed) (ns : List Neighbour) → ArePlacedAs conf ps ns → Each Good ns → map f ps ≡ map g ns
  made_back f g same [] [] are good = refl
  made_back f g same [] (n ∷ ns) are good = absurd are
  made_back f g same (p ∷ ps) [] are good = absurd are
  made_back f g same (p ∷ ps) (n ∷ ns) are good = λ i. (ap f are.0.is ∙ same are.0.line n good.0) i ∷ made_back f g same ps ns are.1 good.1 i

  none_found : (test : Placed → Bool) → ((line : ℕ) (n : Neighbour) → Good n → test (placed_as conf line n) ≡ false)
      → (ps : List Placed) (ns : List Neighbour) → ArePlacedAs conf ps ns → Each Good ns → find test ps ≡ None
  none_found test fails [] [] are good = refl
  none_found test fails [] (n ∷ ns) are good = absurd are
  none_found test fails (p ∷ ps) [] are good = absurd are
  none_found test fails (p ∷ ps) (n ∷ ns) are good = rw (ap test are.0.is ∙ fails are.0.line n good.0) (none_found test fails ps ns are.1 good.1)

  each_member : (names : List (List ℕ)) → Each Good conf.neighbours → Each Good (flat_map (members_of conf) names)
  each_member [] good = tt
  each_member (name ∷ names) good = each_append Good (members_of conf name) (flat_map (members_of conf) names) (each_filter Good (is_of_group name) conf.neighbours good) (each_member names good)

  each_written : Each Good conf.neighbours → Each Good (written conf)
  each_written good =
      each_append Good (filter is_alone conf.neighbours) (flat_map (members_of conf) (group_names conf.neighbours)) (each_filter Good is_alone conf.neighbours good)
      (each_member (group_names conf.neighbours) good)

-- ---- the neighbours, and their checks

module _ (conf : Conf) (h : IsReadable conf) (fits : IsWithinLimits conf) (s : IsSettled conf) where
  abbrev IsGood : Neighbour → Type 0
  IsGood n = IsNeighbour conf n × HasOneFamily n

  abbrev found : List Placed
  found = placed (lines_back conf)

  good : Each IsGood (written conf)
  good = each_written conf IsGood (each_both (IsNeighbour conf) HasOneFamily conf.neighbours h.neighbours s.families)

  values_back : (ns : List Neighbour) → map {A = Addr × Neighbour} (λ entry. entry.1) (map (λ n. (n.address, n)) ns) ≡ ns
  values_back [] = refl
  values_back (n ∷ ns) = ap (λ (ms : List Neighbour). n ∷ ms) (values_back ns)

  pub neighbours_back : neighbours_of (framed conf) found ≡ conf.neighbours
  unfolding neighbours_of
  neighbours_back =
      ap (λ (entries : List (Addr × Neighbour)). map (λ entry. entry.1) (by_key addr_cmp entries))
      (made_back conf IsGood (λ p. (p.block.address, neighbour_of (framed conf) p)) (λ n. (n.address, n)) (λ line n is i. (n.address, neighbour_back conf line n fits s is.0 i)) found (written conf) (placed_back conf) good)
      ∙ ap (map (λ entry. entry.1)) (merged addr_cmp addr_cmp-total (λ n. n.address) is_of_group conf.neighbours s.neighbours is_alone (group_names conf.neighbours) (covered conf.neighbours))
      ∙ values_back conf.neighbours

  pub no_double_neighbour : double_neighbour found ≡ None
  unfolding double_neighbour
  no_double_neighbour =
      ap (option_map (fault_at DoubleNeighbour))
      (no_double same_addr flips (map (λ p. (p.block.line, p.block.address)) found)
      (subst (IsDistinct same_addr)
      (sym (map-map (λ name. name.1) (λ p. (p.block.line, p.block.address)) found
      ∙ made_back conf IsGood (λ p. p.block.address) (λ n. n.address) (λ line n is. refl) found (written conf) (placed_back conf) good))
      (addresses_differ conf s)))

  pub none_without_as : without_as found ≡ None
  unfolding without_as
  none_without_as =
      ap (fault_of NoAs) (none_found conf IsGood (λ p. is_none (taken remote_as_of p)) (λ line n is. ap is_none (remote_as_taken conf line n)) found (written conf) (placed_back conf) good)

  pub no_unknown_neighbour : unknown_neighbour (framed conf) found ≡ None
  unfolding unknown_neighbour
  no_unknown_neighbour =
      ap (option_map (λ p. p.block.line))
      (none_found conf IsGood (λ p. is_unknown_rib (framed conf) (taken rib_option_of p))
      (λ line n is. ap (is_unknown_rib (framed conf)) (rib_taken conf line n) ∙ ap is_none (rib_number_back conf n.rib fits s is.0.rib)) found (written conf) (placed_back conf) good)

  one_family : (line : ℕ) (n : Neighbour) → HasOneFamily n → is_mismatch (placed_as conf line n) n.local_address ≡ false
  one_family line n is = by n.local_address is
    where
      by : (own : Option Addr) → IfThere (λ a. same_family a.family n.address.family ≡ true) own → is_mismatch (placed_as conf line n) own ≡ false
      by None is = refl
      by (Some a) is = rw is refl

  pub no_mismatch : family_mismatch found ≡ None
  unfolding family_mismatch
  no_mismatch =
      ap (fault_of FamilyMismatch)
      (none_found conf IsGood (λ p. is_mismatch p (taken local_address_of p))
      (λ line n is. ap (is_mismatch (placed_as conf line n)) (local_address_taken conf line n) ∙ one_family line n is.1) found (written conf) (placed_back conf) good)
