-- The names of sets stand for the sets that have them.
use Rattle.std.proofs.Common.{◌≡◌, ◌∙◌, ℕ, zero, suc, ◌+◌, ◌<◌, ◌^◌, Bool, true, false, cond, List, [], ◌∷◌, length, map, Option, Some, None, refl, ap, sym, subst, arith, bytes_eq}
use Rattle.std.specs.Prelude.{nat_lt, option_map, option_and_then}
use Rattle.std.specs.List.{AllByRecursion, IsDistinct, position_or_len}
use Rattle.std.specs.List.Sorted.{IsStrictlySortedBy}
use Rattle.std.specs.Ordering.{on}
use Rattle.std.specs.Cmp.Lexicographic.{nat_list_cmp_total}
use Rattle.std.proofs.lemmas.Bool.Decides.{nat_tests}
use Rattle.std.proofs.lemmas.Cmp.{nat_list_eq_equiv}
use Rattle.std.proofs.lemmas.Map.Keys.{IsDistinct-from_sorted}
use Rattle.conf_tree.proofs.Orders.{text_same}
use Rattle.conf_tree.specs.declared.conf.Conf.{Conf}
use Rattle.conf_tree.specs.declared.sets.SetId.{SetId}
use Rattle.conf_tree.specs.declared.sets.SetKind.{SetKind}
use Rattle.conf_tree.specs.declared.sets.SetKind.TheVariants as kinds
use Rattle.conf_tree.specs.Canonical.{name_at, prefix_set_name, as_set_name, origin_set_name}
use Rattle.conf_tree.specs.Flat.{text_cmp, below, place_of, set_id, prefix_set_id, as_set_id, origin_set_id}
use Rattle.conf_tree.specs.Settled.{IsSettled, IsKnownSet}
use Rattle.conf_back.proofs.Framed.{framed}
use Rattle.conf_back.proofs.InOrder.{keys_sorted}

-- names in order are distinct
pub distinct_names : {S : Type 0} (name : S → List ℕ) (sets : List S) → IsStrictlySortedBy (on name text_cmp) sets → IsDistinct bytes_eq (map name sets)
distinct_names name sets s =
    subst (λ (same : List ℕ → List ℕ → Bool). IsDistinct same (map name sets)) text_same (IsDistinct-from_sorted text_cmp (map name sets) (keys_sorted text_cmp nat_list_cmp_total name sets s))

-- ---- places

pub same_name : (name : List ℕ) → bytes_eq name name ≡ true
same_name name = nat_list_eq_equiv.refl name

module _ {S : Type 0} (name : S → List ℕ) where
  -- the place at which a name is found
  abbrev place : List S → List ℕ → ℕ
  place sets wanted = position_or_len (λ s. bytes_eq wanted (name s)) sets

  apart_from : (s : S) (sets : List S) (at : ℕ) → at < length sets → AllByRecursion (λ y. bytes_eq (name s) y ≡ false) (map name sets) → bytes_eq (name_at name sets at) (name s) ≡ false
  apart_from s [] at h all = absurd (omega (arith, h))
  apart_from s (x ∷ sets) zero h all = nat_list_eq_equiv.symm (name x) (name s) ∙ all.0
  apart_from s (x ∷ sets) (suc at) h all = apart_from s sets at (omega (arith, h)) all.1

  one_behind : (n m : ℕ) → n ≡ m → 1 + n ≡ suc m
  one_behind n m e = omega (arith, e)

  found_at : (sets : List S) (at : ℕ) → at < length sets → IsDistinct bytes_eq (map name sets) → place sets (name_at name sets at) ≡ at
  unfolding IsDistinct
  found_at [] at h d = absurd (omega (arith, h))
  found_at (s ∷ sets) zero h d = rw (same_name (name s)) refl
  found_at (s ∷ sets) (suc at) h d = rw (apart_from s sets at (omega (arith, h)) d.0) (one_behind (place sets (name_at name sets at)) at (found_at sets at (omega (arith, h)) d.1))

  is_inside : (n m : ℕ) → n < m → nat_lt n m ≡ true
  is_inside n m h = grind (arith, nat_tests, h)

  pub place_back : (sets : List S) (at : ℕ) → at < length sets → IsDistinct bytes_eq (map name sets) → place_of name sets (name_at name sets at) ≡ Some at
  place_back sets at h d =
      let found : place sets (name_at name sets at) ≡ at = found_at sets at h d in
      ap (λ (n : ℕ). cond (nat_lt n (length sets)) (Some n) None) found ∙ ap (λ (b : Bool). cond b (Some at) None) (is_inside at (length sets) h)

  pub id_back : (kind : SetKind) (sets : List S) (at : ℕ) → at < length sets → at < 2 ^ 32 → IsDistinct bytes_eq (map name sets) → set_id kind name sets (name_at name sets at) ≡ Some (record { kind = kind; at = at })
  id_back kind sets at h small d =
      ap (λ (o : Option ℕ). option_map (λ place. record { kind = kind; at = place }) (option_and_then (below (2 ^ 32)) o)) (place_back sets at h d)
      ∙ ap (λ (b : Bool). option_map (λ place. record { kind = kind; at = place }) (cond b (Some at) None)) (is_inside at (2 ^ 32) small)

-- ---- sets

module _ (conf : Conf) (s : IsSettled conf) (set : SetId) where
  pub prefix_set_back : IsKnownSet conf kinds.Prefix set → prefix_set_id (framed conf) (prefix_set_name conf set.at) ≡ Some set
  unfolding prefix_set_id prefix_set_name
  prefix_set_back h =
      id_back (λ s. s.name) kinds.Prefix conf.prefix_sets set.at h.0.«there» h.1 (distinct_names (λ s. s.name) conf.prefix_sets s.prefix_sets)
      ∙ ap (λ (kind : SetKind). Some (record { kind = kind; at = set.at })) (sym h.0.of_kind)

  pub as_set_back : IsKnownSet conf kinds.As set → as_set_id (framed conf) (as_set_name conf set.at) ≡ Some set
  unfolding as_set_id as_set_name
  as_set_back h =
      id_back (λ s. s.name) kinds.As conf.as_sets set.at h.0.«there» h.1 (distinct_names (λ s. s.name) conf.as_sets s.as_sets)
      ∙ ap (λ (kind : SetKind). Some (record { kind = kind; at = set.at })) (sym h.0.of_kind)

  pub origin_set_back : IsKnownSet conf kinds.Origin set → origin_set_id (framed conf) (origin_set_name conf set.at) ≡ Some set
  unfolding origin_set_id origin_set_name
  origin_set_back h =
      id_back (λ s. s.name) kinds.Origin conf.origin_sets set.at h.0.«there» h.1 (distinct_names (λ s. s.name) conf.origin_sets s.origin_sets)
      ∙ ap (λ (kind : SetKind). Some (record { kind = kind; at = set.at })) (sym h.0.of_kind)
