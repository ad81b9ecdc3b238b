-- MEDs in order, and where a lower one of the same neighbour AS stands among them.
use Rattle.std.proofs.Common.{◌≡◌, ℕ, zero, suc, ◌+◌, ◌-◌, ◌<◌, ◌≤◌, Bool, true, false, ◌&&◌, List, [], ◌∷◌, length, map, get_or, refl, sym, ap, ◌∙◌, subst, arith, rules, eq-eqb, ne_eqb, lt-ltb, inl, inr}
use Rattle.std.specs.Prelude.{nat_lt, ◌==◌}
use Rattle.std.specs.List.{list_any}
use Rattle.std.specs.declared.cmp.Ordering.{Ordering}
use Rattle.std.specs.declared.cmp.Ordering.TheVariants.{Less, Equal, Greater}
use Rattle.std.specs.Ordering.{is_lt, nat_cmp, ordering_then}
use Rattle.std.specs.List.Sorted.{IsSorted, IsNonDecreasingBy}
use Rattle.std.proofs.lemmas.Bool.{cases_lt, ltb-true, eqb-true, true≢false}
use Rattle.std.proofs.lemmas.Cmp.{nat_cmp_total, tied_itself}
use Rattle.std.proofs.lemmas.Map.Keys.{ge_from_not_lt}
use Rattle.std.proofs.lemmas.List.Folds.{list_any_at, list_any_none, Any-from_list_any}
use Rattle.std.proofs.lemmas.Option.{get_or_from_slice_get, slice_get_read}
use Rattle.decision.specs.declared.candidate.Candidate.{Candidate}
use Rattle.decision.specs.declared.meds.NeighbourMed.{NeighbourMed}
use Rattle.decision.specs.contracts.meds.NeighbourMedOrd.TheImpl.{cmp-value as derived_order}
use Rattle.decision.specs.Best.{has_lower_med_among}
use Rattle.decision.specs.Meds.{AreInOrder, IsFirstFrom, is_lower_for, told_by}
use Rattle.decision.proofs.Lists.{same_answer, both_true, and_true}

-- what candidates told has a lower one exactly where one of them has
pub lower_told : (candidate : Candidate) (others : List Candidate) → list_any (is_lower_for candidate) (map told_by others) ≡ list_any (λ other. has_lower_med_among false other candidate) others
lower_told candidate [] = refl
lower_told candidate (other ∷ others) = rw (lower_told candidate others) refl

-- ---- the order

abbrev NoHigher : NeighbourMed → NeighbourMed → Type 0
NoHigher x y = (x.neighbour_as ≤ y.neighbour_as) × (x.neighbour_as ≡ y.neighbour_as → x.med ≤ y.med)

not_less : (a b : Ordering) → is_lt (ordering_then a b) ≡ false → (is_lt a ≡ false) × (a ≡ Equal → is_lt b ≡ false)
not_less Less b e = absurd (true≢false e)
not_less Equal b e = (refl, λ _. e)
not_less Greater b e = (refl, λ same. absurd cc)

order_parts : (x y : NeighbourMed) → derived_order.it x y ≡ ordering_then (nat_cmp x.neighbour_as y.neighbour_as) (nat_cmp x.med y.med)
order_parts x y = search rules

equal_compare : (m n : ℕ) → m ≡ n → nat_cmp m n ≡ Equal
equal_compare m n e = ap (nat_cmp m) (sym e) ∙ tied_itself nat_cmp_total m

next_no_higher : (x y : NeighbourMed) → is_lt (derived_order.it y x) ≡ false → NoHigher x y
next_no_higher x y e =
    let parts = not_less _ _ (sym (ap is_lt (order_parts y x)) ∙ e) in
    (ge_from_not_lt _ _ parts.0, λ same. ge_from_not_lt _ _ (parts.1 (equal_compare _ _ (sym same))))

through : (x y z : NeighbourMed) → NoHigher x y → NoHigher y z → NoHigher x z
through x y z one two = (omega (arith, one.0, two.0), λ same. meds same (omega (arith, one.0, two.0, same)) (omega (arith, one.0, two.0, same)))
  where
    meds : x.neighbour_as ≡ z.neighbour_as → x.neighbour_as ≡ y.neighbour_as → y.neighbour_as ≡ z.neighbour_as → x.med ≤ z.med
    meds same first second = omega (arith, one.1 first, two.1 second)

later_no_higher : (xs : List NeighbourMed) → IsSorted derived_order.it xs → (n i : ℕ) (d : NeighbourMed) → i + n < length xs → NoHigher (get_or xs i d) (get_or xs (i + n) d)
later_no_higher xs sorted zero i d within = (let at : i + 0 ≡ i = omega arith in subst (λ k. NoHigher (get_or xs i d) (get_or xs k d)) (sym at) (omega arith, λ _. omega arith))
later_no_higher xs sorted (suc n) i d within =
    let at : i + suc n ≡ i + n + 1 = omega arith in
    subst (λ k. NoHigher (get_or xs i d) (get_or xs k d)) (sym at)
    (through _ _ _ (later_no_higher xs sorted n i d (omega arith)) (next_no_higher (get_or xs (i + n) d) (get_or xs (i + n + 1) d) (sorted (i + n) d (omega arith) (omega arith))))

pub in_order : (xs : List NeighbourMed) → IsSorted derived_order.it xs → AreInOrder xs
in_order xs sorted i j d from within =
    let at : i + (j - i) ≡ j = omega arith in
    subst (λ k. NoHigher (get_or xs i d) (get_or xs k d)) at (later_no_higher xs sorted (j - i) i d (omega arith))

pub ases_rise : (xs : List NeighbourMed) → AreInOrder xs → IsNonDecreasingBy (λ med. med.neighbour_as) xs
ases_rise xs order i j d from within = (order i j d from within).0

-- ---- from the first one that isn't of a lower neighbour AS

module _ (xs : List NeighbourMed) (order : AreInOrder xs) (asn med first : ℕ) (from : IsFirstFrom asn xs first) where
  abbrev is_lower : NeighbourMed → Bool
  is_lower other = (other.neighbour_as == asn) && nat_lt other.med med

  pub lower_there : (least : NeighbourMed) → first < length xs → least ≡ get_or xs first least → ((least.neighbour_as == asn) && nat_lt least.med med) ≡ list_any is_lower xs
  lower_there least within here =
      same_answer _ _ (λ e. list_any_at is_lower xs first least within (ap is_lower (sym here) ∙ e)) (λ e. found (Any-from_list_any is_lower xs e))
    where
      not_before : (k : ℕ) (x : NeighbourMed) → get_or xs k x ≡ x → x.neighbour_as ≡ asn → first ≤ k
      not_before k x at same =
          elim (cases_lt k first) [
            | inl less ↦ (let below = subst (λ (y : NeighbourMed). y.neighbour_as < asn) at (from.before k x less) in absurd (omega (arith, same, below)))
            | inr rest ↦ rest
          ]

      found : (k : ℕ) × (x : NeighbourMed) × (k < length xs) × (get_or xs k x ≡ x) × (is_lower x ≡ true) → is_lower least ≡ true
      found one =
          let parts = both_true _ _ one.4 in
          let asns : one.1.neighbour_as ≡ asn = eqb-true _ _ parts.0 in
          let meds : one.1.med < med = ltb-true _ _ parts.1 in
          let first_is = get_or_from_slice_get xs first least one.1 (slice_get_read xs _ first least refl within here) in
          let no_higher = subst (NoHigher least) one.3 (subst (λ (x : NeighbourMed). NoHigher x (get_or xs one.0 one.1)) first_is (order first one.0 one.1 (not_before one.0 one.1 one.3 asns) one.2)) in
          let reached = subst (λ (x : NeighbourMed). asn ≤ x.neighbour_as) (sym here) (from.after first least (omega arith) within) in
          let same : least.neighbour_as ≡ asn = omega (arith, asns, reached, no_higher.0) in
          let below = no_higher.1 (same ∙ sym asns) in
          and_true _ _ (eq-eqb _ _ same) (lt-ltb _ _ (omega (arith, meds, below)))

  pub lower_nowhere : length xs ≤ first → false ≡ list_any is_lower xs
  lower_nowhere past = sym (list_any_none is_lower xs (λ k d within. ap (λ b. b && nat_lt (get_or xs k d).med med) (ne_eqb _ _ (λ same. omega (arith, same, from.before k d (omega (arith, within, past)))))))
