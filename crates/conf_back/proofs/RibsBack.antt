-- The name of a RIB, or of another entry of a list whose names differ, finds its number again.
use Rattle.std.proofs.Common.{◌≡◌, ◌∙◌, ℕ, zero, suc, ◌+◌, ◌-◌, ◌<◌, ◌≤◌, Bool, true, false, cond, eqb, nat_lt, List, [], ◌∷◌, length, map, Option, Some, None, refl, sym, ap, subst, arith, true≢false}
use Rattle.std.specs.Prelude.{bytes_eq, slice_get, option_and_then}
use Rattle.std.specs.List.{IsDistinct, AllByRecursion}
use Rattle.std.proofs.lemmas.Bool.{lt-ltb}
use Rattle.std.proofs.lemmas.Bool.Decides.{nat_tests}
use Rattle.std.proofs.lemmas.Cmp.{nat_list_eq_equiv}
use Rattle.std.proofs.lemmas.Option.{slice_get_within}
use Rattle.conf_tree.specs.declared.conf.Conf.{Conf}
use Rattle.conf_tree.specs.declared.conf.Rib.{Rib}
use Rattle.conf_tree.specs.Names.{is_name}
use Rattle.conf_tree.specs.Canonical.{name_at, rib_name}
use Rattle.conf_tree.specs.Flat.{loc_rib, below, place_of, rib_number}
use Rattle.conf_tree.specs.Readable.{IsName, IsWithinLimits}
use Rattle.conf_tree.specs.Settled.{IsSettled}
use Rattle.conf_back.proofs.NamesBack.{place_back}

-- ---- names that are the same, and names that differ

unlike_back : (a b : List ℕ) → bytes_eq a b ≡ false → bytes_eq b a ≡ false
unlike_back a b differs = nat_list_eq_equiv.symm b a ∙ differs

-- ---- places

module _ {A : Type 0} (name_of : A → List ℕ) where
  -- what holds of all names of a list holds of the name at a place
  all_at : (P : List ℕ → Type 0) (xs : List A) (k : ℕ) (x : A) → AllByRecursion P (map name_of xs) → slice_get xs k ≡ Some x → P (name_of x)
  all_at P [] k x all at = absurd (cc)
  all_at P (y ∷ xs) zero x all at = let same : y ≡ x = cc in subst (λ z. P (name_of z)) same all.0
  all_at P (y ∷ xs) (suc k) x all at = all_at P xs k x all.1 at

  pub place_at : (xs : List A) (k : ℕ) (x : A) → IsDistinct bytes_eq (map name_of xs) → slice_get xs k ≡ Some x → place_of name_of xs (name_of x) ≡ Some k
  place_at xs k x distinct at =
      let named : name_of x ≡ name_at name_of xs k = rw at refl in
      ap (place_of name_of xs) named ∙ place_back name_of xs k (slice_get_within xs k x at) distinct

  -- a name that isn't empty stands at its place
  named_there : (xs : List A) (k : ℕ) → is_name (name_at name_of xs k) ≡ true → (x : A) × (slice_get xs k ≡ Some x) × (name_at name_of xs k ≡ name_of x)
  unfolding is_name
  named_there xs k named = by (slice_get xs k) refl
    where
      by : (o : Option A) → slice_get xs k ≡ o → (x : A) × (slice_get xs k ≡ Some x) × (name_at name_of xs k ≡ name_of x)
      by None is = absurd (true≢false (sym named ∙ rw is refl))
      by (Some x) is = (x, is, rw is refl)

-- ---- RIBs

not_zero : (k : ℕ) → eqb (suc k) 0 ≡ false
not_zero k = grind (arith, nat_tests)

less_one : (k : ℕ) → suc k - 1 ≡ k
less_one k = omega arith

small : (k : ℕ) → k < 15 → below 256 (k + 1) ≡ Some (suc k)
small k h = by (nat_lt (k + 1) 256) refl
  where
    by : (b : Bool) → nat_lt (k + 1) 256 ≡ b → cond b (Some (k + 1)) None ≡ Some (suc k)
    by true is = let same : k + 1 ≡ suc k = omega arith in ap Some same
    by false is = absurd (true≢false (sym (lt-ltb (k + 1) 256 (omega arith)) ∙ is))

other_name : (conf : Conf) (k : ℕ) → rib_name conf (suc k) ≡ name_at (λ r. r.name) conf.ribs k
unfolding rib_name
other_name conf k = rw (not_zero k) (rw (less_one k) refl)

other_number : (ribs : List Rib) (k : ℕ) (x : Rib) → length ribs ≤ 15 → IsDistinct bytes_eq (loc_rib ∷ map (λ r. r.name) ribs) → slice_get ribs k ≡ Some x → rib_number ribs x.name ≡ Some (suc k)
unfolding rib_number IsDistinct
other_number ribs k x few distinct at =
    let within : k < length ribs = slice_get_within ribs k x at in
    rw (unlike_back loc_rib x.name (all_at (λ r. r.name) (λ n. bytes_eq loc_rib n ≡ false) ribs k x distinct.0 at))
    (ap (λ (o : Option ℕ). option_and_then (λ place. below 256 (place + 1)) o) (place_at (λ r. r.name) ribs k x distinct.1 at) ∙ small k (omega arith))

first_number : (conf : Conf) → rib_number conf.ribs (rib_name conf 0) ≡ Some 0
unfolding rib_number rib_name
first_number conf = refl

pub rib_number_back : (conf : Conf) (number : ℕ) → IsWithinLimits conf → IsSettled conf → IsName (rib_name conf number) → rib_number conf.ribs (rib_name conf number) ≡ Some number
rib_number_back conf zero fits s h = first_number conf
rib_number_back conf (suc k) fits s h =
    let named = other_name conf k in
    let found = named_there (λ r. r.name) conf.ribs k (sym (ap is_name named) ∙ h.form) in
    ap (rib_number conf.ribs) (named ∙ found.2) ∙ other_number conf.ribs k found.0 fits.ribs s.ribs found.1
