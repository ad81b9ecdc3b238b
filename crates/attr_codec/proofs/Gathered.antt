-- The unknown attributes of a field, gathered by type, are the list that was sent.
use Rattle.std.proofs.Common.{◌≡◌, ◌∙◌, ℕ, ◌<◌, ◌≤◌, zero, suc, Bool, true, false, cond, List, [], ◌∷◌, ◌++◌, length, map, filter, Option, Some, None, refl, ap, sym, arith}
use Rattle.std.specs.Prelude.{nat_lt, nat_eq, option_map}
use Rattle.std.specs.List.{AllByRecursion}
use Rattle.std.specs.List.Sorted.{IsStrictlySortedBy}
use Rattle.std.specs.Ordering.{nat_cmp}
use Rattle.std.specs.declared.cmp.Ordering.TheVariants.{Less}
use Rattle.std.proofs.lemmas.Map.Keys.{sorted_head, sorted_tail}
use Rattle.std.proofs.lemmas.Cmp.{ranked}
use Rattle.std.proofs.lemmas.Bool.{eqb-true}
use Rattle.std.proofs.lemmas.Bool.Decides.{nat_tests}
use Rattle.attr_model.specs.Valid.{is_known}
use Rattle.attr_codec.specs.Field.{Attribute, first_of}
use Rattle.attr_codec.specs.Unknown.{kept_of, unknown_below, unknown_of}
use Rattle.attr_codec.specs.Width.{IsUnknown}
use Rattle.attr_codec.proofs.Rows.{attribute_of}
use Rattle.attr_codec.proofs.Gaps.{Entry, AreUnknown, value_at}

-- an attribute of a known type isn't kept
kept_known_by : (kind : ℕ) (a : Attribute) (rest : Option Attribute) → is_known kind ≡ true → kept_of rest ≡ [] → (b : Bool) → nat_eq a.kind kind ≡ b → kept_of (cond b (Some a) rest) ≡ []
kept_known_by kind a rest known behind true e =
    let same : a.kind ≡ kind = eqb-true a.kind kind e in
    let is : is_known a.kind ≡ true = ap is_known same ∙ known in
    rw is refl
kept_known_by kind a rest known behind false e = behind

kept_known : (kind : ℕ) (attributes : List Attribute) → is_known kind ≡ true → kept_of (first_of kind attributes) ≡ []
kept_known kind [] known = refl
kept_known kind (a ∷ rest) known = kept_known_by kind a (first_of kind rest) known (kept_known kind rest known) (nat_eq a.kind kind) refl

abbrev entry_at : ℕ → Option (List ℕ) → List Entry
entry_at kind None = []
entry_at kind (Some value) = (kind, value) ∷ []

kept_flag : (kind : ℕ) (value : List ℕ) → is_known kind ≡ false → (b : Bool) → nat_lt 255 (length value) ≡ b → kept_of (Some (attribute_of 224 kind value)) ≡ (kind, value) ∷ []
kept_flag kind value unknown true e = rw (e, unknown) refl
kept_flag kind value unknown false e = rw (e, unknown) refl

kept_unknown : (kind : ℕ) (value : Option (List ℕ)) → is_known kind ≡ false → kept_of (option_map (attribute_of 224 kind) value) ≡ entry_at kind value
kept_unknown kind None unknown = refl
kept_unknown kind (Some value) unknown = kept_flag kind value unknown (nat_lt 255 (length value)) refl

value_known : (kind : ℕ) (us : List Entry) → is_known kind ≡ true → AreUnknown us → value_at kind us ≡ None
value_known kind [] known are = refl
value_known kind (u ∷ us) known are = by (nat_eq u.0 kind) refl (value_known kind us known are.1)
  where
    by : (b : Bool) → nat_eq u.0 kind ≡ b → value_at kind us ≡ None → cond b (Some u.1) (value_at kind us) ≡ None
    by true e behind = let h : true ≡ false = sym known ∙ ap is_known (sym (eqb-true u.0 kind e)) ∙ are.0 in absurd cc
    by false e behind = behind

-- ---- a list by type, cut at a type

abbrev below : ℕ → List Entry → List Entry
below n us = filter (λ (u : Entry). nat_lt u.0 n) us

less_is : (m n : ℕ) → nat_cmp m n ≡ Less → m < n
less_is m n h = ranked m n Less (sym h)

-- above a type there is nothing of it
pub record NothingTo (n : ℕ) (us : List Entry) : Type 0 where
  pub upto : below (suc n) us ≡ []
  pub before : below n us ≡ []
  pub value : value_at n us ≡ None

nothing_to : (n m : ℕ) (us : List Entry) → n ≤ m → AllByRecursion (λ k. nat_cmp m k ≡ Less) (map (λ (u : Entry). u.0) us) → NothingTo n us
nothing_to n m [] h above = record { upto = refl; before = refl; value = refl }
nothing_to n m (u ∷ us) h above =
    let more : m < u.0 = less_is m u.0 above.0 in
    let a : nat_lt u.0 (suc n) ≡ false = grind (arith, nat_tests) in
    let b : nat_lt u.0 n ≡ false = grind (arith, nat_tests) in
    let d : nat_eq u.0 n ≡ false = grind (arith, nat_tests) in
    let rest = nothing_to n m us h above.1 in
    record { upto = rw a rest.upto; before = rw b rest.before; value = rw d rest.value }

below_step : (n : ℕ) (us : List Entry) → IsStrictlySortedBy nat_cmp (map (λ (u : Entry). u.0) us) → below (suc n) us ≡ below n us ++ entry_at n (value_at n us)
below_step n [] sorted = refl
below_step n (u ∷ us) sorted =
    step (nat_lt u.0 n) (nat_eq u.0 n) refl refl
    (sorted_head nat_cmp u.0 (map (λ (u : Entry). u.0) us) sorted)
    (below_step n us (sorted_tail nat_cmp u.0 (map (λ (u : Entry). u.0) us) sorted))
  where
    step : (b d : Bool) → nat_lt u.0 n ≡ b → nat_eq u.0 n ≡ d → AllByRecursion (λ k. nat_cmp u.0 k ≡ Less) (map (λ (u : Entry). u.0) us) → below (suc n) us ≡ below n us ++ entry_at n (value_at n us) → below (suc n) (u ∷ us) ≡ below n (u ∷ us) ++ entry_at n (value_at n (u ∷ us))
    step true d e f above behind =
        let less : u.0 < n = grind (arith, nat_tests) in
        let upto : nat_lt u.0 (suc n) ≡ true = grind (arith, nat_tests) in
        let other : nat_eq u.0 n ≡ false = grind (arith, nat_tests) in
        rw (e, upto, other) (ap (λ (l : List Entry). u ∷ l) behind)
    step false true e f above behind =
        let same : u.0 ≡ n = eqb-true u.0 n f in
        let upto : nat_lt u.0 (suc n) ≡ true = grind (arith, nat_tests) in
        let nothing = nothing_to n u.0 us (omega arith) above in
        rw (e, upto, f, nothing.upto, nothing.before) (ap (λ k. (k, u.1) ∷ []) same)
    step false false e f above behind =
        let more : n < u.0 = grind (arith, nat_tests) in
        let upto : nat_lt u.0 (suc n) ≡ false = grind (arith, nat_tests) in
        let nothing = nothing_to n u.0 us (omega arith) above in
        rw (e, upto, f, nothing.upto, nothing.before, nothing.value) refl

below_none : (us : List Entry) → below 0 us ≡ []
below_none [] = refl
below_none (u ∷ us) = let e : nat_lt u.0 0 ≡ false = grind (arith, nat_tests) in rw e (below_none us)

below_all : (us : List Entry) → AllByRecursion IsUnknown us → below 256 us ≡ us
below_all [] width = refl
below_all (u ∷ us) width = let h : u.0 < 256 = width.0 in let e : nat_lt u.0 256 ≡ true = grind (arith, nat_tests) in rw e (ap (λ (l : List Entry). u ∷ l) (below_all us width.1))

-- ---- all types

-- what stands under each type of a field
pub record HoldsUnknown (attributes : List Attribute) (us : List Entry) : Type 0 where
  pub at : (kind : ℕ) → is_known kind ≡ false → kind < 256 → first_of kind attributes ≡ option_map (attribute_of 224 kind) (value_at kind us)
  pub types : AreUnknown us
  pub sorted : IsStrictlySortedBy nat_cmp (map (λ (u : Entry). u.0) us)

kept_at : (attributes : List Attribute) (us : List Entry) → HoldsUnknown attributes us → (n : ℕ) → n < 256 → (b : Bool) → is_known n ≡ b → kept_of (first_of n attributes) ≡ entry_at n (value_at n us)
kept_at attributes us holds n h true e = kept_known n attributes e ∙ sym (ap (entry_at n) (value_known n us e holds.types))
kept_at attributes us holds n h false e = ap kept_of (holds.at n e h) ∙ kept_unknown n (value_at n us) e

gathered : (attributes : List Attribute) (us : List Entry) → HoldsUnknown attributes us → (n : ℕ) → n ≤ 256 → unknown_below n attributes ≡ below n us
unfolding unknown_below
gathered attributes us holds zero h = sym (below_none us)
gathered attributes us holds (suc n) h =
    rw (gathered attributes us holds n (omega arith), kept_at attributes us holds n (omega arith) (is_known n) refl) (sym (below_step n us holds.sorted))

pub unknown_back : (attributes : List Attribute) (us : List Entry) → HoldsUnknown attributes us → AllByRecursion IsUnknown us → unknown_of attributes ≡ us
unfolding unknown_of
unknown_back attributes us holds width = gathered attributes us holds 256 (omega arith) ∙ below_all us width
