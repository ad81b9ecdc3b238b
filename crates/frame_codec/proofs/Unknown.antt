-- Unknown attributes, each above the one in front.
use Rattle.std.proofs.Common.{arith, ◌≡◌, ◌∙◌, ℕ, suc, ◌+◌, ◌≤◌, ◌<◌, ◌↔◌, IsTrue, Bool, true, false, List, [], ◌∷◌, length, get_or, drop, refl, ap, sym, add-one, drop-cons}
use Rattle.std.specs.Prelude.{◌&&◌, not, nat_le, map}
use Rattle.std.specs.List.{AllByRecursion}
use Rattle.std.specs.List.Sorted.{IsStrictlySortedBy}
use Rattle.std.specs.Ordering.{nat_cmp}
use Rattle.std.specs.declared.cmp.Ordering.TheVariants.{Less}
use Rattle.std.proofs.lemmas.Bool.Decides.{nat_tests}
use Rattle.std.proofs.lemmas.List.{drop_all}
use Rattle.attr_model.specs.Valid.{is_known}
use Rattle.frame_codec.specs.Lists.{AreUnknown, may_follow}

-- each type may follow the one in front, the first of them from `least` on
abbrev pub rise_from : ℕ → List (ℕ × List ℕ) → Bool
rise_from least [] = true
rise_from least (a ∷ us) = may_follow least a.0 && rise_from (a.0 + 1) us

both_true : (a b : Bool) → (a && b) ≡ true → (a ≡ true) × (b ≡ true)
both_true true true e = (refl, refl)
both_true true false e = absurd cc
both_true false b e = absurd cc

not_true : (a : Bool) → not a ≡ true → a ≡ false
not_true false e = refl
not_true true e = absurd cc

-- what may follow
following : (least kind : ℕ) → may_follow least kind ≡ true → (least ≤ kind) × (is_known kind ≡ false)
following least kind e =
    let parts = both_true (nat_le least kind) (not (is_known kind)) e in
    (grind (arith, nat_tests, parts.0), not_true (is_known kind) parts.1)

follows : (least kind : ℕ) → least ≤ kind → is_known kind ≡ false → may_follow least kind ≡ true
follows least kind low unknown =
    let t : nat_le least kind ≡ true = grind (arith, nat_tests) in
    rw (t, unknown) refl

less : (x y : ℕ) → x + 1 ≤ y → nat_cmp x y ≡ Less
less x y low = grind (arith, nat_tests)

below : (x y : ℕ) → nat_cmp x y ≡ Less → x + 1 ≤ y
below x y e = grind (arith, nat_tests)

abbrev kinds : List (ℕ × List ℕ) → List ℕ
kinds us = map (λ (a : ℕ × List ℕ). a.0) us

-- where they rise from one more than a type, all are above it
above : (kind least : ℕ) (us : List (ℕ × List ℕ)) → kind + 1 ≤ least → rise_from least us ≡ true → AllByRecursion (λ y. nat_cmp kind y ≡ Less) (kinds us)
above kind least [] low e = tt
above kind least (a ∷ us) low e =
    let parts = both_true (may_follow least a.0) (rise_from (a.0 + 1) us) e in
    let first = following least a.0 parts.0 in
    let this : kind + 1 ≤ a.0 = omega (arith, first.0) in
    let next : kind + 1 ≤ a.0 + 1 = omega arith in
    (less kind a.0 this, above kind (a.0 + 1) us next parts.1)

risen : (least : ℕ) (us : List (ℕ × List ℕ)) → rise_from least us ≡ true → IsStrictlySortedBy nat_cmp (kinds us) × AllByRecursion (λ (a : ℕ × List ℕ). is_known a.0 ≡ false) us
unfolding IsStrictlySortedBy
risen least [] e = (tt, tt)
risen least (a ∷ us) e =
    let parts = both_true (may_follow least a.0) (rise_from (a.0 + 1) us) e in
    let first = following least a.0 parts.0 in
    let others = risen (a.0 + 1) us parts.1 in
    let same : a.0 + 1 ≤ a.0 + 1 = omega arith in
    ((above a.0 (a.0 + 1) us same parts.1, others.0), (first.1, others.1))

rising : (least : ℕ) (us : List (ℕ × List ℕ)) → AllByRecursion (λ (y : ℕ). least ≤ y) (kinds us) → IsStrictlySortedBy nat_cmp (kinds us) → AllByRecursion (λ (a : ℕ × List ℕ). is_known a.0 ≡ false) us → rise_from least us ≡ true
unfolding IsStrictlySortedBy
rising least [] low sorted unknown = refl
rising least (a ∷ us) low sorted unknown =
    let first = follows least a.0 low.0 unknown.0 in
    let others = rising (a.0 + 1) us (all_below a.0 (kinds us) sorted.0) sorted.1 unknown.1 in
    rw (first, others) refl
  where
    all_below : (x : ℕ) (ys : List ℕ) → AllByRecursion (λ y. nat_cmp x y ≡ Less) ys → AllByRecursion (λ y. x + 1 ≤ y) ys
    all_below x [] h = tt
    all_below x (y ∷ ys) h = (below x y h.0, all_below x ys h.1)

all_from_zero : (xs : List ℕ) → AllByRecursion (λ y. 0 ≤ y) xs
all_from_zero [] = tt
all_from_zero (x ∷ xs) = (omega arith, all_from_zero xs)

-- they rise exactly where they could have been sent
pub rise : (us : List (ℕ × List ℕ)) → rise_from 0 us ≡ true ↔ AreUnknown us
rise us = (
  λ e. let is = risen 0 us e in record { ascending = is.0; unknown_types = is.1 },
  λ is. rising 0 us (all_from_zero (kinds us)) is.ascending is.unknown_types,
)

-- ---- one by one

-- the next one, which may follow or not
next_one : (least i : ℕ) (us : List (ℕ × List ℕ)) (one : ℕ × List ℕ) → i < length us → one ≡ get_or us i one →
    rise_from least (drop i us) ≡ may_follow least one.0 && rise_from (one.0 + 1) (drop (i + 1) us)
next_one least i us one low e =
    ap (rise_from least) (drop-cons us i one low)
    ∙ ap (λ (x : ℕ × List ℕ). may_follow least x.0 && rise_from (x.0 + 1) (drop (suc i) us)) (sym e)
    ∙ ap (λ (n : ℕ). may_follow least one.0 && rise_from (one.0 + 1) (drop n us)) (sym (add-one i))

pub rise_more : (least next i : ℕ) (us : List (ℕ × List ℕ)) (one : ℕ × List ℕ) → i < length us → one ≡ get_or us i one →
    rise_from 0 us ≡ rise_from least (drop i us) → true ≡ may_follow least one.0 → next ≡ one.0 → rise_from 0 us ≡ rise_from (next + 1) (drop (i + 1) us)
rise_more least next i us one low e before may n =
    before ∙ next_one least i us one low e
    ∙ ap (λ (b : Bool). b && rise_from (one.0 + 1) (drop (i + 1) us)) (sym may)
    ∙ ap (λ (k : ℕ). rise_from (k + 1) (drop (i + 1) us)) (sym n)

pub rise_none : (least i : ℕ) (us : List (ℕ × List ℕ)) (one : ℕ × List ℕ) → i < length us → one ≡ get_or us i one →
    rise_from 0 us ≡ rise_from least (drop i us) → false ≡ may_follow least one.0 → IsTrue false ↔ AreUnknown us
rise_none least i us one low e before may =
    let not : rise_from 0 us ≡ false = before ∙ next_one least i us one low e ∙ ap (λ (b : Bool). b && rise_from (one.0 + 1) (drop (i + 1) us)) (sym may) in
    (λ t. absurd cc, λ is. sym not ∙ (rise us).1 is)

pub rise_all : (least i : ℕ) (us : List (ℕ × List ℕ)) → length us ≤ i → rise_from 0 us ≡ rise_from least (drop i us) → IsTrue true ↔ AreUnknown us
rise_all least i us low before =
    let all : rise_from 0 us ≡ true = before ∙ ap (rise_from least) (drop_all i us low) in
    (λ _. (rise us).0 all, λ _. refl)
