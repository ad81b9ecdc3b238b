-- No attribute of an unknown type is kept where none is to be.
use Rattle.std.proofs.Common.{◌≡◌, ◌∙◌, ℕ, zero, suc, ◌+◌, ◌-◌, Bool, true, false, cond, ◌||◌, List, [], ◌∷◌, ◌++◌, Some, refl, ap, sym, arith, ◌<◌, ◌≤◌, ◌&&◌, add-one, append-nil}
use Rattle.std.specs.List.{list_any}
use Rattle.attr_codec.specs.Field.{Attribute, is_of, first_of}
use Rattle.attr_codec.specs.Unknown.{is_kept, kept_of, unknown_below}
use Rattle.attr_codec.specs.Noted.{is_kept_of}

neither : (a b : Bool) → (a || b) ≡ false → (a ≡ false) × (b ≡ false)
neither true b e = absurd cc
neither false b e = (refl, e)

and_true : (b : Bool) → (b && true) ≡ b
and_true true = refl
and_true false = refl

-- the first of a type isn't kept where none of it is
pub first_lost : (n : ℕ) (attributes : List Attribute) → list_any (is_kept_of n) attributes ≡ false → kept_of (first_of n attributes) ≡ []
first_lost n [] h = refl
first_lost n (a ∷ rest) h =
    let both = neither (is_kept_of n a) (list_any (is_kept_of n) rest) h in
    lost_by (is_of n a) both.0 (first_lost n rest both.1)
  where
    lost_by : (b : Bool) → (is_kept a && b) ≡ false → kept_of (first_of n rest) ≡ [] → kept_of (cond b (Some a) (first_of n rest)) ≡ []
    lost_by true k behind = ap (λ c. cond c ((a.kind, a.value) ∷ []) []) (sym (and_true (is_kept a)) ∙ k)
    lost_by false k behind = behind

suc_last : (m n : ℕ) → m + suc n ≡ suc (m + n)
suc_last m n = omega arith

-- types of which none is kept add nothing
pub none_more : (from n : ℕ) (attributes : List Attribute) → ((kind : ℕ) → from ≤ kind → kind < from + n → kept_of (first_of kind attributes) ≡ []) → unknown_below (from + n) attributes ≡ unknown_below from attributes
unfolding unknown_below
none_more from zero attributes none = let same : from + 0 ≡ from = omega arith in ap (λ (n : ℕ). unknown_below n attributes) same
none_more from (suc n) attributes none =
    let rest = none_more from n attributes (λ kind low high. none kind low (omega arith)) in
    let last = none (from + n) (omega arith) (omega arith) in
    ap (λ (n : ℕ). unknown_below n attributes) (suc_last from n) ∙ rw (rest, last) (append-nil (unknown_below from attributes))

-- no type below is kept
pub none_from : (from : ℕ) (attributes : List Attribute) → ((kind : ℕ) → kind < from → list_any (is_kept_of kind) attributes ≡ false) → [] ≡ unknown_below from attributes
unfolding unknown_below
none_from from attributes none =
    let zero_on : 0 + from ≡ from = omega arith in
    sym (ap (λ (n : ℕ). unknown_below n attributes) (sym zero_on) ∙ none_more 0 from attributes (λ kind low high. first_lost kind attributes (none kind (omega (arith, high)))))

-- and none from a type on
pub none_until : (to n : ℕ) (attributes : List Attribute) → to ≤ n → ((kind : ℕ) → to ≤ kind → list_any (is_kept_of kind) attributes ≡ false) → unknown_below n attributes ≡ unknown_below to attributes
none_until to n attributes h none =
    let all : to + (n - to) ≡ n = omega arith in
    ap (λ (m : ℕ). unknown_below m attributes) (sym all) ∙ none_more to (n - to) attributes (λ kind low high. first_lost kind attributes (none kind low))

pub one_more : (n : ℕ) (attributes : List Attribute) → unknown_below (n + 1) attributes ≡ unknown_below n attributes ++ kept_of (first_of n attributes)
unfolding unknown_below
one_more n attributes = rw add-one refl
