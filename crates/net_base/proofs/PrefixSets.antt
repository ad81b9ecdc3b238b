-- What the calls of std's sets say, at every prefix and in the order of prefixes.
use Rattle.std.proofs.Common.{◌≡◌, ◌<◌, ◌↔◌, Bool, true, false, cond, not, ◌&&◌, ◌||◌, List, [], ◌∷◌, length, Option, Some, None, Bor, MatchOption, IfSome, IsSome, option_copied, refl, sym, ap, subst, ◌∙◌, arith, true≢false}
use Rattle.std.proofs.lemmas.Bool.{and_parts, and_from}
use Rattle.std.specs.BTreeSet.{BTreeSet, IsKeyRangeOf}
use Rattle.std.specs.declared.ops.Bound.TheVariants.{Excluded, Unbounded}
use Rattle.std.specs.Cmp.{eq_by_cmp_equiv}
use Rattle.std.specs.List.{list_any}
use Rattle.std.specs.Ordering.{is_eq, is_gt, is_lt, eq_by_cmp}
use Rattle.std.specs.declared.cmp.Ordering.{Ordering}
use Rattle.std.specs.declared.cmp.Ordering.TheVariants.{Less, Equal, Greater}
use Rattle.net_base.specs.declared.prefix.Prefix.{Prefix}
use Rattle.net_base.specs.Order.{prefix_cmp}
use Rattle.net_base.specs.PrefixSet.{is_in, IsLeast}
use Rattle.net_base.proofs.Order.{prefix_cmp-total}

or_is : (b x : Bool) → cond b true x ≡ (b || x)
or_is true x = refl
or_is false x = refl

and_is : (b x : Bool) → cond b false x ≡ (not b && x)
and_is true x = refl
and_is false x = refl

turned : (p q : Prefix) → is_eq (prefix_cmp p q) ≡ eq_by_cmp prefix_cmp q p
turned p q = (eq_by_cmp_equiv prefix_cmp-total).symm p q

-- what a call left at every prefix, by some order
abbrev Changed : (Prefix → Prefix → Ordering) → List Prefix → List Prefix → Prefix → Bool → Type 0
Changed order old new p there = (q : Prefix) → list_any (eq_by_cmp order q) new ≡ cond (is_eq (order p q)) there (list_any (eq_by_cmp order q) old)

pub added : (order : Prefix → Prefix → Ordering) → order ≡ prefix_cmp → (old new : List Prefix) (p : Prefix) → Changed order old new p true → (q : Prefix) → is_in new q ≡ (eq_by_cmp prefix_cmp q p || is_in old q)
added order e old new p h q =
    let Given : (Prefix → Prefix → Ordering) → Type 0 = λ r. Changed r old new p true in
    subst Given e h q ∙ ap (λ b. cond b true (is_in old q)) (turned p q) ∙ or_is (eq_by_cmp prefix_cmp q p) (is_in old q)

pub removed : (order : Prefix → Prefix → Ordering) → order ≡ prefix_cmp → (old new : List Prefix) (p : Prefix) → Changed order old new p false → (q : Prefix) → is_in new q ≡ (not (eq_by_cmp prefix_cmp q p) && is_in old q)
removed order e old new p h q =
    let Given : (Prefix → Prefix → Ordering) → Type 0 = λ r. Changed r old new p false in
    subst Given e h q ∙ ap (λ b. cond b false (is_in old q)) (turned p q) ∙ and_is (eq_by_cmp prefix_cmp q p) (is_in old q)

nothing_in : (ps : List Prefix) → ¬ (0 < length ps) → (q : Prefix) → is_in ps q ≡ false
nothing_in [] h q = refl
nothing_in (p ∷ ps) h q = absurd (h (omega arith))

-- the first of all, where it is in the set and no prefix of the set is below it
pub first_of_all : (order : Prefix → Prefix → Ordering) → order ≡ prefix_cmp → (ps : List Prefix) (found : Option (Bor Prefix))
    → (IsSome found ↔ (0 < length ps))
    → IfSome found (λ p. list_any (eq_by_cmp order p.now) ps ≡ true)
    → IfSome found (λ p. (q : Prefix) → list_any (eq_by_cmp order q) ps ≡ true → is_gt (order p.now q) ≡ false)
    → IsLeast (is_in ps) (option_copied found)
first_of_all order e ps None some member least = λ q. nothing_in ps (λ h. true≢false (sym (some.1 h))) q
first_of_all order e ps (Some p) some member least =
    let Member : (Prefix → Prefix → Ordering) → Type 0 = λ r. list_any (eq_by_cmp r p.now) ps ≡ true in
    let Least : (Prefix → Prefix → Ordering) → Type 0 = λ r. (q : Prefix) → list_any (eq_by_cmp r q) ps ≡ true → is_gt (r p.now q) ≡ false in
    record { passes = subst Member e member; least = subst Least e least }

less_is : (o : Ordering) → is_lt o ≡ true → o ≡ Less
less_is Less h = refl
less_is Equal h = absurd (true≢false (sym h))
less_is Greater h = absurd (true≢false (sym h))

not_both : (a b : Bool) → (b ≡ true → a ≡ false) → (a && b) ≡ false
not_both false b h = refl
not_both true false h = refl
not_both true true h = h refl

-- the first of those above a prefix, as a range of the set gives it
pub first_above : (order : Prefix → Prefix → Ordering) → order ≡ prefix_cmp → (s : BTreeSet Prefix) (after : Prefix) (above rest : List Prefix) (found : Option (Bor Prefix))
    → IsKeyRangeOf order (Excluded after) Unbounded s above
    → MatchOption found ((above ≡ []) × (rest ≡ [])) (λ p. above ≡ p.now ∷ rest)
    → IsLeast (λ p. is_in s.keys p && is_lt (prefix_cmp after p)) (option_copied found)
first_above order e s after above rest None range step =
    let here : IsKeyRangeOf prefix_cmp (Excluded after) Unbounded s above = subst (λ (r : Prefix → Prefix → Ordering). IsKeyRangeOf r (Excluded after) Unbounded s above) e range in
    λ q. not_both (is_in s.keys q) (is_lt (prefix_cmp after q)) (λ h. here.5 step.0 q (less_is _ h, tt))
first_above order e s after above rest (Some p) range step =
    let here : IsKeyRangeOf prefix_cmp (Excluded after) Unbounded s above = subst (λ (r : Prefix → Prefix → Ordering). IsKeyRangeOf r (Excluded after) Unbounded s above) e range in
    let at : IsKeyRangeOf prefix_cmp (Excluded after) Unbounded s (p.now ∷ rest) = subst (λ (ps : List Prefix). IsKeyRangeOf prefix_cmp (Excluded after) Unbounded s ps) step here in
    record {
      passes = and_from _ _ at.1.1 (ap is_lt at.1.0.0);
      least = λ q h. let both = and_parts (is_in s.keys q) (is_lt (prefix_cmp after q)) h in at.2 q (less_is _ both.1, tt) both.0;
    }
