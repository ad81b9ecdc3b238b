-- Attributes are equal by `==` exactly where they are one.
use Rattle.std.proofs.Common.{◌≡◌, ℕ, true, false, Bool, ◌&&◌, List, Option, Some, None, refl, sym, ap, ◌∙◌}
use Rattle.std.specs.Prelude.{◌==◌}
use Rattle.std.specs.Bool.{Decides, beq}
use Rattle.std.specs.Option.{option_eq}
use Rattle.std.specs.Cmp.Lexicographic.{pointwise, pointwise_decides}
use Rattle.std.proofs.lemmas.Bool.{and_parts, and_from}
use Rattle.std.proofs.lemmas.Bool.Decides.{Decides-eqb}
use Rattle.net_base.specs.contracts.addr.AddrPartialEq.TheImpl.{eq-value as addr_eq}
use Rattle.net_base.proofs.Lists.{addr_eq-Decides}
use Rattle.attr_model.specs.declared.attrs.Attrs.{Attrs}
use Rattle.attr_model.specs.declared.path.Segment.{Segment}
use Rattle.attr_model.specs.declared.path.Segment.TheVariants.{Set, Sequence}
use Rattle.attr_model.specs.contracts.attrs.AttrsPartialEq.TheImpl.{eq-value as attrs_eq}
use Rattle.attr_model.specs.contracts.path.SegmentPartialEq.TheImpl.{eq-value as segment_eq}

-- ---- a test of each part that decides makes one of the whole that does

abbrev DecidesEq : {X : Type 0} → (X → X → Bool) → Type 0
DecidesEq {X} eq = (x y : X) → Decides (eq x y) (x ≡ y)

by_number : (m n : ℕ) → Decides (m == n) (m ≡ n)
by_number m n = Decides-eqb m n

by_numbers : (xs ys : List ℕ) → Decides (pointwise (λ m n. m == n) xs ys) (xs ≡ ys)
by_numbers xs ys = pointwise_decides by_number xs ys

by_bool : (a b : Bool) → Decides (beq a b) (a ≡ b)
by_bool true true = (λ e. refl, λ e. refl)
by_bool true false = (λ e. absurd cc, λ e. absurd cc)
by_bool false true = (λ e. absurd cc, λ e. absurd cc)
by_bool false false = (λ e. refl, λ e. refl)

by_option : {X : Type 0} (eq : X → X → Bool) → DecidesEq eq → (o p : Option X) → Decides (option_eq eq o p) (o ≡ p)
by_option eq decides None None = (λ e. refl, λ e. refl)
by_option eq decides None (Some y) = (λ e. absurd cc, λ e. absurd cc)
by_option eq decides (Some x) None = (λ e. absurd cc, λ e. absurd cc)
by_option eq decides (Some x) (Some y) = (λ e. ap Some ((decides x y).0 e), λ e. (decides x y).1 (inner e))
  where
    inner : Some x ≡ Some y → x ≡ y
    inner e = cc

by_pair : (x y : ℕ × ℕ) → Decides ((x.0 == y.0) && (x.1 == y.1)) (x ≡ y)
by_pair x y = (λ e. let parts = and_parts _ _ e in same x y ((by_number x.0 y.0).0 parts.0) ((by_number x.1 y.1).0 parts.1), λ e. and_from _ _ ((by_number x.0 y.0).1 (ap (λ (p : ℕ × ℕ). p.0) e)) ((by_number x.1 y.1).1 (ap (λ (p : ℕ × ℕ). p.1) e)))
  where
    same : (x y : ℕ × ℕ) → x.0 ≡ y.0 → x.1 ≡ y.1 → x ≡ y
    same x y e f = λ i. (e i, f i)

by_triple : (x y : ℕ × ℕ × ℕ) → Decides (((x.0 == y.0) && (x.1 == y.1)) && (x.2 == y.2)) (x ≡ y)
by_triple x y = (
  λ e. let outer = and_parts _ _ e in let inner = and_parts _ _ outer.0 in same x y ((by_number x.0 y.0).0 inner.0) ((by_number x.1 y.1).0 inner.1) ((by_number x.2 y.2).0 outer.1),
  λ e. and_from _ _ (and_from _ _ ((by_number x.0 y.0).1 (ap (λ (p : ℕ × ℕ × ℕ). p.0) e)) ((by_number x.1 y.1).1 (ap (λ (p : ℕ × ℕ × ℕ). p.1) e))) ((by_number x.2 y.2).1 (ap (λ (p : ℕ × ℕ × ℕ). p.2) e)),
)
  where
    same : (x y : ℕ × ℕ × ℕ) → x.0 ≡ y.0 → x.1 ≡ y.1 → x.2 ≡ y.2 → x ≡ y
    same x y e f g = λ i. (e i, f i, g i)

by_attribute : (x y : ℕ × List ℕ) → Decides ((x.0 == y.0) && pointwise (λ m n. m == n) x.1 y.1) (x ≡ y)
by_attribute x y = (λ e. let parts = and_parts _ _ e in same x y ((by_number x.0 y.0).0 parts.0) ((by_numbers x.1 y.1).0 parts.1), λ e. and_from _ _ ((by_number x.0 y.0).1 (ap (λ (p : ℕ × List ℕ). p.0) e)) ((by_numbers x.1 y.1).1 (ap (λ (p : ℕ × List ℕ). p.1) e)))
  where
    same : (x y : ℕ × List ℕ) → x.0 ≡ y.0 → x.1 ≡ y.1 → x ≡ y
    same x y e f = λ i. (e i, f i)

by_segment : (x y : Segment) → Decides (segment_eq.it x y) (x ≡ y)
by_segment (Set xs) (Set ys) = (λ e. ap Set ((by_numbers xs ys).0 e), λ e. (by_numbers xs ys).1 (inner e))
  where
    inner : Set xs ≡ Set ys → xs ≡ ys
    inner e = cc
by_segment (Set xs) (Sequence ys) = (λ e. absurd cc, λ e. absurd cc)
by_segment (Sequence xs) (Set ys) = (λ e. absurd cc, λ e. absurd cc)
by_segment (Sequence xs) (Sequence ys) = (λ e. ap Sequence ((by_numbers xs ys).0 e), λ e. (by_numbers xs ys).1 (inner e))
  where
    inner : Sequence xs ≡ Sequence ys → xs ≡ ys
    inner e = cc

-- ---- attributes

attrs_eq_is : (a b : Attrs) → attrs_eq.it a b ≡ ((a.origin == b.origin) && (pointwise segment_eq.it a.path b.path && (addr_eq.it a.hop b.hop && (option_eq (λ m n. m == n) a.med b.med && (option_eq (λ m n. m == n) a.local_pref b.local_pref && (beq a.atomic b.atomic
    && (option_eq (λ x y. (x.0 == y.0) && (x.1 == y.1)) a.aggregator b.aggregator && (pointwise (λ m n. m == n) a.communities b.communities && (pointwise (λ x y. ((x.0 == y.0) && (x.1 == y.1)) && (x.2 == y.2)) a.large b.large
    && (pointwise (λ x y. (x.0 == y.0) && pointwise (λ m n. m == n) x.1 y.1) a.unknown b.unknown && ((a.partial == b.partial) && (a.weight == b.weight))))))))))))
attrs_eq_is a b = refl

-- the same in each field
record SameFields (a b : Attrs) : Type 0 where
  origin : a.origin ≡ b.origin
  path : a.path ≡ b.path
  hop : a.hop ≡ b.hop
  med : a.med ≡ b.med
  local_pref : a.local_pref ≡ b.local_pref
  atomic : a.atomic ≡ b.atomic
  aggregator : a.aggregator ≡ b.aggregator
  communities : a.communities ≡ b.communities
  large : a.large ≡ b.large
  unknown : a.unknown ≡ b.unknown
  bits : a.partial ≡ b.partial
  weight : a.weight ≡ b.weight

one : (a b : Attrs) → SameFields a b → a ≡ b
one a b same = λ i. record {
  origin = same.origin i;
  path = same.path i;
  hop = same.hop i;
  med = same.med i;
  local_pref = same.local_pref i;
  atomic = same.atomic i;
  aggregator = same.aggregator i;
  communities = same.communities i;
  large = same.large i;
  unknown = same.unknown i;
  «partial» = same.bits i;
  weight = same.weight i;
}

equal_fields : (a b : Attrs) → attrs_eq.it a b ≡ true → SameFields a b
equal_fields a b e =
    let (origin, e1) = and_parts _ _ (sym (attrs_eq_is a b) ∙ e) in
    let (path, e2) = and_parts _ _ e1 in
    let (hop, e3) = and_parts _ _ e2 in
    let (med, e4) = and_parts _ _ e3 in
    let (local_pref, e5) = and_parts _ _ e4 in
    let (atomic, e6) = and_parts _ _ e5 in
    let (aggregator, e7) = and_parts _ _ e6 in
    let (communities, e8) = and_parts _ _ e7 in
    let (large, e9) = and_parts _ _ e8 in
    let (unknown, e10) = and_parts _ _ e9 in
    let (bits, weight) = and_parts _ _ e10 in
    record {
      origin = (by_number a.origin b.origin).0 origin;
      path = (pointwise_decides by_segment a.path b.path).0 path;
      hop = (addr_eq-Decides a.hop b.hop).0 hop;
      med = (by_option (λ m n. m == n) by_number a.med b.med).0 med;
      local_pref = (by_option (λ m n. m == n) by_number a.local_pref b.local_pref).0 local_pref;
      atomic = (by_bool a.atomic b.atomic).0 atomic;
      aggregator = (by_option (λ x y. (x.0 == y.0) && (x.1 == y.1)) by_pair a.aggregator b.aggregator).0 aggregator;
      communities = (by_numbers a.communities b.communities).0 communities;
      large = (pointwise_decides by_triple a.large b.large).0 large;
      unknown = (pointwise_decides by_attribute a.unknown b.unknown).0 unknown;
      bits = (by_number a.partial b.partial).0 bits;
      weight = (by_number a.weight b.weight).0 weight;
    }

equal_itself : (a : Attrs) → attrs_eq.it a a ≡ true
equal_itself a =
    attrs_eq_is a a
    ∙ and_from _ _ ((by_number a.origin a.origin).1 refl)
    (and_from _ _ ((pointwise_decides by_segment a.path a.path).1 refl)
    (and_from _ _ ((addr_eq-Decides a.hop a.hop).1 refl)
    (and_from _ _ ((by_option (λ m n. m == n) by_number a.med a.med).1 refl)
    (and_from _ _ ((by_option (λ m n. m == n) by_number a.local_pref a.local_pref).1 refl)
    (and_from _ _ ((by_bool a.atomic a.atomic).1 refl)
    (and_from _ _ ((by_option (λ x y. (x.0 == y.0) && (x.1 == y.1)) by_pair a.aggregator a.aggregator).1 refl)
    (and_from _ _ ((by_numbers a.communities a.communities).1 refl)
    (and_from _ _ ((pointwise_decides by_triple a.large a.large).1 refl)
    (and_from _ _ ((pointwise_decides by_attribute a.unknown a.unknown).1 refl)
    (and_from _ _ ((by_number a.partial a.partial).1 refl) ((by_number a.weight a.weight).1 refl)))))))))))

pub attrs_eq-Decides : (a b : Attrs) → Decides (attrs_eq.it a b) (a ≡ b)
attrs_eq-Decides a b = (λ e. one a b (equal_fields a b e), λ e. ap (λ (c : Attrs). attrs_eq.it a c) (sym e) ∙ equal_itself a)
