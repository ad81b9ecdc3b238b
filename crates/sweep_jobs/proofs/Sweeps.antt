-- What a step of a sweep leaves marked.
use Rattle.std.proofs.Common.{◌≡◌, Bool, true, false, not, ◌&&◌, ◌||◌, List, refl, sym, ap, ◌∙◌, ◌⊎◌, inl, inr, true≢false}
use Rattle.std.proofs.lemmas.Bool.{and_parts, cases_Bool}
use Rattle.std.proofs.lemmas.Cmp.{upto}
use Rattle.std.specs.Cmp.{eq_by_cmp_equiv}
use Rattle.std.specs.Ordering.{is_eq, is_gt, is_lt, eq_by_cmp, ordering_reverse}
use Rattle.std.specs.declared.cmp.Ordering.{Ordering}
use Rattle.std.specs.declared.cmp.Ordering.TheVariants.{Less, Equal, Greater}
use Rattle.net_base.specs.declared.prefix.Prefix.{Prefix}
use Rattle.net_base.specs.Order.{prefix_cmp}
use Rattle.net_base.specs.PrefixSet.{is_in, IsLeastOf}
use Rattle.net_base.proofs.Order.{prefix_cmp-total}
use Rattle.sweep_jobs.specs.declared.cursor.Cursor.{Cursor}
use Rattle.sweep_jobs.specs.declared.cursor.Cursor.TheVariants.{Idle, Before, Behind}
use Rattle.sweep_jobs.specs.Cursor.{is_ahead}
use Rattle.sweep_jobs.specs.Marks.{MarkedPrefixes, is_marked}

-- ---- orders

gt-reverse : (o : Ordering) → is_gt (ordering_reverse o) ≡ is_lt o
gt-reverse Less = refl
gt-reverse Equal = refl
gt-reverse Greater = refl

pub not_above : (p q : Prefix) → is_lt (prefix_cmp q p) ≡ false → is_gt (prefix_cmp p q) ≡ false
not_above p q h = ap is_gt (prefix_cmp-total.antisymm p q) ∙ gt-reverse (prefix_cmp q p) ∙ h

less_is : (o : Ordering) → is_lt o ≡ true → o ≡ Less
less_is Less h = refl
less_is Equal h = absurd (true≢false (sym h))
less_is Greater h = absurd (true≢false (sym h))

not_gt : (o : Ordering) → is_lt o ≡ true → is_gt o ≡ false
not_gt Less h = refl
not_gt Equal h = absurd (true≢false (sym h))
not_gt Greater h = refl-of h
  where
    refl-of : false ≡ true → true ≡ false
    refl-of e = sym e

lt_from : (o : Ordering) → is_gt o ≡ false → is_eq o ≡ false → is_lt o ≡ true
lt_from Less g e = refl
lt_from Equal g e = absurd (true≢false e)
lt_from Greater g e = absurd (true≢false g)

not_lt : (o : Ordering) → is_eq o ≡ true → is_lt o ≡ false
not_lt Less e = absurd (true≢false (sym e))
not_lt Equal e = refl
not_lt Greater e = absurd (true≢false (sym e))

lt_trans : (p q r : Prefix) → is_lt (prefix_cmp p q) ≡ true → is_lt (prefix_cmp q r) ≡ true → is_lt (prefix_cmp p r) ≡ true
lt_trans p q r h k = ap is_lt (prefix_cmp-total.trans p q r (less_is _ h) (less_is _ k))

either : (a b : Bool) → (a || b) ≡ true → (a ≡ true) ⊎ (b ≡ true)
either true b h = inl refl
either false b h = inr h

first_of : (a b : Bool) → a ≡ true → (a || b) ≡ true
first_of a b h = ap (λ c. c || b) h

second_of : (a b : Bool) → b ≡ true → (a || b) ≡ true
second_of true b h = refl
second_of false b h = h

-- ---- the lesser of two least prefixes

pub first_is_least : (here there : Prefix → Bool) (p q : Prefix) → IsLeastOf here p → IsLeastOf there q → is_gt (prefix_cmp p q) ≡ false → IsLeastOf (λ x. here x || there x) p
first_is_least here there p q one other up = record {
  passes = first_of (here p) (there p) one.passes;
  least = λ x h. elim (either (here x) (there x) h) [
    | inl e ↦ one.least x e
    | inr e ↦ upto prefix_cmp-total p q x up (other.least x e)
  ];
}

pub second_is_least : (here there : Prefix → Bool) (p q : Prefix) → IsLeastOf here p → IsLeastOf there q → is_lt (prefix_cmp q p) ≡ true → IsLeastOf (λ x. here x || there x) q
second_is_least here there p q one other below = record {
  passes = second_of (here q) (there q) other.passes;
  least = λ x h. elim (either (here x) (there x) h) [
    | inl e ↦ upto prefix_cmp-total q p x (not_gt _ below) (one.least x e)
    | inr e ↦ other.least x e
  ];
}

-- ---- the cursor goes on to a prefix that is ahead of it

-- what isn't ahead of the cursor isn't ahead of one that went on
ahead_moves : (c : Cursor) (p q : Prefix) → is_ahead c p ≡ true → is_ahead c q ≡ false → is_lt (prefix_cmp p q) ≡ false
ahead_moves Idle p q h k = absurd (true≢false (sym h))
ahead_moves Before p q h k = absurd (true≢false k)
ahead_moves (Behind g) p q h k = elim (cases_Bool (is_lt (prefix_cmp p q))) [
  | inl e ↦ absurd (true≢false (sym (lt_trans g p q h e) ∙ k))
  | inr e ↦ e
]

-- what is ahead of a cursor that went on was ahead of it
ahead_stays : (c : Cursor) (p q : Prefix) → is_ahead c p ≡ true → is_lt (prefix_cmp p q) ≡ true → is_ahead c q ≡ true
ahead_stays Idle p q h k = h
ahead_stays Before p q h k = refl
ahead_stays (Behind g) p q h k = lt_trans g p q h k

-- what the step leaves in the touched set
abbrev pub WithoutOne : List Prefix → List Prefix → Prefix → Type 0
WithoutOne old new p = (q : Prefix) → is_in new q ≡ (not (eq_by_cmp prefix_cmp q p) && is_in old q)

pub moved_on : (known : List Prefix) (m : MarkedPrefixes) (p : Prefix) (touched : List Prefix) → WithoutOne m.touched touched p → IsLeastOf (is_marked known m) p → is_ahead m.cursor p ≡ true
    → (q : Prefix) → is_marked known (record { cursor = Behind p; touched = touched }) q ≡ (not (eq_by_cmp prefix_cmp q p) && is_marked known m q)
moved_on known m p touched left least ahead q = ap (λ b. b || (is_in known q && is_lt (prefix_cmp p q))) (left q) ∙ by (eq_by_cmp prefix_cmp q p) refl
  where
    turned : eq_by_cmp prefix_cmp p q ≡ eq_by_cmp prefix_cmp q p
    turned = (eq_by_cmp_equiv prefix_cmp-total).symm p q

    ahead_now : eq_by_cmp prefix_cmp q p ≡ false → (k : Bool) → is_in known q ≡ k → (a : Bool) → is_ahead m.cursor q ≡ a → (k && is_lt (prefix_cmp p q)) ≡ (k && a)
    ahead_now other false k a e = refl
    ahead_now other true k true e = lt_from (prefix_cmp p q) (least.least q (second_of (is_in m.touched q) (is_in known q && is_ahead m.cursor q) (ap (λ b. b && is_ahead m.cursor q) k ∙ e))) (turned ∙ other)
    ahead_now other true k false e = ahead_moves m.cursor p q ahead e

    by : (b : Bool) → eq_by_cmp prefix_cmp q p ≡ b → ((not b && is_in m.touched q) || (is_in known q && is_lt (prefix_cmp p q))) ≡ (not b && is_marked known m q)
    by true e = none (is_in known q) (is_lt (prefix_cmp p q)) (not_lt _ (turned ∙ e))
      where
        none : (a b : Bool) → b ≡ false → (a && b) ≡ false
        none true b h = h
        none false b h = refl
    by false e = ap (λ b. is_in m.touched q || b) (ahead_now e (is_in known q) refl (is_ahead m.cursor q) refl)

pub none_comes : (others : List Prefix) (m : MarkedPrefixes) (p : Prefix) (touched : List Prefix) → WithoutOne m.touched touched p → is_ahead m.cursor p ≡ true
    → (q : Prefix) → is_marked others (record { cursor = Behind p; touched = touched }) q ≡ true → is_marked others m q ≡ true
none_comes others m p touched left ahead q h = elim (either (is_in touched q) (is_in others q && is_lt (prefix_cmp p q)) h) [
  | inl e ↦ first_of (is_in m.touched q) _ (and_parts (not (eq_by_cmp prefix_cmp q p)) (is_in m.touched q) (sym (left q) ∙ e)).1
  | inr e ↦ second_of (is_in m.touched q) (is_in others q && is_ahead m.cursor q) (ap (λ b. b && is_ahead m.cursor q) (and_parts _ _ e).0 ∙ ahead_stays m.cursor p q ahead (and_parts (is_in others q) _ e).1)
]
