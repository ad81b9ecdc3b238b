-- What an index keeps as prefixes are pushed, and what a climb passes over.
use Rattle.std.proofs.Common.{◌≡◌, ℕ, zero, suc, ◌+◌, ◌-◌, ◌<◌, ◌≤◌, Bool, true, false, List, [], ◌∷◌, ◌++◌, length, refl, sym, ap, ◌∙◌, subst, arith, inl, inr}
use Rattle.std.specs.Prelude.{◌⊎◌, Option, Some, None, slice_get}
use Rattle.std.specs.Option.{option_map_or}
use Rattle.std.proofs.lemmas.Option.{same_Some, slice_get_within, slice_get_cases, slice_get_past}
use Rattle.std.proofs.lemmas.Bool.{cases_lt}
use Rattle.lane_scan.specs.declared.columns.Slot.{Slot}
use Rattle.lane_scan.specs.Slots.{covers_slot}
use Rattle.lane_scan.specs.Covering.{covers_at}
use Rattle.roa_check.specs.Index.{comes_before, IsIndex, IsWhole, AreWhole, IsAscending, IsParent, AreParents, AllBefore, AreBefore, NoneBefore, IsRepeat, IsLast, IsLastCovering}
use Rattle.roa_check.proofs.Nesting.{before_from, before_same, not_after, before_trans, before_antisym, covering_before, nested}

-- ---- one more at the end

pub get_pushed : {X : Type 0} (xs : List X) (x y : X) (i : ℕ) → slice_get (xs ++ x ∷ []) i ≡ Some y → (slice_get xs i ≡ Some y) ⊎ ((i ≡ length xs) × (x ≡ y))
get_pushed [] x y zero e = inr (refl, same_Some x y e)
get_pushed [] x y (suc i) e = absurd cc
get_pushed (z ∷ xs) x y zero e = inl e
get_pushed (z ∷ xs) x y (suc i) e =
    elim (get_pushed xs x y i e) [ inl old ↦ inl old | inr new ↦ inr (ap suc new.0, new.1) ]

pub get_old : {X : Type 0} (xs : List X) (x y : X) (i : ℕ) → i < length xs → slice_get (xs ++ x ∷ []) i ≡ Some y → slice_get xs i ≡ Some y
get_old xs x y i h e = elim (get_pushed xs x y i e) [ inl old ↦ old | inr new ↦ absurd (omega (arith, new.0)) ]

length_more : (slots : List Slot) (slot : Slot) (parents : List ℕ) (parent : ℕ) → length parents ≡ length slots → length (parents ++ parent ∷ []) ≡ length (slots ++ slot ∷ [])
length_more [] slot [] parent e = refl
length_more [] slot (p ∷ parents) parent e = absurd (omega arith)
length_more (s ∷ slots) slot [] parent e = absurd (omega arith)
length_more (s ∷ slots) slot (p ∷ parents) parent e = ap suc (length_more slots slot parents parent (omega arith))

parent_kept : (slots : List Slot) (slot one : Slot) (i parent : ℕ) → i ≤ length slots → IsParent slots one i parent → IsParent (slots ++ slot ∷ []) one i parent
parent_kept slots slot one i parent h is = record {
  before = is.before;
  nearest = λ k other from to here covering. is.nearest k other from to (get_old slots slot other k (omega arith) here) covering;
}

module _ (slots : List Slot) (parents : List ℕ) (slot : Slot) (parent : ℕ) (index : IsIndex slots parents) (whole : IsWhole slot) (before : AllBefore slots slot) (is : IsParent slots slot (length slots) parent) where
  in_order : IsAscending (slots ++ slot ∷ [])
  in_order i j one other order here behind =
      elim (get_pushed slots slot other j behind) [
        | inl old ↦ index.in_order i j one other order (get_old slots slot one i (omega (arith, slice_get_within slots j other old)) here) old
        | inr new ↦ (
            elim (get_pushed slots slot one i here) [
              | inl old ↦ subst (λ (last : Slot). comes_before one last ≡ true) new.1 (before i one (slice_get_within slots i one old) old)
              | inr both ↦ subst (λ (first : Slot). comes_before first other ≡ true) both.1 (subst (λ (last : Slot). comes_before slot last ≡ true) new.1 (before_same slot))
            ]
            )
      ]

  all_whole : AreWhole (slots ++ slot ∷ [])
  all_whole i one here =
      elim (get_pushed slots slot one i here) [ inl old ↦ index.whole i one old | inr new ↦ subst IsWhole new.1 whole ]

  parents_kept : AreParents (slots ++ slot ∷ []) (parents ++ parent ∷ [])
  parents_kept i p one here there =
      elim (get_pushed slots slot one i here) [
        | inl old ↦ (
            let within = slice_get_within slots i one old in
            parent_kept slots slot one i p (omega (arith, within)) (index.nearest i p one old (get_old parents parent p i (omega (arith, within, index.as_many)) there))
            )
        | inr new ↦ (
            elim (get_pushed parents parent p i there) [
              | inl old ↦ absurd (omega (arith, new.0, slice_get_within parents i p old, index.as_many))
              | inr both ↦ subst (λ n. IsParent (slots ++ slot ∷ []) one i n) both.1
                  (subst (λ (x : Slot). IsParent (slots ++ slot ∷ []) x i parent) new.1
                  (subst (λ n. IsParent (slots ++ slot ∷ []) slot n parent) (sym new.0) (parent_kept slots slot slot (length slots) parent (omega arith) is)))
            ]
            )
      ]

  pub pushed : IsIndex (slots ++ slot ∷ []) (parents ++ parent ∷ [])
  pushed = record {
    as_many = length_more slots slot parents parent index.as_many;
    in_order = in_order;
    whole = all_whole;
    nearest = parents_kept;
  }

-- ---- what covers

pub not_covering : (slots : List Slot) (slot : Slot) (k : ℕ) → ((one : Slot) → slice_get slots k ≡ Some one → covers_slot one slot ≡ true → ⊥) → covers_at slots slot k ≡ false
not_covering slots slot k none = at_entry (slice_get slots k) refl
  where
    decided : (one : Slot) → slice_get slots k ≡ Some one → (b : Bool) → covers_slot one slot ≡ b → b ≡ false
    decided one here true e = absurd (none one here e)
    decided one here false e = refl

    at_entry : (entry : Option Slot) → slice_get slots k ≡ entry → option_map_or (λ one. covers_slot one slot) entry false ≡ false
    at_entry None e = refl
    at_entry (Some one) e = decided one e (covers_slot one slot) refl

pub covering_is : (slots : List Slot) (slot one : Slot) (k : ℕ) → slice_get slots k ≡ Some one → covers_at slots slot k ≡ covers_slot one slot
covering_is slots slot one k e = ap (λ entry. option_map_or (λ x. covers_slot x slot) entry false) e

absurd_test : (b : Bool) → b ≡ true → b ≡ false → ⊥
absurd_test true e f = cc
absurd_test false e f = cc

module _ (slots : List Slot) (parents : List ℕ) (index : IsIndex slots parents) (slot : Slot) where
  -- between a prefix that comes before and its parent, only equal ones may cover
  pub between : (at parent : ℕ) (one : Slot) → slice_get slots at ≡ Some one → slice_get parents at ≡ Some parent → comes_before one slot ≡ true
      → (k : ℕ) (other : Slot) → parent ≤ k → k < at → slice_get slots k ≡ Some other → covers_slot other slot ≡ true → other ≡ one
  between at parent one here up before k other from to there covering =
      (index.nearest at parent one here up).nearest k other from to there
      (nested other one slot (index.whole k other there) (index.whole at one here) (index.in_order k at other one (omega arith) there here) (not_after one slot (before_from one slot before)) covering)

  -- a prefix that doesn't cover, and those down to its parent
  pub passed_over : (at parent : ℕ) (one : Slot) → slice_get slots at ≡ Some one → slice_get parents at ≡ Some parent → comes_before one slot ≡ true → covers_slot one slot ≡ false
      → (k : ℕ) → parent ≤ k → k < at + 1 → covers_at slots slot k ≡ false
  passed_over at parent one here up before not_here k from to =
      elim (cases_lt k at) [
        | inl below ↦ not_covering slots slot k (λ other there covering. absurd_test (covers_slot one slot) (subst (λ (x : Slot). covers_slot x slot ≡ true) (between at parent one here up before k other from below there covering) covering) not_here)
        | inr rest ↦ (let same : k ≡ at = omega arith in covering_is slots slot one k (ap (slice_get slots) same ∙ here) ∙ not_here)
      ]

  -- a prefix of which the one in front differs
  pub above_parent : (at parent : ℕ) (one : Slot) → slice_get slots at ≡ Some one → slice_get parents at ≡ Some parent → comes_before one slot ≡ true
      → ((other : Slot) → 0 < at → slice_get slots (at - 1) ≡ Some other → other ≡ one → ⊥)
      → (k : ℕ) → parent ≤ k → k < at → covers_at slots slot k ≡ false
  above_parent at parent one here up before differs k from to =
      not_covering slots slot k (λ other there covering.
      let same = between at parent one here up before k other from to there covering in
      elim (slice_get_cases slots (at - 1)).1 [
        | inl inside ↦ (
            let (front, within, is, rest) = inside in
            let low = index.in_order k (at - 1) other front (omega arith) there is in
            let high = index.in_order (at - 1) at front one (omega arith) is here in
            differs front (omega arith) is (before_antisym front one high (subst (λ (x : Slot). comes_before x front ≡ true) same low))
            )
        | inr outside ↦ absurd (omega (arith, outside.0, slice_get_within slots at one here))
      ])

-- ---- the search

-- the place that was looked at comes before, and so do those in front of it
pub all_before : (slots : List Slot) (slot one : Slot) (middle : ℕ) → IsAscending slots → slice_get slots middle ≡ Some one → comes_before one slot ≡ true → AreBefore slots slot (middle + 1)
all_before slots slot one middle order here before k other within there = before_trans other one slot (order k middle other one (omega arith) there here) before

-- it doesn't, and those behind it don't
pub none_before : (slots : List Slot) (slot one : Slot) (middle : ℕ) → IsAscending slots → slice_get slots middle ≡ Some one → comes_before one slot ≡ false → NoneBefore slots slot middle
none_before slots slot one middle order here not_before k other from there = decided (comes_before other slot) refl
  where
    decided : (b : Bool) → comes_before other slot ≡ b → b ≡ false
    decided true e = absurd (absurd_test (comes_before one slot) (before_trans one other slot (order middle k one other from here there) e) not_before)
    decided false e = refl

-- past those that come before, none covers
pub none_covers : (slots : List Slot) (slot : Slot) (count : ℕ) → AreWhole slots → NoneBefore slots slot count → (k : ℕ) → count ≤ k → covers_at slots slot k ≡ false
none_covers slots slot count whole none k from =
    not_covering slots slot k (λ one here covering. absurd_test (comes_before one slot) (covering_before one slot (whole k one here) covering) (none k one from here))

-- ---- answers over fewer prefixes

-- where none of those past the first ones covers, the last of the first ones is the last
pub last_of_more : (slots : List Slot) (slot : Slot) (fewer count : ℕ) (found : Option ℕ) → fewer ≤ count → ((k : ℕ) → fewer ≤ k → k < count → covers_at slots slot k ≡ false)
    → IsLastCovering slots slot fewer found → IsLastCovering slots slot count found
last_of_more slots slot fewer count None h none is = λ k to. elim (cases_lt k fewer) [ inl below ↦ is k below | inr rest ↦ none k rest to ]
last_of_more slots slot fewer count (Some at) h none is = record {
  within = omega (arith, is.within);
  covering = is.covering;
  none_behind = λ k from to. elim (cases_lt k fewer) [ inl below ↦ is.none_behind k from below | inr rest ↦ none k rest to ];
}

-- the prefix at a place that covers
pub at_place : (slots : List Slot) (slot : Slot) (at : ℕ) → covers_at slots slot at ≡ true → (one : Slot) × (slice_get slots at ≡ Some one) × (covers_slot one slot ≡ true)
at_place slots slot at covering = at_entry (slice_get slots at) refl covering
  where
    at_entry : (entry : Option Slot) → slice_get slots at ≡ entry → option_map_or (λ one. covers_slot one slot) (slice_get slots at) false ≡ true → (one : Slot) × (slice_get slots at ≡ Some one) × (covers_slot one slot ≡ true)
    at_entry None e h = absurd (absurd_test (option_map_or (λ one. covers_slot one slot) (slice_get slots at) false) h (ap (λ entry. option_map_or (λ one. covers_slot one slot) entry false) e))
    at_entry (Some one) e h = (one, e, sym (ap (λ entry. option_map_or (λ one. covers_slot one slot) entry false) e) ∙ h)

module _ (slots : List Slot) (parents : List ℕ) (index : IsIndex slots parents) (slot : Slot) (at parent : ℕ) (covering : covers_at slots slot at ≡ true) (up : slice_get parents at ≡ Some parent) where
  here : (one : Slot) × (slice_get slots at ≡ Some one) × (covers_slot one slot ≡ true)
  here = at_place slots slot at covering

  comes_before_it : comes_before here.0 slot ≡ true
  comes_before_it = covering_before here.0 slot (index.whole at here.0 here.1) here.2

  pub parents_before : AreBefore slots slot parent
  parents_before k one to there =
      let below = (index.nearest at parent here.0 here.1 up).before in
      before_trans one here.0 slot (index.in_order k at one here.0 (omega (arith, below)) there here.1) comes_before_it

  pub none_above : (IsRepeat slots at → ⊥) → (k : ℕ) → parent ≤ k → k < at → covers_at slots slot k ≡ false
  none_above first =
      above_parent slots parents index slot at parent here.0 here.1 up comes_before_it
      (λ other some front same. first (some, front ∙ (ap Some same ∙ sym here.1)))
