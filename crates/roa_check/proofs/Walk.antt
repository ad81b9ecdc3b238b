-- The steps of a walk up the entries that cover: what passes the test covers, so that the others are passed over.
use Rattle.std.proofs.Common.{◌≡◌, ℕ, zero, suc, ◌<◌, ◌≤◌, Bool, true, false, ◌||◌, List, [], ◌∷◌, length, refl, sym, ap, ◌∙◌, arith, inl, inr}
use Rattle.std.specs.Prelude.{◌⊎◌, map, option_map, Option, Some, None, slice_get}
use Rattle.std.specs.List.{list_any}
use Rattle.std.specs.Option.{option_map_or}
use Rattle.std.proofs.lemmas.List.{length-map}
use Rattle.std.proofs.lemmas.List.Folds.{list_any_at}
use Rattle.std.proofs.lemmas.Option.{slice_get-map, slice_get_within, same_Some, get_or_from_slice_get}
use Rattle.std.proofs.lemmas.Bool.{cases_lt}
use Rattle.lane_scan.specs.declared.columns.Slot.{Slot}
use Rattle.lane_scan.specs.Slots.{covers_slot}
use Rattle.lane_scan.specs.Covering.{covers_at}
use Rattle.roa_check.specs.Index.{IsLast, IsLastCovering}
use Rattle.roa_check.specs.Walk.{StandsAt, Walked}

-- no entry passes a test that none at any place passes
none_at : {X : Type 0} (test : X → Bool) (xs : List X) → ((k : ℕ) (x : X) → slice_get xs k ≡ Some x → test x ≡ false) → list_any test xs ≡ false
none_at test [] none = refl
none_at test (x ∷ xs) none = ap (λ b. b || list_any test xs) (none 0 x refl) ∙ none_at test xs (λ k y e. none (suc k) y e)

pub some_at : {X : Type 0} (test : X → Bool) (xs : List X) (k : ℕ) (x : X) → slice_get xs k ≡ Some x → test x ≡ true → list_any test xs ≡ true
some_at test xs k x here e = list_any_at test xs k x (slice_get_within xs k x here) (ap test (get_or_from_slice_get xs k x x here) ∙ e)

module _ {X : Type 0} (slot_of : X → Slot) (test : X → Bool) (entries : List X) (slot : Slot) (needs : (x : X) → test x ≡ true → covers_slot (slot_of x) slot ≡ true) where
  -- an entry that doesn't cover doesn't pass
  fails : (k : ℕ) (x : X) → slice_get entries k ≡ Some x → covers_at (map slot_of entries) slot k ≡ false → test x ≡ false
  fails k x here e = decided (test x) refl
    where
      entry : slice_get (map slot_of entries) k ≡ Some (slot_of x)
      entry = slice_get-map slot_of entries k ∙ ap (option_map slot_of) here

      decided : (b : Bool) → test x ≡ b → b ≡ false
      decided false t = refl
      decided true t = sym (needs x t) ∙ (sym (ap (λ o. option_map_or (λ one. covers_slot one slot) o false) entry) ∙ e)

  -- the last entry of so many that covers, where none behind these passes
  pub walked_to : (count : ℕ) (found : Option ℕ) → count ≤ length entries → ((k : ℕ) (x : X) → count ≤ k → slice_get entries k ≡ Some x → test x ≡ false)
      → IsLastCovering (map slot_of entries) slot count found → Walked slot_of test entries slot found
  walked_to count None h none is =
      none_at test entries (λ k x here. elim (cases_lt k count) [ inl below ↦ fails k x here (is k below) | inr rest ↦ none k x rest here ])
  walked_to count (Some at) h none is = record {
    within = omega (arith, is.within);
    covering = is.covering;
    none_behind = λ k x from here. elim (cases_lt k count) [ inl below ↦ fails k x here (is.none_behind k from below) | inr rest ↦ none k x rest here ];
  }

  -- the walk begins at the last entry that covers
  pub walk_begins : (count : ℕ) (found : Option ℕ) → count ≡ length (map slot_of entries) → IsLastCovering (map slot_of entries) slot count found → Walked slot_of test entries slot found
  walk_begins count found long is =
      let all : count ≡ length entries = long ∙ length-map entries slot_of in
      walked_to count found (omega arith) (λ k x from here. absurd (omega (arith, slice_get_within entries k x here))) is

  -- it goes on from an entry that doesn't pass
  pub walk_goes_on : (at : ℕ) (x : X) (found : Option ℕ) → StandsAt slot_of test entries slot at → slice_get entries at ≡ Some x → test x ≡ false
      → IsLastCovering (map slot_of entries) slot at found → Walked slot_of test entries slot found
  walk_goes_on at x found stands here e is =
      walked_to at found (omega (arith, stands.within)) (λ k y from there. behind k y from there (cases_lt at k)) is
    where
      behind : (k : ℕ) (y : X) → at ≤ k → slice_get entries k ≡ Some y → (at < k) ⊎ (k ≤ at) → test y ≡ false
      behind k y from there (inl past) = stands.none_behind k y past there
      behind k y from there (inr rest) =
          let same : k ≡ at = omega arith in
          ap test (same_Some y x (sym there ∙ (ap (slice_get entries) same ∙ here))) ∙ e
