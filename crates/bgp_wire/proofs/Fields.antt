-- A field of entries, read from the front.
use Rattle.std.proofs.Common.{◌≡◌, ℕ, zero, suc, ◌+◌, ◌<◌, ◌≤◌, Bool, true, false, List, [], ◌∷◌, length, drop, Option, Some, None, refl, ap, arith, length-drop, take}
use Rattle.std.proofs.lemmas.Option.{none-some, option_and_then_some}
use Rattle.std.proofs.lemmas.Bool.Decides.{nat_tests}
use Rattle.std.specs.Prelude.{IsTrue, nat_lt, nat_eq, cond}
use Rattle.byteorder.specs.Endian.{big_number}
use Rattle.wire_buf.specs.Field.{◌>>=◌, number_at, bytes_at}
use Rattle.bgp_wire.specs.Entries.{Entry, entry_at, entries_in, entries}

-- what a guarded value was
pub guarded : {A : Type 0} (b : Bool) (y x : A) → cond b None (Some y) ≡ Some x → (b ≡ false) × (y ≡ x)
guarded true y x e = absurd (none-some x e)
guarded false y x e = (refl, cc)

-- what a field of n bytes leaves, where one is there
number_leaves : (n : ℕ) (bytes : List ℕ) (x : ℕ × List ℕ) → number_at n bytes ≡ Some x → length x.1 + n ≡ length bytes
number_leaves n bytes x e =
    let g = guarded (nat_lt (length bytes) n) (big_number n bytes, drop n bytes) x e in
    let enough_bytes : n ≤ length bytes = grind (arith, nat_tests, g.0) in
    rw (← g.1) (simp length-drop (omega arith))

bytes_leave : (n : ℕ) (bytes : List ℕ) (x : List ℕ × List ℕ) → bytes_at n bytes ≡ Some x → length x.1 + n ≡ length bytes
bytes_leave n bytes x e =
    let g = guarded (nat_lt (length bytes) n) (take n bytes, drop n bytes) x e in
    let enough_bytes : n ≤ length bytes = grind (arith, nat_tests, g.0) in
    rw (← g.1) (simp length-drop (omega arith))

-- an entry takes bytes
pub entry_shorter : (bytes : List ℕ) (e : Entry × List ℕ) → entry_at bytes ≡ Some e → length e.1 < length bytes
unfolding entry_at
entry_shorter bytes e h =
    option_and_then_some _ (number_at 1 bytes) e h (λ code hc h1.
    option_and_then_some _ (number_at 1 code.1) e h1 (λ size hs h2.
    option_and_then_some _ (bytes_at size.0 size.1) e h2 (λ value hv h3.
    let a = number_leaves 1 bytes code hc in
    let b = number_leaves 1 code.1 size hs in
    let d = bytes_leave size.0 size.1 value hv in
    let p : (record { code = code.0; value = value.0 }, value.1) ≡ e = cc in
    rw (← p) (omega arith))))

-- the entries from what stands in front
abbrev pub entries_by : (List ℕ → Option (List Entry)) → Option (Entry × List ℕ) → Option (List Entry)
entries_by next front = front >>= λ first. next first.1 >>= λ others. Some (first.0 ∷ others)

same_by : (f g : List ℕ → Option (List Entry)) (front : Option (Entry × List ℕ)) → ((e : Entry × List ℕ) → front ≡ Some e → f e.1 ≡ g e.1) → entries_by f front ≡ entries_by g front
same_by f g None h = refl
same_by f g (Some e) h = rw (h e refl) refl

-- how many steps are allowed doesn't matter, once they are enough
enough : (n m : ℕ) (bytes : List ℕ) → length bytes ≤ n → length bytes ≤ m → entries_in n bytes ≡ entries_in m bytes
unfolding entries_in
enough zero zero bytes a b = refl
enough zero (suc m) bytes a b = let t : nat_eq (length bytes) 0 ≡ true = grind (arith, nat_tests) in rw t refl
enough (suc n) zero bytes a b = let t : nat_eq (length bytes) 0 ≡ true = grind (arith, nat_tests) in rw t refl
enough (suc n) (suc m) bytes a b =
    ap (λ r. cond (nat_eq (length bytes) 0) (Some []) r)
    (same_by (entries_in n) (entries_in m) (entry_at bytes)
    (λ e h. let s = entry_shorter bytes e h in enough n m e.1 (omega arith) (omega arith)))

-- the entries of a field are the first one and those behind it
pub entries_step : (bytes : List ℕ) → 0 < length bytes → entries bytes ≡ entries_by entries (entry_at bytes)
unfolding entries entries_in
entries_step [] h = absurd (omega arith)
entries_step (b ∷ bs) h =
    let t : nat_eq (length (b ∷ bs)) 0 ≡ false = grind (arith, nat_tests) in
    rw t (same_by (entries_in (length bs)) entries (entry_at (b ∷ bs))
    (λ e h. let s = entry_shorter (b ∷ bs) e h in enough (length bs) (length e.1) e.1 (omega arith) (omega arith)))

pub entries_end : entries [] ≡ Some []
unfolding entries entries_in
entries_end = refl

-- What a field adds to what stood before it, where `add` says what a list of entries adds.
abbrev pub walk : {S : Type 0} → (S → List Entry → Option S) → S → List ℕ → Option S
walk add s bytes = entries bytes >>= add s

-- Entries add one after the other.
abbrev pub InTurn : {S : Type 0} → (S → List Entry → Option S) → Type 0
InTurn {S} add = (s : S) (e : Entry) (es : List Entry) → add s (e ∷ es) ≡ (add s (e ∷ []) >>= λ t. add t es)

-- where the first entry passes the end
pub walk_cut : {S : Type 0} (add : S → List Entry → Option S) (s : S) (bytes : List ℕ) → 0 < length bytes → entry_at bytes ≡ None → walk add s bytes ≡ None
walk_cut add s bytes h none = rw (entries_step bytes h, none) refl

pub none_of : {S T : Type 0} (o : Option S) → ◌≡◌ {A = Option T} None (o >>= λ t. None)
none_of None = refl
none_of (Some t) = refl

joined : {S : Type 0} (add : S → List Entry → Option S) → InTurn add → (s : S) (e : Entry × List ℕ) (others : Option (List Entry)) →
    ((others >>= λ es. Some (e.0 ∷ es)) >>= add s) ≡ (add s (e.0 ∷ []) >>= λ t. others >>= add t)
joined add turn s e None = none_of (add s (e.0 ∷ []))
joined add turn s e (Some es) = turn s e.0 es

-- what stands behind the first entry adds to what that one made
pub walk_on : {S : Type 0} (add : S → List Entry → Option S) → InTurn add → (s : S) (bytes : List ℕ) (e : Entry × List ℕ) → 0 < length bytes → entry_at bytes ≡ Some e →
    walk add s bytes ≡ (add s (e.0 ∷ []) >>= λ t. walk add t e.1)
walk_on add turn s bytes e h first = rw (entries_step bytes h, first) (joined add turn s e (entries e.1))

pub not_empty : (bytes : List ℕ) → (bytes ≡ [] → IsTrue false) → 0 < length bytes
not_empty [] h = cc (h refl)
not_empty (b ∷ bs) h = omega arith
