-- A field is its entries one behind the other, and no others.
use Rattle.std.proofs.Common.{◌≡◌, ◌∙◌, ℕ, zero, suc, ◌+◌, ◌*◌, ◌<◌, ◌≤◌, false, List, [], ◌∷◌, ◌++◌, length, drop, take, Some, refl, ap, sym, arith, length-take}
use Rattle.std.specs.Prelude.{nat_lt, nat_eq, flat_map}
use Rattle.std.proofs.lemmas.Option.{none-some, option_and_then_some}
use Rattle.std.proofs.lemmas.List.{take-append-drop}
use Rattle.std.proofs.lemmas.Bool.Decides.{nat_tests}
use Rattle.wire_buf.specs.Field.{number_at, bytes_at}
use Rattle.wire_buf.specs.Written.{bytes_at-written}
use Rattle.bgp_wire.specs.Entries.{Entry, entry_bytes, entry_at, entries_in, entries}
use Rattle.bgp_wire.proofs.Fields.{guarded, entries_step, entries_end}

-- a byte in front
byte_there : (b : ℕ) (bytes : List ℕ) → number_at 1 (b ∷ bytes) ≡ Some (b, bytes)
byte_there b bytes =
    let t : nat_lt (length (b ∷ bytes)) 1 ≡ false = grind (arith, nat_tests) in
    let v : b * 1 + 0 ≡ b = omega arith in
    rw (t, v) refl

-- an entry in front is the one that is read
pub entry_there : (e : Entry) (rest : List ℕ) → entry_at (entry_bytes e ++ rest) ≡ Some (e, rest)
unfolding entry_at
entry_there e rest =
    rw (byte_there e.code (length e.value ∷ (e.value ++ rest)), byte_there (length e.value) (e.value ++ rest), bytes_at-written (length e.value) e.value rest refl) refl

-- the entries of the bytes of some entries are these
pub entries_written : (es : List Entry) → entries (flat_map entry_bytes es) ≡ Some es
entries_written [] = entries_end
entries_written (e ∷ es) =
    let more : 0 < length (flat_map entry_bytes (e ∷ es)) = omega arith in
    rw (entries_step (flat_map entry_bytes (e ∷ es)) more, entry_there e (flat_map entry_bytes es), entries_written es) refl

byte_first : (bytes : List ℕ) (x : ℕ × List ℕ) → number_at 1 bytes ≡ Some x → bytes ≡ x.0 ∷ x.1
byte_first [] x h = absurd (none-some x h)
byte_first (b ∷ bs) x h =
    let s : Some (b, bs) ≡ Some x = sym (byte_there b bs) ∙ h in
    let p : (b, bs) ≡ x = cc in
    rw (← p) refl

value_first : (n : ℕ) (bytes : List ℕ) (x : List ℕ × List ℕ) → bytes_at n bytes ≡ Some x → (bytes ≡ x.0 ++ x.1) × (length x.0 ≡ n)
value_first n bytes x h =
    let g = guarded (nat_lt (length bytes) n) (take n bytes, drop n bytes) x h in
    let enough_bytes : n ≤ length bytes = grind (arith, nat_tests, g.0) in
    rw (← g.1) (sym (take-append-drop n bytes), grind (arith, length-take))

-- the entry that is read stands in front
pub entry_first : (bytes : List ℕ) (x : Entry × List ℕ) → entry_at bytes ≡ Some x → bytes ≡ entry_bytes x.0 ++ x.1
unfolding entry_at
entry_first bytes x h =
    option_and_then_some _ (number_at 1 bytes) x h (λ code hc h1.
    option_and_then_some _ (number_at 1 code.1) x h1 (λ size hs h2.
    option_and_then_some _ (bytes_at size.0 size.1) x h2 (λ value hv h3.
    let a = byte_first bytes code hc in
    let b = byte_first code.1 size hs in
    let d = value_first size.0 size.1 value hv in
    let p : (record { code = code.0; value = value.0 }, value.1) ≡ x = cc in
    rw (← p) (rw (a, b, d.0, d.1) refl))))

in_steps : (n : ℕ) (bytes : List ℕ) (es : List Entry) → entries_in n bytes ≡ Some es → bytes ≡ flat_map entry_bytes es
unfolding entries_in
in_steps zero [] es h = let none : [] ≡ es = cc in rw (← none) refl
in_steps zero (b ∷ bs) es h =
    let t : nat_eq (length (b ∷ bs)) 0 ≡ false = grind (arith, nat_tests) in
    absurd (none-some es (rw t at h))
in_steps (suc n) [] es h = let none : [] ≡ es = cc in rw (← none) refl
in_steps (suc n) (b ∷ bs) es h =
    let t : nat_eq (length (b ∷ bs)) 0 ≡ false = grind (arith, nat_tests) in
    option_and_then_some _ (entry_at (b ∷ bs)) es (rw t at h) (λ e he h1.
    option_and_then_some _ (entries_in n e.1) es h1 (λ others ho h2.
    let p : e.0 ∷ others ≡ es = cc in
    let first = entry_first (b ∷ bs) e he in
    let behind = in_steps n e.1 others ho in
    rw (← p) (first ∙ ap (λ (x : List ℕ). entry_bytes e.0 ++ x) behind)))

-- the bytes of a field are those of its entries
pub entries_only : (bytes : List ℕ) (es : List Entry) → entries bytes ≡ Some es → bytes ≡ flat_map entry_bytes es
unfolding entries
entries_only bytes es h = in_steps (length bytes) bytes es h
