-- Attributes of unknown types stand between the known ones.
use Rattle.std.proofs.Common.{◌≡◌, ◌≢◌, ◌∙◌, ℕ, ◌<◌, ◌≤◌, suc, Bool, true, false, cond, ◌||◌, ◌&&◌, List, [], ◌∷◌, ◌++◌, Option, Some, None, refl, ap, sym, subst, arith, append_assoc}
use Rattle.std.specs.Prelude.{nat_le, nat_eq, option_map}
use Rattle.std.specs.Option.{option_or}
use Rattle.std.specs.List.{AllByRecursion}
use Rattle.std.proofs.lemmas.Bool.{ne_eqb, eqb-true, eq-eqb}
use Rattle.std.proofs.lemmas.Bool.Decides.{nat_tests}
use Rattle.bgp_wire.specs.declared.open.Encoding.{Encoding}
use Rattle.attr_model.specs.declared.attrs.Attrs.{Attrs}
use Rattle.attr_model.specs.Valid.{is_known}
use Rattle.attr_codec.specs.Field.{Attribute}
use Rattle.attr_codec.specs.Written.{Row, unknown_row, unknown_rows, is_between, route_rows, number_rows, list_rows, as4_rows, large_rows, low_rows, high_rows, attrs_rows}
use Rattle.attr_codec.proofs.Rows.{attribute_of, row_at, row_at-append, or_none}

abbrev pub Entry : Type 0
Entry = ℕ × List ℕ

abbrev pub AreUnknown : List Entry → Type 0
AreUnknown unknown = AllByRecursion (λ (attribute : Entry). is_known attribute.0 ≡ false) unknown

-- ---- a known type isn't among the unknown ones

other_kind : (kind other : ℕ) → is_known kind ≡ true → is_known other ≡ false → nat_eq other kind ≡ false
other_kind kind other known unknown = ne_eqb other kind (λ same. let h : true ≡ false = sym known ∙ ap is_known (sym same) ∙ unknown in absurd cc)

none_by : (kind low high : ℕ) (u : Entry) (rest : List Row) → nat_eq u.0 kind ≡ false → (b : Bool) → row_at kind rest ≡ None → row_at kind (cond b (unknown_row u ∷ rest) rest) ≡ None
none_by kind low high u rest other true behind = rw other behind
none_by kind low high u rest other false behind = behind

pub step_rows : (low high : ℕ) (u : Entry) (us : List Entry) → (b : Bool) → is_between low high u ≡ b → unknown_rows low high (u ∷ us) ≡ cond b (unknown_row u ∷ unknown_rows low high us) (unknown_rows low high us)
step_rows low high u us true e = rw e refl
step_rows low high u us false e = rw e refl

pub none_among : (kind low high : ℕ) (unknown : List Entry) → is_known kind ≡ true → AreUnknown unknown → row_at kind (unknown_rows low high unknown) ≡ None
none_among kind low high [] known are = refl
none_among kind low high (u ∷ us) known are =
    ap (row_at kind) (step_rows low high u us (is_between low high u) refl)
    ∙ none_by kind low high u (unknown_rows low high us) (other_kind kind u.0 known are.0) (is_between low high u) (none_among kind low high us known are.1)

-- the rows of known types alone
abbrev pub known_rows : Encoding → Attrs → List Row
known_rows enc attrs = ((route_rows enc attrs ++ number_rows attrs) ++ list_rows enc attrs) ++ (as4_rows enc attrs ++ large_rows attrs)

-- rows, between others under which nothing is found
between_nothing : (kind : ℕ) (a b c : List Row) → row_at kind a ≡ None → row_at kind c ≡ None → row_at kind ((a ++ b) ++ c) ≡ row_at kind b
between_nothing kind a b c x z = row_at-append kind (a ++ b) c ∙ rw z (or_none (row_at kind (a ++ b))) ∙ row_at-append kind a b ∙ rw x refl

behind_nothing : (kind : ℕ) (a b c d : List Row) → row_at kind a ≡ None → row_at kind (((a ++ b) ++ c) ++ d) ≡ row_at kind ((b ++ c) ++ d)
behind_nothing kind a b c d x =
    ap (row_at kind) (append_assoc (a ++ b) c d ∙ append_assoc a b (c ++ d) ∙ ap (λ (l : List Row). a ++ l) (sym (append_assoc b c d)))
    ∙ row_at-append kind a ((b ++ c) ++ d) ∙ rw x refl

low_known : (enc : Encoding) (attrs : Attrs) (kind : ℕ) → is_known kind ≡ true → AreUnknown attrs.unknown → row_at kind (low_rows enc attrs) ≡ row_at kind ((route_rows enc attrs ++ number_rows attrs) ++ list_rows enc attrs)
low_known enc attrs kind known are = behind_nothing kind (unknown_rows 0 0 attrs.unknown) (route_rows enc attrs) (number_rows attrs) (list_rows enc attrs) (none_among kind 0 0 attrs.unknown known are)

high_known : (enc : Encoding) (attrs : Attrs) (kind : ℕ) → is_known kind ≡ true → AreUnknown attrs.unknown → row_at kind (high_rows enc attrs) ≡ row_at kind (as4_rows enc attrs ++ large_rows attrs)
high_known enc attrs kind known are =
    let a = unknown_rows 9 16 attrs.unknown in
    let b = as4_rows enc attrs in
    let d = unknown_rows 19 31 attrs.unknown in
    let l = large_rows attrs in
    let e = unknown_rows 33 255 attrs.unknown in
    row_at-append kind (((a ++ b) ++ d) ++ l) e
    ∙ rw (none_among kind 33 255 attrs.unknown known are) (or_none (row_at kind (((a ++ b) ++ d) ++ l)))
    ∙ row_at-append kind ((a ++ b) ++ d) l
    ∙ ap (λ o. option_or o (row_at kind l)) (between_nothing kind a b d (none_among kind 9 16 attrs.unknown known are) (none_among kind 19 31 attrs.unknown known are))
    ∙ sym (row_at-append kind b l)

-- under a known type stands what its row says
pub known_at : (enc : Encoding) (attrs : Attrs) (kind : ℕ) → is_known kind ≡ true → AreUnknown attrs.unknown → row_at kind (attrs_rows enc attrs) ≡ row_at kind (known_rows enc attrs)
known_at enc attrs kind known are =
    row_at-append kind (low_rows enc attrs) (high_rows enc attrs)
    ∙ ap (λ o. option_or o (row_at kind (high_rows enc attrs))) (low_known enc attrs kind known are)
    ∙ ap (λ o. option_or (row_at kind ((route_rows enc attrs ++ number_rows attrs) ++ list_rows enc attrs)) o) (high_known enc attrs kind known are)
    ∙ sym (row_at-append kind ((route_rows enc attrs ++ number_rows attrs) ++ list_rows enc attrs) (as4_rows enc attrs ++ large_rows attrs))

-- ---- under an unknown type stands the entry of that type

abbrev pub value_at : ℕ → List Entry → Option (List ℕ)
value_at kind [] = None
value_at kind (u ∷ us) = cond (nat_eq u.0 kind) (Some u.1) (value_at kind us)

same_none : {X : Type 0} (b : Bool) → ◌≡◌ {A = Option X} (cond b None None) None
same_none true = refl
same_none false = refl

gap_there : (low high : ℕ) (u : Entry) (us : List Entry) → (b : Bool) → is_between low high u ≡ b → (row_at u.0 (unknown_rows low high us) ≡ cond b (option_map (attribute_of 224 u.0) (value_at u.0 us)) None)
    → row_at u.0 (cond b (unknown_row u ∷ unknown_rows low high us) (unknown_rows low high us)) ≡ cond b (option_map (attribute_of 224 u.0) (Some u.1)) None
gap_there low high u us true e behind = let t : nat_eq u.0 u.0 ≡ true = eq-eqb u.0 u.0 refl in rw t refl
gap_there low high u us false e behind = behind

gap_other : (kind : ℕ) (u : Entry) (rest : List Row) (b : Bool) → nat_eq u.0 kind ≡ false → row_at kind (cond b (unknown_row u ∷ rest) rest) ≡ row_at kind rest
gap_other kind u rest true other = rw other refl
gap_other kind u rest false other = refl

abbrev pub within : ℕ → ℕ → ℕ → Bool
within low high kind = nat_le low kind && nat_le kind high

gap_step : (kind low high : ℕ) (u : Entry) (us : List Entry) → row_at kind (unknown_rows low high us) ≡ cond (within low high kind) (option_map (attribute_of 224 kind) (value_at kind us)) None
    → (t : Bool) → nat_eq u.0 kind ≡ t → row_at kind (unknown_rows low high (u ∷ us)) ≡ cond (within low high kind) (option_map (attribute_of 224 kind) (value_at kind (u ∷ us))) None
gap_step kind low high u us behind true e =
    let same : u.0 ≡ kind = eqb-true u.0 kind e in
    let here : row_at u.0 (unknown_rows low high (u ∷ us)) ≡ cond (within low high u.0) (option_map (attribute_of 224 u.0) (Some u.1)) None =
    ap (row_at u.0) (step_rows low high u us (is_between low high u) refl) ∙ gap_there low high u us (is_between low high u) refl (subst (λ (k : ℕ). row_at k (unknown_rows low high us) ≡ cond (within low high k) (option_map (attribute_of 224 k) (value_at k us)) None) (sym same) behind) in
    rw e (subst (λ (k : ℕ). row_at k (unknown_rows low high (u ∷ us)) ≡ cond (within low high k) (option_map (attribute_of 224 k) (Some u.1)) None) same here)
gap_step kind low high u us behind false e =
    rw e (ap (row_at kind) (step_rows low high u us (is_between low high u) refl) ∙ gap_other kind u (unknown_rows low high us) (is_between low high u) e ∙ behind)

gap_at : (kind low high : ℕ) (unknown : List Entry) → row_at kind (unknown_rows low high unknown) ≡ cond (within low high kind) (option_map (attribute_of 224 kind) (value_at kind unknown)) None
gap_at kind low high [] = sym (same_none (within low high kind))
gap_at kind low high (u ∷ us) = gap_step kind low high u us (gap_at kind low high us) (nat_eq u.0 kind) refl

one_gap : (a b c d : Bool) (x : Option Attribute) → (((a || b) || c) || d) ≡ true → option_or (cond a x None) (option_or (option_or (cond b x None) (cond c x None)) (cond d x None)) ≡ x
one_gap a b c d None h = rw (same_none a, same_none b, same_none c, same_none d) refl
one_gap true b c d (Some x) h = refl
one_gap false true c d (Some x) h = refl
one_gap false false true d (Some x) h = refl
one_gap false false false true (Some x) h = refl
one_gap false false false false (Some x) h = absurd cc

up : (n k : ℕ) → n ≤ k → k ≢ n → suc n ≤ k
up n k h other = omega arith

pub in_gap : (kind : ℕ) → ((known : ℕ) → is_known known ≡ true → kind ≢ known) → kind < 256 → (a b c : Bool) → nat_le kind 0 ≡ a → nat_le kind 16 ≡ b → nat_le kind 31 ≡ c → (((within 0 0 kind || within 9 16 kind) || within 19 31 kind) || within 33 255 kind) ≡ true
in_gap kind other h true b c p q r = let low : nat_le 0 kind ≡ true = grind (arith, nat_tests) in rw (low, p) refl
in_gap kind other h false true c p q r =
    let one : 1 ≤ kind = grind (arith, nat_tests) in
    let nine : 9 ≤ kind = up 8 kind (up 7 kind (up 6 kind (up 5 kind (up 4 kind (up 3 kind (up 2 kind (up 1 kind one (other 1 refl)) (other 2 refl)) (other 3 refl)) (other 4 refl)) (other 5 refl)) (other 6 refl)) (other 7 refl)) (other 8 refl) in
    let low : nat_le 0 kind ≡ true = grind (arith, nat_tests) in
    let from : nat_le 9 kind ≡ true = grind (arith, nat_tests) in
    rw (low, p, from, q) refl
in_gap kind other h false false true p q r =
    let past : 17 ≤ kind = grind (arith, nat_tests) in
    let nineteen : 19 ≤ kind = up 18 kind (up 17 kind past (other 17 refl)) (other 18 refl) in
    let low : nat_le 0 kind ≡ true = grind (arith, nat_tests) in
    let from : nat_le 9 kind ≡ true = grind (arith, nat_tests) in
    let next : nat_le 19 kind ≡ true = grind (arith, nat_tests) in
    rw (low, p, from, q, next, r) refl
in_gap kind other h false false false p q r =
    let past : 32 ≤ kind = grind (arith, nat_tests) in
    let thirty : 33 ≤ kind = up 32 kind past (other 32 refl) in
    let low : nat_le 0 kind ≡ true = grind (arith, nat_tests) in
    let from : nat_le 9 kind ≡ true = grind (arith, nat_tests) in
    let next : nat_le 19 kind ≡ true = grind (arith, nat_tests) in
    let last : nat_le 33 kind ≡ true = grind (arith, nat_tests) in
    let most : nat_le kind 255 ≡ true = grind (arith, nat_tests) in
    rw (low, p, from, q, next, r, last, most) refl

pub known_other : (kind known : ℕ) → is_known kind ≡ false → is_known known ≡ true → kind ≢ known
known_other kind known unknown is same = let h : true ≡ false = sym is ∙ ap is_known (sym same) ∙ unknown in absurd cc

skipped : (kind known : ℕ) → is_known kind ≡ false → is_known known ≡ true → nat_eq known kind ≡ false
skipped kind known unknown is = ne_eqb known kind (λ same. known_other kind known unknown is (sym same))

low_unknown : (enc : Encoding) (attrs : Attrs) (kind : ℕ) → is_known kind ≡ false → row_at kind (low_rows enc attrs) ≡ row_at kind (unknown_rows 0 0 attrs.unknown)
low_unknown enc attrs kind e =
    let a = unknown_rows 0 0 attrs.unknown in
    let o = λ (known : ℕ) (is : is_known known ≡ true). skipped kind known e is in
    let r : row_at kind (route_rows enc attrs) ≡ None = rw (o 1 refl, o 2 refl, o 3 refl) refl in
    let n : row_at kind (number_rows attrs) ≡ None = rw (o 4 refl, o 5 refl, o 6 refl) refl in
    let l : row_at kind (list_rows enc attrs) ≡ None = rw (o 7 refl, o 8 refl) refl in
    row_at-append kind ((a ++ route_rows enc attrs) ++ number_rows attrs) (list_rows enc attrs) ∙ rw l (or_none (row_at kind ((a ++ route_rows enc attrs) ++ number_rows attrs)))
    ∙ row_at-append kind (a ++ route_rows enc attrs) (number_rows attrs) ∙ rw n (or_none (row_at kind (a ++ route_rows enc attrs)))
    ∙ row_at-append kind a (route_rows enc attrs) ∙ rw r (or_none (row_at kind a))

high_unknown : (enc : Encoding) (attrs : Attrs) (kind : ℕ) → is_known kind ≡ false → row_at kind (high_rows enc attrs) ≡ option_or (option_or (row_at kind (unknown_rows 9 16 attrs.unknown)) (row_at kind (unknown_rows 19 31 attrs.unknown))) (row_at kind (unknown_rows 33 255 attrs.unknown))
high_unknown enc attrs kind e =
    let a = unknown_rows 9 16 attrs.unknown in
    let d = unknown_rows 19 31 attrs.unknown in
    let f = unknown_rows 33 255 attrs.unknown in
    let s = as4_rows enc attrs in
    let l = large_rows attrs in
    let o = λ (known : ℕ) (is : is_known known ≡ true). skipped kind known e is in
    let ns : row_at kind (as4_rows enc attrs) ≡ None = rw (o 17 refl, o 18 refl) refl in
    let nl : row_at kind (large_rows attrs) ≡ None = rw (o 32 refl) refl in
    let front : row_at kind (a ++ s) ≡ row_at kind a = row_at-append kind a s ∙ rw ns (or_none (row_at kind a)) in
    let both : row_at kind ((a ++ s) ++ d) ≡ option_or (row_at kind a) (row_at kind d) = row_at-append kind (a ++ s) d ∙ ap (λ x. option_or x (row_at kind d)) front in
    let more : row_at kind (((a ++ s) ++ d) ++ l) ≡ option_or (row_at kind a) (row_at kind d) = row_at-append kind ((a ++ s) ++ d) l ∙ rw nl (or_none (row_at kind ((a ++ s) ++ d))) ∙ both in
    row_at-append kind (((a ++ s) ++ d) ++ l) f ∙ ap (λ x. option_or x (row_at kind f)) more

pub unknown_at : (enc : Encoding) (attrs : Attrs) (kind : ℕ) → is_known kind ≡ false → kind < 256 → row_at kind (attrs_rows enc attrs) ≡ option_map (attribute_of 224 kind) (value_at kind attrs.unknown)
unknown_at enc attrs kind e h =
    let u = attrs.unknown in
    row_at-append kind (low_rows enc attrs) (high_rows enc attrs)
    ∙ ap (λ x. option_or x (row_at kind (high_rows enc attrs))) (low_unknown enc attrs kind e ∙ gap_at kind 0 0 u)
    ∙ ap (λ x. option_or (cond (within 0 0 kind) (option_map (attribute_of 224 kind) (value_at kind u)) None) x)
    (high_unknown enc attrs kind e ∙ rw (gap_at kind 9 16 u, gap_at kind 19 31 u, gap_at kind 33 255 u) refl)
    ∙ one_gap (within 0 0 kind) (within 9 16 kind) (within 19 31 kind) (within 33 255 kind) (option_map (attribute_of 224 kind) (value_at kind u))
    (in_gap kind (λ known is. known_other kind known e is) h (nat_le kind 0) (nat_le kind 16) (nat_le kind 31) refl refl refl)
