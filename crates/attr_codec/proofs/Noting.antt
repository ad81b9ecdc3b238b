-- The table of places, as a walk from the front fills it.
use Rattle.std.proofs.Common.{◌≡◌, ◌≢◌, ◌∙◌, ℕ, zero, suc, ◌+◌, ◌-◌, ◌<◌, ◌≤◌, Bool, true, false, cond, not, eqb, min, max, ◌||◌, ◌&&◌, List, [], length, get_or, set, take, drop, replicate, Option, Some, None, refl, ap, sym, subst, arith, length-drop, length-set, get_or-set_other, get_or-set_same}
use Rattle.std.specs.Prelude.{nat_lt, option_map}
use Rattle.std.specs.List.{list_any}
use Rattle.std.proofs.lemmas.Bool.{eqb-true, eqb-false, ne_eqb}
use Rattle.std.proofs.lemmas.Bool.Decides.{nat_tests}
use Rattle.std.proofs.lemmas.List.{drop-drop}
use Rattle.std.proofs.Math.Seq.{drop-length}
use Rattle.std.proofs.lemmas.Option.{option_and_then_some}
use Rattle.bgp_wire.specs.declared.open.Encoding.{Encoding}
use Rattle.wire_buf.specs.Field.{number_at, bytes_at}
use Rattle.byteorder.specs.Endian.{big_number}
use Rattle.attr_codec.specs.Cut.{cut}
use Rattle.attr_codec.specs.Field.{Attribute, length_size, attribute_at, attributes_of, first_of}
use Rattle.attr_codec.specs.Unknown.{is_kept}
use Rattle.attr_codec.specs.Fault.{attribute_fault, with_kind, fault_with, field_fault}
use Rattle.attr_codec.specs.declared.kinds.Kinds.{Kinds}
use Rattle.attr_codec.specs.Noted.{no_kinds, kinds_with, is_kept_of, last_bytes, attribute_in, is_noted, with_place, AreNoted}
use Rattle.attr_codec.proofs.Cutting.{items_found, items_end}
use Rattle.attr_codec.proofs.Fields.{guarded, attribute_takes}
use Rattle.attr_codec.proofs.Firsts.{first_here, first_behind, first_nowhere}
use Rattle.attr_codec.proofs.Faults.{fault_here, fault_behind, fault_cut, fault_end}

-- ---- what is left of a field

-- The bytes that are left are the last ones.
pub record IsLeft (bytes left : List ℕ) : Type 0 where
  pub within : length left ≤ length bytes
  pub same : left ≡ last_bytes (length left) bytes

dropped : (n : ℕ) (bytes : List ℕ) → n ≤ length bytes → IsLeft bytes (drop n bytes)
dropped n bytes h =
    let l : length (drop n bytes) ≡ length bytes - n = length-drop n bytes in
    let e : length bytes - length (drop n bytes) ≡ n = omega (arith, l) in
    record { within = omega (arith, l); same = ap (λ (k : ℕ). drop k bytes) (sym e) }

left_on : (a b c : List ℕ) → IsLeft a b → IsLeft b c → IsLeft a c
left_on a b c f g =
    let n : (length a - length b) + (length b - length c) ≡ length a - length c = omega (arith, f.within, g.within) in
    record {
      within = omega (arith, f.within, g.within);
      same = g.same ∙ ap (drop (length b - length c)) f.same ∙ drop-drop (length b - length c) (length a - length b) a ∙ ap (λ (k : ℕ). drop k a) n;
    }

number_left : (n : ℕ) (bytes : List ℕ) (x : ℕ × List ℕ) → number_at n bytes ≡ Some x → IsLeft bytes x.1
number_left n bytes x e =
    let g = guarded (nat_lt (length bytes) n) (big_number n bytes, drop n bytes) x e in
    let enough : n ≤ length bytes = grind (arith, nat_tests, g.0) in
    subst (IsLeft bytes) (ap (λ (p : ℕ × List ℕ). p.1) g.1) (dropped n bytes enough)

bytes_left : (n : ℕ) (bytes : List ℕ) (x : List ℕ × List ℕ) → bytes_at n bytes ≡ Some x → IsLeft bytes x.1
bytes_left n bytes x e =
    let g = guarded (nat_lt (length bytes) n) (take n bytes, drop n bytes) x e in
    let enough : n ≤ length bytes = grind (arith, nat_tests, g.0) in
    subst (IsLeft bytes) (ap (λ (p : List ℕ × List ℕ). p.1) g.1) (dropped n bytes enough)

attribute_left : (bytes : List ℕ) (e : Attribute × List ℕ) → attribute_at bytes ≡ Some e → IsLeft bytes e.1
unfolding attribute_at
attribute_left bytes e h =
    option_and_then_some _ (number_at 1 bytes) e h (λ flags hf h1.
    option_and_then_some _ (number_at 1 flags.1) e h1 (λ kind hk h2.
    option_and_then_some _ (number_at (length_size flags.0) kind.1) e h2 (λ size hs h3.
    option_and_then_some _ (bytes_at size.0 size.1) e h3 (λ value hv h4.
    let a = number_left 1 bytes flags hf in
    let b = number_left 1 flags.1 kind hk in
    let c = number_left (length_size flags.0) kind.1 size hs in
    let d = bytes_left size.0 size.1 value hv in
    let p : (record { flags = flags.0; kind = kind.0; value = value.0 }, value.1) ≡ e = cc in
    rw (← p) (left_on bytes flags.1 value.1 a (left_on flags.1 kind.1 value.1 b (left_on kind.1 size.1 value.1 c d)))))))

-- ---- the table

-- what the table tells of a type, and what is left where it tells nothing
abbrev told_by : List ℕ → List ℕ → ℕ → ℕ → Option Attribute
told_by bytes left kind zero = first_of kind (attributes_of left)
told_by bytes left kind (suc place) = attribute_in bytes (suc place)

told_there : (bytes left : List ℕ) (kind place : ℕ) → 0 < place → told_by bytes left kind place ≡ attribute_in bytes place
told_there bytes left kind zero h = absurd (omega arith)
told_there bytes left kind (suc place) h = refl

-- Behind an attribute of another type the table tells the same.
told_on : (bytes left rest : List ℕ) (a : Attribute) (kind place : ℕ) → attribute_at left ≡ Some (a, rest) → a.kind ≢ kind → told_by bytes rest kind place ≡ told_by bytes left kind place
told_on bytes left rest a kind zero e other = sym (first_behind kind left a rest e other)
told_on bytes left rest a kind (suc place) e other = refl

-- where a type has its place, what is left doesn't matter
told_same : (bytes left rest : List ℕ) (kind place : ℕ) → place ≢ 0 → told_by bytes rest kind place ≡ told_by bytes left kind place
told_same bytes left rest kind zero some = absurd (some refl)
told_same bytes left rest kind (suc place) some = refl

-- The walk so far: what came before `left` is in the table, without a fault.
pub record IsWalked (enc : Encoding) (bytes left places : List ℕ) (kept : Kinds) : Type 0 where
  pub so_far : fault_with enc (is_noted places) (cut attribute_at left) ≡ field_fault enc (cut attribute_at bytes)
  pub is_left : IsLeft bytes left
  pub firsts : (kind : ℕ) → told_by bytes left kind (get_or places kind 0) ≡ first_of kind (attributes_of bytes)
  pub types : length places ≡ 256
  pub within : (kind : ℕ) → get_or places kind 0 ≤ length bytes
  pub below : (kind : ℕ) → kind < kept.from → list_any (is_kept_of kind) (attributes_of left) ≡ list_any (is_kept_of kind) (attributes_of bytes)
  pub above : (kind : ℕ) → kept.to ≤ kind → list_any (is_kept_of kind) (attributes_of left) ≡ list_any (is_kept_of kind) (attributes_of bytes)
  pub low : kept.from ≤ 256
  pub high : kept.to ≤ 256

none_there : (n kind : ℕ) → ◌≡◌ {A = ℕ} (get_or (replicate n 0) kind 0) 0
none_there zero kind = refl
none_there (suc n) zero = refl
none_there (suc n) (suc kind) = none_there n kind

none_noted : (n : ℕ) → ◌≡◌ {A = ℕ → Bool} (is_noted (replicate n 0)) (λ kind. false)
none_noted n = λ i kind. ap (λ (place : ℕ). not (eqb place 0)) (none_there n kind) i

pub walk_begin : (enc : Encoding) (bytes : List ℕ) → IsWalked enc bytes bytes (replicate 256 0) no_kinds
walk_begin enc bytes = record {
  so_far = ap (λ came. fault_with enc came (cut attribute_at bytes)) (none_noted 256);
  is_left = dropped 0 bytes (omega arith);
  firsts = λ kind. rw (none_there 256 kind) refl;
  types = refl;
  within = λ kind. rw (none_there 256 kind) (omega arith);
  below = λ kind h. refl;
  above = λ kind h. refl;
  low = omega arith;
  high = omega arith;
}

-- one type more
more_by : (places : List ℕ) (kind place other : ℕ) → kind < length places → 0 < place → (noted same : Bool) → is_noted places kind ≡ noted → eqb kind other ≡ same
    → is_noted (cond noted places (set places kind place)) other ≡ (same || is_noted places other)
more_by places kind place other h some true true en es =
    let one : kind ≡ other = eqb-true kind other es in
    subst (λ (k : ℕ). is_noted places k ≡ true) one en
more_by places kind place other h some true false en es = refl
more_by places kind place other h some false true en es =
    let one : kind ≡ other = eqb-true kind other es in
    rw (← one, get_or-set_same places kind place 0 h, ne_eqb place 0 (λ e. absurd (omega arith))) refl
more_by places kind place other h some false false en es =
    rw (get_or-set_other places kind other place 0 (λ same. eqb-false kind other es (sym same))) refl

noted_more : (places : List ℕ) (kind place : ℕ) → kind < length places → 0 < place → ◌≡◌ {A = ℕ → Bool} (is_noted (with_place places kind place)) (with_kind (is_noted places) kind)
noted_more places kind place h some = λ i other. more_by places kind place other h some (is_noted places kind) (eqb kind other) refl refl i

not_zero : (n : ℕ) → not (eqb n 0) ≡ true → n ≢ 0
not_zero zero e same = absurd cc
not_zero (suc n) e same = absurd cc

is_zero : (n : ℕ) → not (eqb n 0) ≡ false → n ≡ 0
is_zero n e = eqb-true n 0 (by (eqb n 0) e)
  where
    by : (b : Bool) → not b ≡ false → b ≡ true
    by true e = refl
    by false e = absurd cc

firsts_by : (enc : Encoding) (bytes left rest places : List ℕ) (kept : Kinds) (a : Attribute) (kind : ℕ) → IsWalked enc bytes left places kept → 0 < length left → attribute_at left ≡ Some (a, rest) → a.kind < 256
    → (noted same : Bool) → is_noted places a.kind ≡ noted → eqb a.kind kind ≡ same
    → told_by bytes rest kind (get_or (cond noted places (set places a.kind (length left))) kind 0) ≡ first_of kind (attributes_of bytes)
firsts_by enc bytes left rest places kept a kind w some e low true true en es =
    let one : a.kind ≡ kind = eqb-true a.kind kind es in
    let there : get_or places kind 0 ≢ 0 = subst (λ (k : ℕ). get_or places k 0 ≢ 0) one (not_zero (get_or places a.kind 0) en) in
    told_same bytes left rest kind (get_or places kind 0) there ∙ w.firsts kind
firsts_by enc bytes left rest places kept a kind w some e low true false en es =
    told_on bytes left rest a kind (get_or places kind 0) e (eqb-false a.kind kind es) ∙ w.firsts kind
firsts_by enc bytes left rest places kept a kind w some e low false true en es =
    let one : a.kind ≡ kind = eqb-true a.kind kind es in
    let within : a.kind < length places = omega (arith, w.types, low) in
    let placed : get_or (set places a.kind (length left)) kind 0 ≡ length left = subst (λ (k : ℕ). get_or (set places a.kind (length left)) k 0 ≡ length left) one (get_or-set_same places a.kind (length left) 0 within) in
    let zero_there : get_or places kind 0 ≡ 0 = subst (λ (k : ℕ). get_or places k 0 ≡ 0) one (is_zero (get_or places a.kind 0) en) in
    let nothing : first_of kind (attributes_of left) ≡ first_of kind (attributes_of bytes) = ap (told_by bytes left kind) (sym zero_there) ∙ w.firsts kind in
    ap (told_by bytes rest kind) placed
    ∙ told_there bytes rest kind (length left) some
    ∙ ap (λ (b : List ℕ). option_map (λ (found : Attribute × List ℕ). found.0) (attribute_at b)) (sym w.is_left.same)
    ∙ ap (option_map (λ (found : Attribute × List ℕ). found.0)) e
    ∙ sym (first_here kind left a rest e one)
    ∙ nothing
firsts_by enc bytes left rest places kept a kind w some e low false false en es =
    ap (told_by bytes rest kind) (get_or-set_other places a.kind kind (length left) 0 (λ same. eqb-false a.kind kind es (sym same)))
    ∙ told_on bytes left rest a kind (get_or places kind 0) e (eqb-false a.kind kind es) ∙ w.firsts kind

types_by : (places : List ℕ) (kind place : ℕ) (b : Bool) → length (cond b places (set places kind place)) ≡ length places
types_by places kind place true = refl
types_by places kind place false = length-set places kind place

within_by : (places : List ℕ) (kind place other n : ℕ) → ((k : ℕ) → get_or places k 0 ≤ n) → place ≤ n → kind < length places → (b same : Bool) → eqb kind other ≡ same → get_or (cond b places (set places kind place)) other 0 ≤ n
within_by places kind place other n each h low true same e = each other
within_by places kind place other n each h low false true e = rw (← eqb-true kind other e, get_or-set_same places kind place 0 low) h
within_by places kind place other n each h low false false e = rw (get_or-set_other places kind other place 0 (λ same. eqb-false kind other e (sym same))) (each other)

-- A type beside the range is beside it before, and an attribute of it isn't kept.
abbrev kinds_by : Bool → Kinds → Attribute → Kinds
kinds_by b kept a = cond b (record { from = min kept.from a.kind; to = max kept.to (a.kind + 1) }) kept

below_by : (kept : Kinds) (a : Attribute) (kind : ℕ) (b : Bool) → kind < (kinds_by b kept a).from → (kind < kept.from) × ((b && eqb a.kind kind) ≡ false)
below_by kept a kind true h = (omega (arith, h), ne_eqb a.kind kind (λ same. absurd (omega (arith, h, same))))
below_by kept a kind false h = (h, refl)

above_by : (kept : Kinds) (a : Attribute) (kind : ℕ) (b : Bool) → (kinds_by b kept a).to ≤ kind → (kept.to ≤ kind) × ((b && eqb a.kind kind) ≡ false)
above_by kept a kind true h = (omega (arith, h), ne_eqb a.kind kind (λ same. absurd (omega (arith, h, same))))
above_by kept a kind false h = (h, refl)

low_by : (kept : Kinds) (a : Attribute) (b : Bool) → kept.from ≤ 256 → (kinds_by b kept a).from ≤ 256
low_by kept a true h = omega (arith, h)
low_by kept a false h = h

high_by : (kept : Kinds) (a : Attribute) (b : Bool) → kept.to ≤ 256 → a.kind < 256 → (kinds_by b kept a).to ≤ 256
high_by kept a true h low = omega (arith, h, low)
high_by kept a false h low = h

one_step : (kind : ℕ) (left rest : List ℕ) (a : Attribute) → attribute_at left ≡ Some (a, rest) → is_kept_of kind a ≡ false → list_any (is_kept_of kind) (attributes_of rest) ≡ list_any (is_kept_of kind) (attributes_of left)
one_step kind left rest a e lost =
    sym (ap (list_any (is_kept_of kind)) (items_found attribute_at attribute_takes left a rest e) ∙ ap (λ (b : Bool). b || list_any (is_kept_of kind) (attributes_of rest)) lost)

pub walk_on : (enc : Encoding) (bytes left rest places : List ℕ) (kept : Kinds) (a : Attribute) → IsWalked enc bytes left places kept → 0 < length left → attribute_at left ≡ Some (a, rest) → a.kind < 256
    → attribute_fault enc (is_noted places a.kind) a ≡ None → IsWalked enc bytes rest (with_place places a.kind (length left)) (kinds_with kept a)
walk_on enc bytes left rest places kept a w some e low none =
    let within : a.kind < length places = omega (arith, w.types, low) in
    record {
      so_far = ap (λ came. fault_with enc came (cut attribute_at rest)) (noted_more places a.kind (length left) within some) ∙ sym (fault_behind enc (is_noted places) left a rest some e none) ∙ w.so_far;
      is_left = left_on bytes left rest w.is_left (attribute_left left (a, rest) e);
      firsts = λ kind. firsts_by enc bytes left rest places kept a kind w some e low (is_noted places a.kind) (eqb a.kind kind) refl refl;
      types = types_by places a.kind (length left) (is_noted places a.kind) ∙ w.types;
      within = λ kind. within_by places a.kind (length left) kind (length bytes) w.within w.is_left.within within (is_noted places a.kind) (eqb a.kind kind) refl;
      below = λ kind h. let b = below_by kept a kind (is_kept a) h in one_step kind left rest a e b.1 ∙ w.below kind b.0;
      above = λ kind h. let b = above_by kept a kind (is_kept a) h in one_step kind left rest a e b.1 ∙ w.above kind b.0;
      low = low_by kept a (is_kept a) w.low;
      high = high_by kept a (is_kept a) w.high low;
    }

pub by_place : (enc : Encoding) (came noted : Bool) (a : Attribute) (fault : Option ℕ) → came ≡ noted → fault ≡ attribute_fault enc came a → attribute_fault enc noted a ≡ fault
by_place enc came noted a fault e f = ap (λ (b : Bool). attribute_fault enc b a) (sym e) ∙ sym f

pub walk_fault : (enc : Encoding) (bytes left rest places : List ℕ) (kept : Kinds) (a : Attribute) (sub : ℕ) → IsWalked enc bytes left places kept → 0 < length left → attribute_at left ≡ Some (a, rest)
    → attribute_fault enc (is_noted places a.kind) a ≡ Some sub → field_fault enc (cut attribute_at bytes) ≡ Some sub
walk_fault enc bytes left rest places kept a sub w some e fault = sym w.so_far ∙ fault_here enc (is_noted places) left a rest sub some e fault

pub walk_cut : (enc : Encoding) (bytes left places : List ℕ) (kept : Kinds) → IsWalked enc bytes left places kept → 0 < length left → attribute_at left ≡ None → field_fault enc (cut attribute_at bytes) ≡ Some 1
walk_cut enc bytes left places kept w some e = sym w.so_far ∙ fault_cut enc (is_noted places) left some e

pub walk_end : (enc : Encoding) (bytes left places : List ℕ) (kept : Kinds) → IsWalked enc bytes left places kept → left ≡ [] → field_fault enc (cut attribute_at bytes) ≡ None
walk_end enc bytes left places kept w e = sym w.so_far ∙ fault_end enc (is_noted places) left e

-- the end of the field has no attribute
nowhere : attribute_at [] ≡ None
unfolding attribute_at
nowhere = refl

nothing_in : (bytes : List ℕ) (kind place : ℕ) → told_by bytes [] kind place ≡ attribute_in bytes place
nothing_in bytes kind zero =
    let all : length bytes - 0 ≡ length bytes = omega arith in
    let none : last_bytes 0 bytes ≡ [] = ap (λ (k : ℕ). drop k bytes) all ∙ drop-length bytes in
    first_nowhere kind [] nowhere
    ∙ sym (ap (λ (b : List ℕ). option_map (λ (found : Attribute × List ℕ). found.0) (attribute_at b)) none ∙ ap (option_map (λ (found : Attribute × List ℕ). found.0)) nowhere)
nothing_in bytes kind (suc place) = refl

pub walk_notes : (enc : Encoding) (bytes left places : List ℕ) (kept : Kinds) → IsWalked enc bytes left places kept → left ≡ [] → AreNoted bytes places kept
walk_notes enc bytes left places kept w e =
    let none : (kind : ℕ) → list_any (is_kept_of kind) (attributes_of left) ≡ false = λ kind. ap (list_any (is_kept_of kind)) (ap attributes_of e ∙ items_end attribute_at attribute_takes [] nowhere) in
    record {
      each = λ kind. sym (nothing_in bytes kind (get_or places kind 0)) ∙ ap (λ (b : List ℕ). told_by bytes b kind (get_or places kind 0)) (sym e) ∙ w.firsts kind;
      types = w.types;
      within = w.within;
      below = λ kind h. sym (w.below kind h) ∙ none kind;
      above = λ kind h. sym (w.above kind h) ∙ none kind;
      low = w.low;
      high = w.high;
    }
