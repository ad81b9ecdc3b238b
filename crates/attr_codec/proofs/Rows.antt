-- The rows of a table, as bytes and as the attributes that they are cut into.
use Rattle.std.proofs.Common.{◌≡◌, ◌∙◌, ℕ, ◌+◌, ◌%◌, ◌≤◌, Bool, true, false, cond, List, [], ◌∷◌, ◌++◌, length, flat_map, Option, Some, None, refl, ap, sym, arith, append-nil}
use Rattle.std.specs.Prelude.{nat_lt, nat_eq, option_map, IfSome}
use Rattle.std.specs.Option.{option_map_or, option_or}
use Rattle.std.specs.List.{AllByRecursion}
use Rattle.std.proofs.lemmas.Bool.Decides.{nat_tests}
use Rattle.std.proofs.lemmas.Grind.{flat_map-append}
use Rattle.bgp_wire.specs.declared.open.Encoding.{Encoding}
use Rattle.attr_codec.specs.Cut.{cut}
use Rattle.attr_codec.specs.Field.{Attribute, length_size, attribute_at, attribute_bytes, HasItsLength, first_of}
use Rattle.attr_codec.specs.Fault.{attribute_fault, first_fault, with_kind}
use Rattle.attr_codec.specs.Written.{Row, header_bytes, row_bytes, rows_bytes, IsShort}
use Rattle.attr_codec.proofs.Appends.{all_append}
use Rattle.attr_codec.proofs.ItemsBack.{attributes_back}

-- an attribute as it stands in the field
abbrev pub attribute_of : ℕ → ℕ → List ℕ → Attribute
attribute_of flags kind value = record { flags = cond (nat_lt 255 (length value)) (flags + 16) flags; kind = kind; value = value }

abbrev pub row_attributes : Row → List Attribute
row_attributes r = option_map_or (λ value. attribute_of r.flags r.kind value ∷ []) r.value []

abbrev pub rows_attributes : List Row → List Attribute
rows_attributes rows = flat_map row_attributes rows

-- flags without the bit of the extended length, and a value whose length has room
pub record IsGood (r : Row) : Type 0 where
  pub one : length_size r.flags ≡ 1
  pub two : length_size (r.flags + 16) ≡ 2
  pub short : IfSome r.value IsShort

header_is : (flags kind : ℕ) (value : List ℕ) → length_size flags ≡ 1 → length_size (flags + 16) ≡ 2 → (b : Bool) → nat_lt 255 (length value) ≡ b → header_bytes flags kind (length value) ++ value ≡ attribute_bytes (attribute_of flags kind value)
header_is flags kind value one two true e = rw (e, two) refl
header_is flags kind value one two false e =
    let small : length value % 256 ≡ length value = let h : length value ≤ 255 = grind (arith, nat_tests) in omega arith in
    rw (e, one, small) refl

row_is : (r : Row) → (value : Option (List ℕ)) → r.value ≡ value → IsGood r → row_bytes r ≡ flat_map attribute_bytes (row_attributes r)
row_is r None e good = rw e refl
row_is r (Some value) e good = rw e (header_is r.flags r.kind value good.one good.two (nat_lt 255 (length value)) refl ∙ sym (append-nil (attribute_bytes (attribute_of r.flags r.kind value))))

rows_are : (rows : List Row) → AllByRecursion IsGood rows → rows_bytes rows ≡ flat_map attribute_bytes (rows_attributes rows)
rows_are [] good = refl
rows_are (r ∷ rows) good =
    ap (λ (l : List ℕ). l ++ rows_bytes rows) (row_is r r.value refl good.0) ∙ ap (λ (l : List ℕ). flat_map attribute_bytes (row_attributes r) ++ l) (rows_are rows good.1)
    ∙ sym (flat_map-append attribute_bytes (row_attributes r) (rows_attributes rows))

has_length : (flags kind : ℕ) (value : List ℕ) → length_size flags ≡ 1 → length_size (flags + 16) ≡ 2 → IsShort value → (b : Bool) → nat_lt 255 (length value) ≡ b → HasItsLength (attribute_of flags kind value)
has_length flags kind value one two short true e = rw (e, two) (omega arith)
has_length flags kind value one two short false e = rw (e, one) (grind (arith, nat_tests))

row_has : (r : Row) → (value : Option (List ℕ)) → r.value ≡ value → IsGood r → AllByRecursion HasItsLength (row_attributes r)
row_has r None e good = rw e tt
row_has r (Some value) e good =
    let short : IsShort value = rw e at good.short in
    rw e (has_length r.flags r.kind value good.one good.two short (nat_lt 255 (length value)) refl, tt)

rows_have : (rows : List Row) → AllByRecursion IsGood rows → AllByRecursion HasItsLength (rows_attributes rows)
rows_have [] good = tt
rows_have (r ∷ rows) good = all_append HasItsLength (row_attributes r) (rows_attributes rows) (row_has r r.value refl good.0) (rows_have rows good.1)

-- the bytes of rows are cut into their attributes
pub rows_cut : (rows : List Row) → AllByRecursion IsGood rows → cut attribute_at (rows_bytes rows) ≡ record { items = rows_attributes rows; whole = true }
rows_cut rows good = ap (cut attribute_at) (rows_are rows good) ∙ attributes_back (rows_attributes rows) (rows_have rows good)

-- ---- what is found under a type

abbrev pub row_at : ℕ → List Row → Option Attribute
row_at kind [] = None
row_at kind (r ∷ rows) = cond (nat_eq r.kind kind) (option_or (option_map (attribute_of r.flags r.kind) r.value) (row_at kind rows)) (row_at kind rows)

found_by : (kind : ℕ) (r : Row) (rows : List Row) → (value : Option (List ℕ)) → r.value ≡ value → (b : Bool) → nat_eq r.kind kind ≡ b → first_of kind (rows_attributes rows) ≡ row_at kind rows → first_of kind (row_attributes r ++ rows_attributes rows) ≡ row_at kind (r ∷ rows)
found_by kind r rows None e true k behind = rw (e, k) behind
found_by kind r rows None e false k behind = rw (e, k) behind
found_by kind r rows (Some value) e true k behind = rw (e, k) refl
found_by kind r rows (Some value) e false k behind = rw (e, k) behind

pub found_at : (kind : ℕ) (rows : List Row) → first_of kind (rows_attributes rows) ≡ row_at kind rows
found_at kind [] = refl
found_at kind (r ∷ rows) = found_by kind r rows r.value refl (nat_eq r.kind kind) refl (found_at kind rows)

or_assoc : {X : Type 0} (x y z : Option X) → option_or (option_or x y) z ≡ option_or x (option_or y z)
or_assoc None y z = refl
or_assoc (Some n) y z = refl

pub or_none : {X : Type 0} (x : Option X) → option_or x None ≡ x
or_none None = refl
or_none (Some x) = refl

append_by : (found more : Option Attribute) (behind all : Option Attribute) → all ≡ option_or behind more → (b : Bool) → cond b (option_or found all) all ≡ option_or (cond b (option_or found behind) behind) more
append_by found more behind all e true = ap (option_or found) e ∙ sym (or_assoc found behind more)
append_by found more behind all e false = e

pub row_at-append : (kind : ℕ) (xs ys : List Row) → row_at kind (xs ++ ys) ≡ option_or (row_at kind xs) (row_at kind ys)
row_at-append kind [] ys = refl
row_at-append kind (r ∷ xs) ys = append_by (option_map (attribute_of r.flags r.kind) r.value) (row_at kind ys) (row_at kind xs) (row_at kind (xs ++ ys)) (row_at-append kind xs ys) (nat_eq r.kind kind)

-- ---- faults

-- an attribute that gives no NOTIFICATION
pub record IsQuiet (enc : Encoding) (r : Row) : Type 0 where
  pub none : (is_copy : Bool) (value : List ℕ) → attribute_fault enc is_copy (attribute_of r.flags r.kind value) ≡ None

quiet_by : (enc : Encoding) (r : Row) (rows : List Row) (came : ℕ → Bool) → IsQuiet enc r → ((came : ℕ → Bool) → first_fault enc came (rows_attributes rows) ≡ None) → (value : Option (List ℕ)) → r.value ≡ value → first_fault enc came (row_attributes r ++ rows_attributes rows) ≡ None
quiet_by enc r rows came quiet behind None e = rw e (behind came)
quiet_by enc r rows came quiet behind (Some value) e = rw e (rw (quiet.none (came r.kind) value) (behind (with_kind came r.kind)))

pub quiet_rows : (enc : Encoding) (rows : List Row) → AllByRecursion (IsQuiet enc) rows → (came : ℕ → Bool) → first_fault enc came (rows_attributes rows) ≡ None
quiet_rows enc [] quiet came = refl
quiet_rows enc (r ∷ rows) quiet came = quiet_by enc r rows came quiet.0 (λ came. quiet_rows enc rows quiet.1 came) r.value refl
