-- The NOTIFICATION that answers an attribute field, by its sub code: the first in the order of the bytes (RFC 4271 section
-- 6.3, RFC 4760 section 7, RFC 7606 sections 3 to 5).
use Rattle.std.specs.Prelude.{ℕ, Bool, false, not, ◌==◌, ◌||◌, bit_and, if◌then◌else◌, List, [], ◌∷◌, Option, Some, None}
use Rattle.std.specs.Option.{option_or}
use Rattle.bgp_wire.specs.declared.open.Encoding.{Encoding}
use Rattle.attr_model.specs.Valid.{is_known}
use Rattle.attr_codec.specs.Cut.{Cut}
use Rattle.attr_codec.specs.Field.{Attribute}
use Rattle.attr_codec.specs.Reach.{reach_parts, unreach_parts, reach_judged, unreach_judged}

abbrev pub has_optional_bit : ℕ → Bool
has_optional_bit flags = not (bit_and flags 128 == 0)

-- The fault of one attribute. A second MP attribute of one type is 1, an unknown type without the optional bit 2. Later copies
-- of other types are dropped.
abbrev pub attribute_fault : Encoding → Bool → Attribute → Option ℕ
attribute_fault enc is_copy attribute =
    if attribute.kind == 14 then (if is_copy then Some 1 else reach_judged (reach_parts enc attribute.value))
    else if attribute.kind == 15 then (if is_copy then Some 1 else unreach_judged (unreach_parts enc attribute.value))
    else if is_known attribute.kind then None
    else if is_copy then None
    else if has_optional_bit attribute.flags then None
    else Some 2

-- the types that came, with one more
abbrev pub with_kind : (ℕ → Bool) → ℕ → ℕ → Bool
with_kind came kind other = (kind == other) || came other

-- The first fault of attributes, where `came` tells the types of those before them.
abbrev pub first_fault : Encoding → (ℕ → Bool) → List Attribute → Option ℕ
first_fault enc came [] = None
first_fault enc came (attribute ∷ rest) =
    option_or (attribute_fault enc (came attribute.kind) attribute) (first_fault enc (with_kind came attribute.kind) rest)

-- behind them, where the field isn't made of whole attributes, stands 1
abbrev pub fault_with : Encoding → (ℕ → Bool) → Cut Attribute → Option ℕ
fault_with enc came cut = option_or (first_fault enc came cut.items) (if cut.whole then None else Some 1)

abbrev pub field_fault : Encoding → Cut Attribute → Option ℕ
field_fault enc cut = fault_with enc (λ kind. false) cut
