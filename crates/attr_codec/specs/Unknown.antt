-- Attributes of unknown types (RFC 4271 section 5): the optional transitive ones are kept, to be sent on.
use Rattle.std.specs.Prelude.{ℕ, zero, suc, Bool, not, ◌==◌, ◌&&◌, bit_and, if◌then◌else◌, List, [], ◌∷◌, ◌++◌, Option, Some, None}
use Rattle.attr_model.specs.Valid.{is_known}
use Rattle.attr_codec.specs.Field.{Attribute, first_of}

-- the bits for optional and transitive are set
abbrev pub is_kept : Attribute → Bool
is_kept attribute = not (is_known attribute.kind) && (bit_and attribute.flags 192 == 192)

abbrev pub kept_of : Option Attribute → List (ℕ × List ℕ)
kept_of None = []
kept_of (Some attribute) = if is_kept attribute then (attribute.kind, attribute.value) ∷ [] else []

-- those whose first copy is kept, by type, of the types below n
unfoldable pub unknown_below : ℕ → List Attribute → List (ℕ × List ℕ)
unknown_below zero attributes = []
unknown_below (suc n) attributes = unknown_below n attributes ++ kept_of (first_of n attributes)

unfoldable pub unknown_of : List Attribute → List (ℕ × List ℕ)
unknown_of attributes = unknown_below 256 attributes
