-- The first attribute of a type, as a walk from the front finds it.
use Rattle.std.proofs.Common.{◌≡◌, ◌∙◌, ℕ, List, Some, None, refl, ap, eq-eqb}
use Rattle.std.proofs.lemmas.Bool.{ne_eqb}
use Rattle.attr_codec.specs.Field.{Attribute, attribute_at, attributes_of, first_of}
use Rattle.attr_codec.proofs.Cutting.{items_end, items_found}
use Rattle.attr_codec.proofs.Fields.{attribute_takes}

pub first_here : (kind : ℕ) (bytes : List ℕ) (a : Attribute) (rest : List ℕ) → attribute_at bytes ≡ Some (a, rest) → a.kind ≡ kind → first_of kind (attributes_of bytes) ≡ Some a
first_here kind bytes a rest e is = ap (first_of kind) (items_found attribute_at attribute_takes bytes a rest e) ∙ rw (eq-eqb a.kind kind is) refl

pub first_behind : (kind : ℕ) (bytes : List ℕ) (a : Attribute) (rest : List ℕ) → attribute_at bytes ≡ Some (a, rest) → (a.kind ≡ kind → ⊥) → first_of kind (attributes_of bytes) ≡ first_of kind (attributes_of rest)
first_behind kind bytes a rest e other = ap (first_of kind) (items_found attribute_at attribute_takes bytes a rest e) ∙ rw (ne_eqb a.kind kind other) refl

pub first_nowhere : (kind : ℕ) (bytes : List ℕ) → attribute_at bytes ≡ None → first_of kind (attributes_of bytes) ≡ None
first_nowhere kind bytes e = ap (first_of kind) (items_end attribute_at attribute_takes bytes e)
