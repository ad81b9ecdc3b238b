-- The first fault of a field, as a walk from the front finds it.
use Rattle.std.proofs.Common.{◌≡◌, ◌∙◌, ℕ, ◌<◌, Bool, cond, List, [], length, Option, Some, None, refl, ap}
use Rattle.std.specs.Option.{option_or}
use Rattle.bgp_wire.specs.declared.open.Encoding.{Encoding}
use Rattle.attr_codec.specs.Cut.{cut}
use Rattle.attr_codec.specs.Field.{Attribute, attribute_at}
use Rattle.attr_codec.specs.Fault.{attribute_fault, with_kind, first_fault, fault_with}
use Rattle.attr_codec.proofs.Cutting.{cut_found, cut_lost, cut_end}
use Rattle.attr_codec.proofs.Fields.{attribute_takes}

or_assoc : (x y z : Option ℕ) → option_or (option_or x y) z ≡ option_or x (option_or y z)
or_assoc None y z = refl
or_assoc (Some n) y z = refl

-- the fault of the attribute in front comes first
pub fault_step : (enc : Encoding) (came : ℕ → Bool) (bytes : List ℕ) (a : Attribute) (rest : List ℕ) → 0 < length bytes → attribute_at bytes ≡ Some (a, rest) → fault_with enc came (cut attribute_at bytes) ≡ option_or (attribute_fault enc (came a.kind) a) (fault_with enc (with_kind came a.kind) (cut attribute_at rest))
fault_step enc came bytes a rest some e =
    ap (fault_with enc came) (cut_found attribute_at attribute_takes bytes a rest some e)
    ∙ or_assoc (attribute_fault enc (came a.kind) a) (first_fault enc (with_kind came a.kind) (cut attribute_at rest).items) (cond (cut attribute_at rest).whole None (Some 1))

pub fault_here : (enc : Encoding) (came : ℕ → Bool) (bytes : List ℕ) (a : Attribute) (rest : List ℕ) (sub : ℕ) → 0 < length bytes → attribute_at bytes ≡ Some (a, rest) → attribute_fault enc (came a.kind) a ≡ Some sub → fault_with enc came (cut attribute_at bytes) ≡ Some sub
fault_here enc came bytes a rest sub some e f = fault_step enc came bytes a rest some e ∙ ap (λ o. option_or o (fault_with enc (with_kind came a.kind) (cut attribute_at rest))) f

pub fault_behind : (enc : Encoding) (came : ℕ → Bool) (bytes : List ℕ) (a : Attribute) (rest : List ℕ) → 0 < length bytes → attribute_at bytes ≡ Some (a, rest) → attribute_fault enc (came a.kind) a ≡ None → fault_with enc came (cut attribute_at bytes) ≡ fault_with enc (with_kind came a.kind) (cut attribute_at rest)
fault_behind enc came bytes a rest some e f = fault_step enc came bytes a rest some e ∙ ap (λ o. option_or o (fault_with enc (with_kind came a.kind) (cut attribute_at rest))) f

pub fault_cut : (enc : Encoding) (came : ℕ → Bool) (bytes : List ℕ) → 0 < length bytes → attribute_at bytes ≡ None → fault_with enc came (cut attribute_at bytes) ≡ Some 1
fault_cut enc came bytes some e = ap (fault_with enc came) (cut_lost attribute_at attribute_takes bytes some e)

pub fault_end : (enc : Encoding) (came : ℕ → Bool) (bytes : List ℕ) → bytes ≡ [] → fault_with enc came (cut attribute_at bytes) ≡ None
fault_end enc came bytes e = ap (λ b. fault_with enc came (cut attribute_at b)) e ∙ ap (fault_with enc came) (cut_end attribute_at)
