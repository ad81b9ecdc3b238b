-- Where the only set has no entries, no set has any.
use Rattle.std.proofs.Common.{◌≡◌, ℕ, zero, suc, List, [], ◌∷◌, refl}
use Rattle.std.specs.Prelude.{slice_get}
use Rattle.std.specs.Option.{option_map_or}

pub no_entries : {S A : Type 0} (entries : S → List A) (only : S) → entries only ≡ [] → (at : ℕ) → option_map_or entries (slice_get (only ∷ []) at) [] ≡ []
no_entries entries only h zero = h
no_entries entries only h (suc at) = refl
