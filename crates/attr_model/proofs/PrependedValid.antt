-- A path stays valid where numbers are put in front of it.
use Rattle.std.proofs.Common.{◌≡◌, ℕ, zero, suc, ◌<◌, Bool, true, false, List, [], ◌∷◌, length, Result, Ok, Err, OnOk, OnErr, refl, sym, subst, arith}
use Rattle.std.specs.Prelude.{nat_lt, if◌then◌else◌}
use Rattle.attr_model.specs.declared.path.Segment.{Segment}
use Rattle.attr_model.specs.declared.path.Segment.TheVariants.{Set, Sequence}
use Rattle.attr_model.specs.Path.{prepended_once, prepended}
use Rattle.attr_model.specs.Valid.{IsPath, IsSegment}

-- a sequence of one number
alone : (asn : ℕ) → IsSegment (Sequence (asn ∷ []))
alone asn = record { some = omega arith; counted = omega arith }

-- one number more in a sequence with room for it
longer : (asn : ℕ) (numbers : List ℕ) → length numbers < 255 → IsSegment (Sequence (asn ∷ numbers))
longer asn numbers room = record { some = omega arith; counted = omega arith }

pub once_valid : (asn : ℕ) (path : List Segment) → IsPath path → IsPath (prepended_once asn path)
once_valid asn [] valid = (alone asn, tt)
once_valid asn (Set numbers ∷ rest) valid = (alone asn, valid)
once_valid asn (Sequence numbers ∷ rest) valid = by (nat_lt (length numbers) 255) refl
  where
    by : (room : Bool) → nat_lt (length numbers) 255 ≡ room → IsPath (if room then Sequence (asn ∷ numbers) ∷ rest else Sequence (asn ∷ []) ∷ (Sequence numbers ∷ rest))
    by true is = (longer asn numbers (grind (arith, is)), valid.1)
    by false is = (alone asn, valid)

pub prepended_valid : (asn times : ℕ) (path : List Segment) → IsPath path → IsPath (prepended asn times path)
prepended_valid asn zero path valid = valid
prepended_valid asn (suc times) path valid = once_valid asn (prepended asn times path) (prepended_valid asn times path valid)

-- whether memory is refused or not
pub outcome_valid : {E : Type 0} (outcome : Result (Unit {0}) E) (asn times : ℕ) (old new : List Segment) → OnOk outcome (new ≡ prepended asn times old) → OnErr outcome (new ≡ old) → IsPath old → IsPath new
outcome_valid (Ok done) asn times old new ok err valid = subst IsPath (sym ok) (prepended_valid asn times old valid)
outcome_valid (Err refused) asn times old new ok err valid = subst IsPath (sym err) valid
