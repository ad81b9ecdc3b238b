-- AS paths (RFC 4271 sections 4.3, 5.1.2 and 9.1.2.2). A path is the list of its segments, the latest first.
use Rattle.std.specs.Prelude.{ℕ, zero, suc, ◌-◌, List, [], ◌∷◌, length, sum_by, replicate, Option, Some, None, nat_lt, if◌then◌else◌, slice_get}
use Rattle.attr_model.specs.declared.path.Segment.{Segment}
use Rattle.attr_model.specs.declared.path.Segment.TheVariants.{Set, Sequence}

-- a set counts one, however many numbers it has
abbrev pub count_of : Segment → ℕ
count_of (Set numbers) = 1
count_of (Sequence numbers) = length numbers

abbrev pub path_length : List Segment → ℕ
path_length path = sum_by count_of path

-- the last number of a sequence; a set has none
abbrev pub last_number : Segment → Option ℕ
last_number (Set numbers) = None
last_number (Sequence numbers) = slice_get numbers (length numbers - 1)

-- The AS in which a route began, told by its last segment: the own one where no AS was passed.
abbrev pub origin_of : ℕ → Option Segment → Option ℕ
origin_of own None = Some own
origin_of own (Some segment) = last_number segment

abbrev pub origin_as : ℕ → List Segment → Option ℕ
origin_as own path = origin_of own (slice_get path (length path - 1))

-- One number more in front: into the first segment where that is a sequence with room, otherwise into
-- a sequence of its own.
abbrev pub prepended_once : ℕ → List Segment → List Segment
prepended_once asn [] = Sequence (asn ∷ []) ∷ []
prepended_once asn (Set numbers ∷ rest) = Sequence (asn ∷ []) ∷ (Set numbers ∷ rest)
prepended_once asn (Sequence numbers ∷ rest) =
    if nat_lt (length numbers) 255 then Sequence (asn ∷ numbers) ∷ rest else Sequence (asn ∷ []) ∷ (Sequence numbers ∷ rest)

abbrev pub prepended : ℕ → ℕ → List Segment → List Segment
prepended asn zero path = path
prepended asn (suc times) path = prepended_once asn (prepended asn times path)

-- the numbers of a sequence in front
abbrev pub front_numbers : List Segment → Option (List ℕ)
front_numbers [] = None
front_numbers (Set numbers ∷ rest) = None
front_numbers (Sequence numbers ∷ rest) = Some numbers

-- a sequence of equal numbers in front, or nothing for none of them
abbrev pub begun : ℕ → ℕ → List Segment → List Segment
begun asn zero path = path
begun asn (suc times) path = Sequence (replicate (suc times) asn) ∷ path
