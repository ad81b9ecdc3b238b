-- A decimal number without sign and without leading zeros.
use Rattle.std.specs.Prelude.{◌≡◌, ℕ, ◌<◌, ◌≤◌, Bool, ◌&&◌, not, List, length, Option, None, Some, Result, Ok, Err, slice_index, ◌==◌, nat_lt, if◌then◌else◌}
use Rattle.std.specs.List.{list_all}
use Rattle.std.specs.Char.{is_ascii_digit}
use Rattle.std.specs.Str.Parse.{digits_value}
use Rattle.std.specs.Net.Grammar.{IsNumber}
use Rattle.net_base.specs.declared.number.BadNumber.{BadNumber}
use Rattle.net_base.specs.declared.number.BadNumber.TheVariants.{NotNumber, TooLarge}

-- digits alone that write n, of which the first is `0` only in `0` itself
abbrev pub IsNumberText : List ℕ → ℕ → Type 0
IsNumberText text n = IsNumber 10 text n × (slice_index text 0 ≡ 48 → length text ≡ 1)

-- the text is a number below the limit, one above, or none
abbrev pub ReadsNumber : ℕ → List ℕ → Result ℕ BadNumber → Type 0
ReadsNumber limit text (Ok n) = IsNumberText text n × (n < limit)
ReadsNumber limit text (Err TooLarge) = (n : ℕ) × IsNumberText text n × (limit ≤ n)
ReadsNumber limit text (Err NotNumber) = (n : ℕ) → ¬ (IsNumberText text n)

-- ---- the same, computed

-- digits alone, with no leading zero unless it is the whole
abbrev pub is_number : List ℕ → Bool
is_number text =
    nat_lt 0 (length text) && not (nat_lt 1 (length text) && (slice_index text 0 == 48))
    && list_all is_ascii_digit text

-- the number that the text is, however large
unfoldable pub number_of : List ℕ → Option ℕ
number_of text = if is_number text then Some (digits_value 10 text) else None

abbrev pub below : ℕ → Option ℕ → Result ℕ BadNumber
below limit None = Err NotNumber
below limit (Some n) = if nat_lt n limit then Ok n else Err TooLarge

-- the number that the text is, if it is below the limit
unfoldable pub read_number : ℕ → List ℕ → Result ℕ BadNumber
read_number limit text = below limit (number_of text)
