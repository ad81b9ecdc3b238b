-- Numbers below a limit.
use Rattle.std.proofs.Common.{◌≡◌, ℕ, ◌<◌, ◌≤◌, List, Option, Some, None, Ok, Err, refl, sym, arith}
use Rattle.std.proofs.lemmas.Option.{none-some}
use Rattle.net_base.specs.declared.number.BadNumber.{BadNumber}
use Rattle.net_base.specs.declared.number.BadNumber.TheVariants.{NotNumber, TooLarge}
use Rattle.net_base.specs.Number.{IsNumberText, ReadsNumber, number_of}
use Rattle.net_base.proofs.Numbers.{number_of_complete, number_of_sound}
use Rattle.net_base.proofs.AddrText.{none_unless}
use Rattle.event_text.specs.Grammar.{number_below}
use Rattle.std.proofs.Common.{lt-ltb, le-ltb}

is_number : (limit : ℕ) (word : List ℕ) (n : ℕ) → IsNumberText word n → n < limit → Some n ≡ number_below limit word
is_number limit word n number low = rw (number_of_complete word n number, lt-ltb n limit low) refl

pub past : (limit : ℕ) (word : List ℕ) (n : ℕ) → IsNumberText word n → limit ≤ n → None ≡ number_below limit word
past limit word n number high = rw (number_of_complete word n number, le-ltb n limit high) refl

-- a number that was read, and is below the limit
pub below : (wide limit : ℕ) (word : List ℕ) (n : ℕ) → ReadsNumber wide word (Ok n) → n < limit → Some n ≡ number_below limit word
below wide limit word n reads low = is_number limit word n reads.0 low

-- one that isn't
pub not_below : (wide limit : ℕ) (word : List ℕ) (n : ℕ) → ReadsNumber wide word (Ok n) → limit ≤ n → None ≡ number_below limit word
not_below wide limit word n reads high = past limit word n reads.0 high

-- no number that is below a greater limit
pub bad : (wide limit : ℕ) (word : List ℕ) (fault : BadNumber) → ReadsNumber wide word (Err fault) → limit ≤ wide → None ≡ number_below limit word
bad wide limit word TooLarge reads less = past limit word reads.0 reads.1 (omega (arith, reads.2))
bad wide limit word NotNumber reads less =
    rw (none_unless (number_of word) (λ n e. reads n (number_of_sound word n e))) refl
