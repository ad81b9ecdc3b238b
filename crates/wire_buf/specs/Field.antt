-- Fields at the front of a list of bytes, in network order: the highest byte first.
use Rattle.std.specs.Prelude.{◌≡◌, ℕ, List, length, take, drop, Option, Some, None, Result, Ok, Err, option_and_then, nat_lt, if◌then◌else◌}
use Rattle.byteorder.specs.Endian.{big_number}
use Rattle.wire_buf.specs.declared.cursor.Short.{Short}

-- A `do` block goes on where each of its lines gives something, as `?` does.
infixl 10 ◌>>=◌
abbrev pub ◌>>=◌ : {A B : Type 0} → Option A → (A → Option B) → Option B
o >>= f = option_and_then f o

-- The number in the first n bytes and the bytes behind it; None where there are fewer than n.
abbrev pub number_at : ℕ → List ℕ → Option (ℕ × List ℕ)
number_at n bytes = if nat_lt (length bytes) n then None else Some (big_number n bytes, drop n bytes)

-- The first n bytes and the bytes behind them; None where there are fewer than n.
abbrev pub bytes_at : ℕ → List ℕ → Option (List ℕ × List ℕ)
bytes_at n bytes = if nat_lt (length bytes) n then None else Some (take n bytes, drop n bytes)

-- A read by `field` of a cursor over the bytes `old` leaves the bytes `new`. It is Short exactly where
-- `field` gives nothing, and then nothing is taken.
abbrev pub Reads : {X : Type 0} → (List ℕ → Option (X × List ℕ)) → List ℕ → List ℕ → Result X Short → Type 0
Reads field old new (Ok x) = field old ≡ Some (x, new)
Reads field old new (Err short) = (field old ≡ None) × (new ≡ old)
