-- The count of faults of an object of the outside: a u64 that each failure raises.
use Rattle.std.specs.Prelude.{◌≡◌, ℕ, ◌+◌, ◌≤◌, min, Result}
use Rattle.std.specs.Result.{OnOk, OnErr}

-- the greatest u64, where a count stands still
abbrev pub last_count : ℕ
last_count = 18446744073709551615

-- the count rose, or stands at its last value
abbrev pub Rose : ℕ → ℕ → Type 0
Rose old new = min (old + 1) last_count ≤ new

-- The call failed only where the count rose in it, and every other answer leaves the count as it was.
pub record CountsFailure {T E : Type 0} (old new : ℕ) (result : Result T E) : Type 0 where
  pub ok : OnOk result (new ≡ old)
  pub failed : OnErr result (Rose old new)
