-- Bytes that are moved out of a list.
use Rattle.std.proofs.Common.{◌≡◌, ℕ, ◌+◌, List, ◌++◌, take, drop, sym}
use Rattle.std.proofs.lemmas.List.{take-append-drop, drop-drop}

-- the moved bytes, and then those behind them, are what was left
pub drop-moved : (bytes buffer : List ℕ) (at n : ℕ) → take n buffer ≡ take n (drop at bytes)
    → drop at bytes ≡ take n buffer ++ drop (at + n) bytes
drop-moved bytes buffer at n moved =
    rw moved (rw (sym (drop-drop n at bytes)) (sym (take-append-drop n (drop at bytes))))
