-- A field of entries: a code, a length and a value of that many bytes, one byte each for the first two.
-- Optional parameters are such a field (RFC 4271, section 4.2), and so are capabilities (RFC 5492, section 4).
use Rattle.std.specs.Prelude.{ℕ, zero, suc, ◌==◌, if◌then◌else◌, List, [], ◌∷◌, length, Option, Some, None}
use Rattle.wire_buf.specs.Field.{◌>>=◌, number_at, bytes_at}

pub record Entry : Type 0 where
  pub code : ℕ
  pub value : List ℕ

abbrev pub entry_bytes : Entry → List ℕ
entry_bytes e = e.code ∷ length e.value ∷ e.value

-- The entry in front, and the bytes behind it.
unfoldable pub entry_at : List ℕ → Option (Entry × List ℕ)
entry_at bytes = do
  code ← number_at 1 bytes
  size ← number_at 1 code.1
  value ← bytes_at size.0 size.1
  Some (record { code = code.0; value = value.0 }, value.1)

unfoldable pub entries_in : ℕ → List ℕ → Option (List Entry)
entries_in zero bytes = if length bytes == 0 then Some [] else None
entries_in (suc n) bytes = if length bytes == 0 then Some [] else (do
  first ← entry_at bytes
  others ← entries_in n first.1
  Some (first.0 ∷ others))

-- The entries of a field, or None where the last of them passes its end.
unfoldable pub entries : List ℕ → Option (List Entry)
entries bytes = entries_in (length bytes) bytes
