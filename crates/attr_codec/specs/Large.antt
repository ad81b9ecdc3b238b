-- One large community in front of some bytes (RFC 8092 section 3).
use Rattle.std.specs.Prelude.{ℕ, List, Option, Some}
use Rattle.wire_buf.specs.Field.{◌>>=◌, number_at}
use Rattle.attr_codec.specs.Cut.{cut}

unfoldable pub large_at : List ℕ → Option ((ℕ × ℕ × ℕ) × List ℕ)
large_at bytes = do
  administrator ← number_at 4 bytes
  first ← number_at 4 administrator.1
  second ← number_at 4 first.1
  Some ((administrator.0, first.0, second.0), second.1)

abbrev pub larges_of : List ℕ → List (ℕ × ℕ × ℕ)
larges_of bytes = (cut large_at bytes).items
