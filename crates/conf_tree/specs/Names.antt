-- The names of a configuration and of its macros: a letter, then letters, digits, `_` or `-`.
use Rattle.std.specs.Prelude.{ℕ, Bool, false, ◌&&◌, ◌||◌, ◌==◌, List, [], ◌∷◌}
use Rattle.std.specs.List.{list_all}
use Rattle.std.specs.Char.{is_ascii_alphabetic, is_ascii_alphanumeric}

-- a byte of a name behind its first letter
abbrev pub is_name_byte : ℕ → Bool
is_name_byte b = is_ascii_alphanumeric b || ((b == 95) || (b == 45))

unfoldable pub is_name : List ℕ → Bool
is_name [] = false
is_name (b ∷ text) = is_ascii_alphabetic b && list_all is_name_byte text
