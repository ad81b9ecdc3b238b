-- The bytes of a text, each with the line and place where it stands, after lines were joined: a backslash before LF
-- and that LF go away, wherever they stand.
use Rattle.std.specs.Prelude.{ℕ, ◌+◌, Bool, true, false, ◌||◌, ◌&&◌, ◌==◌, if◌then◌else◌, List, [], ◌∷◌, Option, Some, None}

-- A byte, the line where it stands, counted from 1, and its place, counted from 0. Behind the last byte of a text
-- stands its end, which has no byte.
pub record Seen : Type 0 where
  pub byte : Option ℕ
  pub line : ℕ
  pub place : ℕ

abbrev pub is_lf : ℕ → Bool
is_lf b = b == 10

abbrev pub begins_with_lf : List ℕ → Bool
begins_with_lf [] = false
begins_with_lf (b ∷ text) = is_lf b

-- whether this byte and the first of the text behind it join two lines
abbrev pub joins : ℕ → List ℕ → Bool
joins b text = (b == 92) && begins_with_lf text

-- the line of the byte behind this one
abbrev pub line_behind : ℕ → ℕ → ℕ
line_behind line b = if is_lf b then line + 1 else line

-- a byte in front of the others, unless it goes away
abbrev pub unless_gone : Bool → Seen → List Seen → List Seen
unless_gone true seen rest = rest
unless_gone false seen rest = seen ∷ rest

-- What is left of a text that begins on this line at this place, where `behind_backslash` says that its first byte is
-- the LF of a join.
unfoldable pub joined_from : Bool → ℕ → ℕ → List ℕ → List Seen
joined_from behind_backslash line place [] = (record { byte = None; line = line; place = place }) ∷ []
joined_from behind_backslash line place (b ∷ text) =
    unless_gone (behind_backslash || joins b text) (record { byte = Some b; line = line; place = place })
    (joined_from (joins b text) (line_behind line b) (place + 1) text)

-- a whole text, and its end
abbrev pub joined : List ℕ → List Seen
joined text = joined_from false 1 0 text
