-- What a reader has left of a text.
use Rattle.std.specs.Prelude.{ℕ, Bool, true, false, List, [], ◌∷◌}
use Rattle.conf_tree.specs.Joined.{Seen, joined_from, joins}

-- nothing behind the end of the text
abbrev pub left_of : Bool → ℕ → ℕ → List ℕ → List Seen
left_of true line place text = []
left_of false line place text = joined_from false line place text

-- whether two lines are joined in front
abbrev pub begins_join : List ℕ → Bool
begins_join [] = false
begins_join (b ∷ text) = joins b text
