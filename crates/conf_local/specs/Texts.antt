-- The tokens of a text: the last one ends the text, and no other does.
use Rattle.std.specs.Prelude.{◌≡◌, ◌⊎◌, Bool, true, false, ◌&&◌, ◌==◌, List, [], ◌∷◌}
use Rattle.conf_tree.specs.declared.token.Token.{Token}
use Rattle.conf_tree.specs.Kinds.{is_line_end}

-- the end of a text is a line end of no byte
abbrev pub ends_text : Token → Bool
ends_text token = is_line_end token.kind && (token.start == token.end)

abbrev pub IsText : List Token → Type 0
IsText [] = ⊥
IsText (token ∷ tokens) = ((ends_text token ≡ true) × (tokens ≡ [])) ⊎ ((ends_text token ≡ false) × IsText tokens)
