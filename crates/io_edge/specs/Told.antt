-- What an object of the outside tells of itself: a list, or None, which claims nothing.
use Rattle.std.specs.Prelude.{◌≡◌, List, [], ◌∷◌, ◌++◌, Option, IfSome}
use Rattle.std.specs.Option.{option_map}

-- the entries that are told, and one more behind them
abbrev pub with_entry : {A : Type 0} → Option (List A) → A → Option (List A)
with_entry told entry = option_map (λ entries. entries ++ entry ∷ []) told

-- The entries that are told are those from before and this one. An object may stop to tell where no memory is left for
-- them.
abbrev pub StillTells : {A : Type 0} → Option (List A) → Option (List A) → A → Type 0
StillTells old new entry = IfSome new (λ _. new ≡ with_entry old entry)
