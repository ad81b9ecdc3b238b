-- What a reader of words answers.
use Rattle.std.specs.Prelude.{◌≡◌, ℕ, List, Option, Some, None, Result, Ok, Err}
use Rattle.event_text.specs.declared.words.Unread.{Unread}
use Rattle.event_text.specs.declared.words.Unread.TheVariants.{Outside, NoMemory}

-- A production of the words `old` is read, and leaves the words `new`. It is Outside exactly where the production gives
-- nothing.
abbrev pub Reads : {X : Type 0} → (List (List ℕ) → Option (X × List (List ℕ))) → List (List ℕ) → List (List ℕ) → Result X Unread → Type 0
Reads production old new (Ok x) = production old ≡ Some (x, new)
Reads production old new (Err Outside) = production old ≡ None
Reads production old new (Err NoMemory) = Unit {0}

-- what is defined is read, and it is Outside exactly where nothing is
abbrev pub Gives : {X : Type 0} → Option X → Result X Unread → Type 0
Gives defined (Ok x) = defined ≡ Some x
Gives defined (Err Outside) = defined ≡ None
Gives defined (Err NoMemory) = Unit {0}
