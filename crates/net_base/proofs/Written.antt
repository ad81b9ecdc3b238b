-- Texts that are put behind one another.
use Rattle.std.proofs.Common.{◌≡◌, ℕ, List, ◌++◌, Option, None, Some}
use Rattle.std.specs.Fmt.{WritesText, AppendsText}
use Rattle.std.proofs.lemmas.Fmt.{contents_after_writes}

-- the bytes after some writes are the bytes before, followed by what they wrote
pub appends_text : (old new : List ℕ) (text : Option (List ℕ)) → WritesText (λ before more after. after ≡ before ++ more) old text new → AppendsText old new text
appends_text old new None writes = tt
appends_text old new (Some text) writes =
    contents_after_writes (λ before more after. after ≡ before ++ more) (λ bytes. bytes) (λ before more after e. e) old text new writes
