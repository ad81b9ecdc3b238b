-- What a loop takes of a run of bytes.
use Rattle.std.proofs.Common.{◌≡◌, ◌∙◌, ℕ, ◌+◌, Bool, true, false, List, [], ◌∷◌, ◌++◌, Option, Some, None, MatchOption, is_some, ap, sym, append_assoc, append-nil}
use Rattle.conf_tree.specs.Joined.{Seen}
use Rattle.conf_tree.specs.Cuts.{behind, bytes_of, end_of, token_of}
use Rattle.conf_tree.proofs.Runs.{behind_on, behind_off}
use Rattle.conf_tree.specs.declared.token.TokenKind.{TokenKind}
use Rattle.conf_lex.specs.declared.run.Taken.{Taken}
use Rattle.conf_lex.specs.declared.reader.Seen as own
use Rattle.conf_lex.specs.Views.{seen_of}
use Rattle.conf_lex.specs.Parts.{taken_behind, token_with}

bytes_first : (byte : Option ℕ) (line place : ℕ) (rest : List Seen) (text : List ℕ) → (text ++ bytes_of (record { byte = byte; line = line; place = place } ∷ [])) ++ bytes_of rest ≡ text ++ bytes_of (record { byte = byte; line = line; place = place } ∷ rest)
bytes_first None line place rest text = ap (λ (front : List ℕ). front ++ bytes_of rest) (append-nil text)
bytes_first (Some b) line place rest text = append_assoc text (b ∷ []) (bytes_of rest)

-- bytes behind bytes
pub taken_more : (taken : Taken) (a : Seen) (rest : List Seen) → taken_behind (taken_behind taken (a ∷ [])) rest ≡ taken_behind taken (a ∷ rest)
taken_more taken a rest = ap (λ text. record { text = text; end = end_of (a.place + 1) rest }) (bytes_first a.byte a.line a.place rest taken.text)

pub taken_none : (taken : Taken) → taken_behind taken [] ≡ taken
taken_none taken = ap (λ text. record { text = text; end = taken.end }) (append-nil taken.text)

-- a loop that leaves the bytes of a run behind
pub passed_on : (p : List Seen → Bool) (old new : List Seen) (r : Option own.Seen) → MatchOption r ((p old ≡ false) × (new ≡ old)) (λ seen. (p old ≡ true) × (old ≡ seen_of seen ∷ new)) → is_some r ≡ true → behind p new ≡ behind p old
passed_on p old new None h e = absurd (cc)
passed_on p old new (Some seen) h e = sym (behind_on p old (seen_of seen) new h.1 h.0)

pub passed_off : (p : List Seen → Bool) (old new : List Seen) (r : Option own.Seen) → MatchOption r ((p old ≡ false) × (new ≡ old)) (λ seen. (p old ≡ true) × (old ≡ seen_of seen ∷ new)) → is_some r ≡ false → new ≡ behind p old
passed_off p old new None h e = h.1 ∙ sym (behind_off p old h.0)
passed_off p old new (Some seen) h e = absurd (cc)

-- the token of a first byte and those behind it
pub token_taken : (kind : TokenKind) (seen : Seen) (more : List Seen) → token_with kind seen (taken_behind (taken_behind (record { text = []; end = seen.place }) (seen ∷ [])) more) ≡ token_of kind seen more
token_taken kind seen more = ap (token_with kind seen) (taken_more (record { text = []; end = seen.place }) seen more)
