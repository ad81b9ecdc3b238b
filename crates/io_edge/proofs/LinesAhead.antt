-- The lines that are still to be answered, before and after a step of the reader.
use Rattle.std.proofs.Common.{inl, inr, ◌≡◌, ◌≢◌, ℕ, ◌+◌, ◌≤◌, ◌<◌, List, [], ◌∷◌, ◌++◌, length, Option, None, Some, IfSome, refl, ap, sym, ◌∙◌, arith, append_assoc, length-append, subst, not}
use Rattle.std.specs.List.{All}
use Rattle.std.specs.Option.{option_map}
use Rattle.std.specs.Io.KnownBytes.{IsAtEnd, prepend_known}
use Rattle.std.proofs.lemmas.Bool.Decides.{nat_tests}
use Rattle.std.proofs.lemmas.List.{append-nil}
use Rattle.std.proofs.lemmas.List.Folds.{length-prefix_len}
use Rattle.std.proofs.lemmas.List.Sums.{prefix_len-le-length}
use Rattle.io_edge.specs.FileLines.{file_limit, is_newline, lines_with_ends, fault_at, fault_of, good_lines, first_fault, lines_in, fault_in}
use Rattle.io_edge.specs.Reading.{Reading, ahead, lines_ahead, fault_ahead, Ends, EndsLine, EndsBeyond, GoesBeyond, IsUnderWay, StepFault}
use Rattle.io_edge.specs.declared.lines.LineFault.{LineFault}
use Rattle.io_edge.specs.declared.lines.LineFault.TheVariants.{NoMemory}
use Rattle.io_edge.proofs.LineLists.{lines_with_ends-line, lines_with_ends-last, lines_with_ends-append, all_in_front, all_in_front-cons, all_in_front-nil, without_end-line, without_end-last, position-more, fault_at-more}

-- a line with its LF passes the limits that its length passes
fault_of-line : (passed : ℕ) (line : List ℕ) → All (λ byte. byte ≢ 10) line
    → fault_of passed (line ++ 10 ∷ []) ≡ fault_at passed (length line) (length line + 1)
fault_of-line passed line one = rw (without_end-line line one) (rw length-append refl)

fault_of-last : (passed : ℕ) (line : List ℕ) → All (λ byte. byte ≢ 10) line
    → fault_of passed line ≡ fault_at passed (length line) (length line)
fault_of-last passed line one = rw (without_end-last line one) refl

pub lines_in-line : (passed : ℕ) (line rest : List ℕ) → All (λ byte. byte ≢ 10) line
    → fault_at passed (length line) (length line + 1) ≡ None
    → lines_in passed (line ++ 10 ∷ rest) ≡ line ∷ lines_in (passed + (length line + 1)) rest
unfolding lines_in good_lines
lines_in-line passed line rest one good =
    rw (lines_with_ends-line line rest one) (rw (fault_of-line passed line one ∙ good) (rw (without_end-line line one) (rw length-append refl)))

pub fault_in-line : (passed : ℕ) (line rest : List ℕ) → All (λ byte. byte ≢ 10) line
    → fault_at passed (length line) (length line + 1) ≡ None
    → fault_in passed (line ++ 10 ∷ rest) ≡ fault_in (passed + (length line + 1)) rest
unfolding fault_in first_fault
fault_in-line passed line rest one good =
    rw (lines_with_ends-line line rest one) (rw (fault_of-line passed line one ∙ good) (rw length-append refl))

-- a line that passes a limit is not answered
pub lines_in-bad_line : (passed : ℕ) (line rest : List ℕ) (fault : LineFault) → All (λ byte. byte ≢ 10) line
    → fault_at passed (length line) (length line + 1) ≡ Some fault → lines_in passed (line ++ 10 ∷ rest) ≡ []
unfolding lines_in good_lines
lines_in-bad_line passed line rest fault one bad =
    rw (lines_with_ends-line line rest one) (rw (fault_of-line passed line one ∙ bad) refl)

pub fault_in-bad_line : (passed : ℕ) (line rest : List ℕ) (fault : LineFault) → All (λ byte. byte ≢ 10) line
    → fault_at passed (length line) (length line + 1) ≡ Some fault → fault_in passed (line ++ 10 ∷ rest) ≡ Some fault
unfolding fault_in first_fault
fault_in-bad_line passed line rest fault one bad =
    rw (lines_with_ends-line line rest one) (rw (fault_of-line passed line one ∙ bad) refl)

-- some lines of which the first begins with these bytes
Begins : List ℕ → List (List ℕ) → Type 0
Begins front lines = (more : List ℕ) × (others : List (List ℕ)) × (lines ≡ (front ++ more) ∷ others)

begins-all_in_front : (byte : ℕ) (front : List ℕ) (lines : List (List ℕ)) → Begins (byte ∷ front) (all_in_front (byte ∷ front) lines)
unfolding Begins
begins-all_in_front byte front [] = ([], [], all_in_front-nil byte front ∙ ap (λ l. l ∷ []) (sym (append-nil (byte ∷ front))))
begins-all_in_front byte front (line ∷ lines) = (line, lines, all_in_front-cons (byte ∷ front) line lines)

begins-lines : (byte : ℕ) (front bytes : List ℕ) → All (λ b. b ≢ 10) (byte ∷ front)
    → Begins (byte ∷ front) (lines_with_ends ((byte ∷ front) ++ bytes))
begins-lines byte front bytes one =
    let P : List (List ℕ) → Type 0 = λ lines. Begins (byte ∷ front) lines in
    subst P (sym (lines_with_ends-append (byte ∷ front) bytes one)) (begins-all_in_front byte front (lines_with_ends bytes))

fault_of-more : (passed : ℕ) (front more : List ℕ) (fault : LineFault) → passed ≤ file_limit → All (λ byte. byte ≢ 10) front
    → fault_at passed (length front) (length front) ≡ Some fault → fault_of passed (front ++ more) ≡ Some fault
fault_of-more passed front more fault within one bad =
    let up = position-more front more one in
    let text = length-prefix_len (λ b. not (is_newline b)) (front ++ more) in
    let le = prefix_len-le-length (λ b. not (is_newline b)) (front ++ more) in
    fault_at-more passed (length front) _ _ fault within (omega (arith, text, up)) (omega (arith, text, le)) bad

pub lines_in-beyond : (passed byte : ℕ) (front bytes : List ℕ) (fault : LineFault) → passed ≤ file_limit → All (λ b. b ≢ 10) (byte ∷ front)
    → fault_at passed (length (byte ∷ front)) (length (byte ∷ front)) ≡ Some fault → lines_in passed ((byte ∷ front) ++ bytes) ≡ []
unfolding lines_in good_lines Begins
lines_in-beyond passed byte front bytes fault within one bad =
    let lines = begins-lines byte front bytes one in
    rw lines.2 (rw (fault_of-more passed (byte ∷ front) lines.0 fault within one bad) refl)

pub fault_in-beyond : (passed byte : ℕ) (front bytes : List ℕ) (fault : LineFault) → passed ≤ file_limit → All (λ b. b ≢ 10) (byte ∷ front)
    → fault_at passed (length (byte ∷ front)) (length (byte ∷ front)) ≡ Some fault → fault_in passed ((byte ∷ front) ++ bytes) ≡ Some fault
unfolding fault_in first_fault Begins
fault_in-beyond passed byte front bytes fault within one bad =
    let lines = begins-lines byte front bytes one in
    rw lines.2 (rw (fault_of-more passed (byte ∷ front) lines.0 fault within one bad) refl)

-- a last line without an LF
pub lines_in-last : (passed byte : ℕ) (front : List ℕ) → All (λ b. b ≢ 10) (byte ∷ front)
    → fault_at passed (length (byte ∷ front)) (length (byte ∷ front)) ≡ None → lines_in passed (byte ∷ front) ≡ (byte ∷ front) ∷ []
unfolding lines_in good_lines
lines_in-last passed byte front one good =
    rw (lines_with_ends-last byte front one) (rw (fault_of-last passed (byte ∷ front) one ∙ good) (rw (without_end-last (byte ∷ front) one) refl))

pub fault_in-last : (passed byte : ℕ) (front : List ℕ) → All (λ b. b ≢ 10) (byte ∷ front)
    → fault_at passed (length (byte ∷ front)) (length (byte ∷ front)) ≡ None → fault_in passed (byte ∷ front) ≡ None
unfolding fault_in first_fault
fault_in-last passed byte front one good =
    rw (lines_with_ends-last byte front one) (rw (fault_of-last passed (byte ∷ front) one ∙ good) refl)

pub lines_in-nil : (passed : ℕ) → lines_in passed [] ≡ []
unfolding lines_in good_lines lines_with_ends
lines_in-nil passed = refl

pub fault_in-nil : (passed : ℕ) → fault_in passed [] ≡ None
unfolding fault_in first_fault lines_with_ends
fault_in-nil passed = refl

-- nothing was answered between the two states
pub lines_ahead-same : (start now : Reading) (before left : Option (List ℕ)) → now.passed ≡ start.passed
    → ahead now left ≡ ahead start before → lines_ahead now left ≡ lines_ahead start before
unfolding lines_ahead
lines_ahead-same start now before left passed bytes = rw passed (rw bytes refl)

pub fault_ahead-same : (start now : Reading) (before left : Option (List ℕ)) → now.passed ≡ start.passed
    → ahead now left ≡ ahead start before → fault_ahead now left ≡ fault_ahead start before
unfolding fault_ahead
fault_ahead-same start now before left passed bytes = rw passed (rw bytes refl)

-- the bytes ahead of a line that ends in the buffer
ahead-line : (old new : Reading) (line xs : List ℕ) → EndsLine old new line
    → (old.begun ++ old.buffered) ++ xs ≡ line ++ 10 ∷ ((new.begun ++ new.buffered) ++ xs)
ahead-line old new line xs ends =
    rw ends.bytes (rw ends.begun (append_assoc line (10 ∷ new.buffered) xs))

pub lines_ahead-line : (old new : Reading) (line : List ℕ) (left : Option (List ℕ)) → EndsLine old new line
    → lines_ahead old left ≡ option_map (λ others. line ∷ others) (lines_ahead new left)
unfolding lines_ahead
lines_ahead-line old new line None ends = refl
lines_ahead-line old new line (Some xs) ends =
    ap Some (ap (lines_in old.passed) (ahead-line old new line xs ends) ∙ lines_in-line old.passed line _ ends.one ends.good
    ∙ ap (λ n. line ∷ lines_in n ((new.begun ++ new.buffered) ++ xs)) (sym ends.passed))

pub fault_ahead-line : (old new : Reading) (line : List ℕ) (left : Option (List ℕ)) → EndsLine old new line
    → fault_ahead new left ≡ fault_ahead old left
unfolding fault_ahead
fault_ahead-line old new line None ends = refl
fault_ahead-line old new line (Some xs) ends =
    ap Some (sym (ap (fault_in old.passed) (ahead-line old new line xs ends) ∙ fault_in-line old.passed line _ ends.one ends.good
    ∙ ap (λ n. fault_in n ((new.begun ++ new.buffered) ++ xs)) (sym ends.passed)))

-- no byte is ahead
pub ends-nothing : (old : Reading) (left : Option (List ℕ)) → old.begun ≡ [] → old.buffered ≡ [] → IsAtEnd left
    → Ends (lines_ahead old left) (fault_ahead old left) None
unfolding lines_ahead fault_ahead
ends-nothing old None begun buffered end = record { no_line = tt; then = tt }
ends-nothing old (Some xs) begun buffered end = record {
  no_line = rw begun (rw buffered (rw end (lines_in-nil old.passed)));
  then = rw begun (rw buffered (rw end (fault_in-nil old.passed)));
}

-- a line under way within the limits
good-under_way : (old : Reading) → IsUnderWay old → fault_at old.passed (length old.begun) (length old.begun) ≡ None
good-under_way old under = let line = under.line in let file = under.file in grind (arith, nat_tests)

-- a last line without an LF
last-lines : (passed : ℕ) (line : List ℕ) → 0 < length line → All (λ byte. byte ≢ 10) line
    → fault_at passed (length line) (length line) ≡ None → lines_in passed line ≡ line ∷ []
last-lines passed [] some one good = absurd (omega arith)
last-lines passed (byte ∷ front) some one good = lines_in-last passed byte front one good

last-fault : (passed : ℕ) (line : List ℕ) → All (λ byte. byte ≢ 10) line
    → fault_at passed (length line) (length line) ≡ None → fault_in passed line ≡ None
last-fault passed [] one good = fault_in-nil passed
last-fault passed (byte ∷ front) one good = fault_in-last passed byte front one good

-- the bytes ahead where none come any more
ahead-last : (old : Reading) (xs : List ℕ) → old.buffered ≡ [] → xs ≡ [] → (old.begun ++ old.buffered) ++ xs ≡ old.begun
ahead-last old xs buffered end = rw buffered (rw end (append-nil (old.begun ++ []) ∙ append-nil old.begun))

pub lines_ahead-last : (old new : Reading) (line : List ℕ) (left : Option (List ℕ)) → IsUnderWay old → line ≡ old.begun → 0 < length line
    → old.buffered ≡ [] → new.begun ≡ [] → new.buffered ≡ [] → IsAtEnd left
    → lines_ahead old left ≡ option_map (λ others. line ∷ others) (lines_ahead new left)
unfolding lines_ahead
lines_ahead-last old new line None under is some buffered begun' buffered' end = refl
lines_ahead-last old new line (Some xs) under is some buffered begun' buffered' end =
    let nonempty : 0 < length old.begun = subst (λ (l : List ℕ). 0 < length l) is some in
    let before = ap (lines_in old.passed) (ahead-last old xs buffered end)
    ∙ last-lines old.passed old.begun nonempty under.one (good-under_way old under) in
    let after : lines_in new.passed ((new.begun ++ new.buffered) ++ xs) ≡ [] = rw begun' (rw buffered' (rw end (lines_in-nil new.passed))) in
    ap Some (before ∙ rw after (rw is refl))

pub fault_ahead-last : (old new : Reading) (left : Option (List ℕ)) → IsUnderWay old → old.buffered ≡ [] → new.begun ≡ [] → new.buffered ≡ [] → IsAtEnd left → fault_ahead new left ≡ fault_ahead old left
unfolding fault_ahead
fault_ahead-last old new None under buffered begun' buffered' end = refl
fault_ahead-last old new (Some xs) under buffered begun' buffered' end =
    let before = ap (fault_in old.passed) (ahead-last old xs buffered end) ∙ last-fault old.passed old.begun under.one (good-under_way old under) in
    let after : fault_in new.passed ((new.begun ++ new.buffered) ++ xs) ≡ None = rw begun' (rw buffered' (rw end (fault_in-nil new.passed))) in
    ap Some (after ∙ sym before)

-- a line that ends in the buffer passes a limit
pub ends-bad_line : (old : Reading) (fault : LineFault) (left : Option (List ℕ)) → EndsBeyond old fault
    → Ends (lines_ahead old left) (fault_ahead old left) (Some fault)
unfolding lines_ahead fault_ahead
ends-bad_line old fault None bad = record { no_line = tt; then = tt }
ends-bad_line old fault (Some xs) bad =
    let is : (old.begun ++ old.buffered) ++ xs ≡ bad.line ++ 10 ∷ (bad.rest ++ xs) =
    rw bad.bytes (append_assoc bad.line (10 ∷ bad.rest) xs) in record {
      no_line = rw is (lines_in-bad_line old.passed bad.line _ fault bad.one bad.beyond);
      then = rw is (fault_in-bad_line old.passed bad.line _ fault bad.one bad.beyond);
    }

-- nothing passes no limit
some-beyond : (passed : ℕ) (fault : LineFault) → passed ≤ file_limit → fault_at passed 0 0 ≡ Some fault → ⊥
some-beyond passed fault within bad = grind (arith, nat_tests, bad)

beyond-lines : (passed : ℕ) (bytes xs : List ℕ) (fault : LineFault) → passed ≤ file_limit → All (λ byte. byte ≢ 10) bytes
    → fault_at passed (length bytes) (length bytes) ≡ Some fault
    → (lines_in passed (bytes ++ xs) ≡ []) × (fault_in passed (bytes ++ xs) ≡ Some fault)
beyond-lines passed [] xs fault within one bad = absurd (some-beyond passed fault within bad)
beyond-lines passed (byte ∷ front) xs fault within one bad =
    (lines_in-beyond passed byte front xs fault within one bad, fault_in-beyond passed byte front xs fault within one bad)

-- a line that goes on behind the buffer passes a limit
pub ends-beyond : (old : Reading) (fault : LineFault) (left : Option (List ℕ)) → old.passed ≤ file_limit → GoesBeyond old fault
    → Ends (lines_ahead old left) (fault_ahead old left) (Some fault)
unfolding lines_ahead fault_ahead
ends-beyond old fault None within bad = record { no_line = tt; then = tt }
ends-beyond old fault (Some xs) within bad =
    let both = beyond-lines old.passed (old.begun ++ old.buffered) xs fault within bad.one bad.beyond in
    record { no_line = both.0; then = both.1 }

prepend_known-append : (front bytes : List ℕ) (left : Option (List ℕ))
    → prepend_known (front ++ bytes) left ≡ prepend_known front (prepend_known bytes left)
prepend_known-append front bytes None = refl
prepend_known-append front bytes (Some xs) = ap Some (append_assoc front bytes xs)

-- what is ahead stays what it was when bytes come from the source into the buffer
pub ahead-filled : (old new : Reading) (before left : Option (List ℕ)) → new.begun ≡ old.begun
    → prepend_known old.buffered before ≡ prepend_known new.buffered left → ahead new left ≡ ahead old before
ahead-filled old new before left begun bytes =
    rw begun (prepend_known-append old.begun new.buffered left ∙ ap (prepend_known old.begun) (sym bytes)
    ∙ sym (prepend_known-append old.begun old.buffered before))

pub ends-same : (start now : Reading) (before left : Option (List ℕ)) (comes : Option LineFault) → now.passed ≡ start.passed
    → ahead now left ≡ ahead start before → Ends (lines_ahead now left) (fault_ahead now left) comes
    → Ends (lines_ahead start before) (fault_ahead start before) comes
ends-same start now before left comes passed bytes ends =
    rw (sym (lines_ahead-same start now before left passed bytes)) (rw (sym (fault_ahead-same start now before left passed bytes)) ends)

-- a step that passes a limit
pub ends-step : (old : Reading) (fault : LineFault) (left : Option (List ℕ)) → IsUnderWay old → StepFault old fault → (fault ≡ NoMemory → ⊥)
    → Ends (lines_ahead old left) (fault_ahead old left) (Some fault)
ends-step old fault left under (inl memory) other = absurd (other memory)
ends-step old fault left under (inr (inl bad)) other = ends-bad_line old fault left bad
ends-step old fault left under (inr (inr bad)) other =
    let file = under.file in ends-beyond old fault left (omega arith) bad

-- a last line, if there is one
pub last-line : (start old new : Reading) (before left : Option (List ℕ)) (last : Option (List ℕ)) → old.passed ≡ start.passed
    → ahead old left ≡ ahead start before → IsUnderWay old → old.buffered ≡ [] → IsAtEnd left
    → IfSome last (λ line. (line ≡ old.begun) × (0 < length line))
    → new ≡ record { passed = old.passed + length old.begun; begun = []; buffered = []; spent = old.spent }
    → IfSome last (λ line. lines_ahead start before ≡ option_map (λ others. line ∷ others) (lines_ahead new left))
last-line start old new before left None passed bytes under buffered end some is = tt
last-line start old new before left (Some line) passed bytes under buffered end some is =
    sym (lines_ahead-same start old before left passed bytes)
    ∙ lines_ahead-last old new line left under some.0 some.1 buffered (ap (λ (r : Reading). r.begun) is) (ap (λ (r : Reading). r.buffered) is) end

pub last-no_fault : (start old new : Reading) (before left : Option (List ℕ)) → old.passed ≡ start.passed
    → ahead old left ≡ ahead start before → IsUnderWay old → old.buffered ≡ [] → IsAtEnd left
    → new ≡ record { passed = old.passed + length old.begun; begun = []; buffered = []; spent = old.spent }
    → fault_ahead new left ≡ fault_ahead start before
last-no_fault start old new before left passed bytes under buffered end is =
    fault_ahead-last old new left under buffered (ap (λ (r : Reading). r.begun) is) (ap (λ (r : Reading). r.buffered) is) end
    ∙ fault_ahead-same start old before left passed bytes
