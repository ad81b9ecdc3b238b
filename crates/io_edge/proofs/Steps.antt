-- A step of the reader of lines, over its state alone.
use Rattle.std.proofs.Common.{inl, inr, suc, ◌≡◌, ◌≢◌, ℕ, ◌+◌, ◌-◌, ◌≤◌, ◌<◌, List, [], ◌∷◌, ◌++◌, length, take, drop, None, Some, refl, ap, sym, ◌∙◌, arith, append_assoc, length-append}
use Rattle.std.specs.List.{All}
use Rattle.std.proofs.lemmas.Bool.Decides.{nat_tests}
use Rattle.std.proofs.lemmas.List.{drop-drop, drop-take, length-take, length-take-le}
use Rattle.std.proofs.lemmas.List.Elements.{All-append}
use Rattle.io_edge.specs.FileLines.{fault_at}
use Rattle.io_edge.specs.Reading.{Reading, IsFirstNewline, EndsLine, EndsBeyond, StepFault, KeepsBytes, IsBeyond, HoldsTooMany}
use Rattle.io_edge.specs.declared.lines.LineFault.{LineFault}
use Rattle.io_edge.specs.declared.lines.LineFault.TheVariants.{ReadFault, LineTooLong, FileTooLong, NoMemory}

-- the bytes from `start` to `end` without their first n
pub drop-buffered : (buffer : List ℕ) (start end n : ℕ) → start + n ≤ end
    → take (end - (start + n)) (drop (start + n) buffer) ≡ drop n (take (end - start) (drop start buffer))
drop-buffered buffer start end n within =
    let e : end - start ≡ n + (end - (start + n)) = omega arith in
    rw e (rw drop-take (rw drop-drop refl))

-- the line that begins before the bytes and ends at their first LF
pub line-around : (begun bytes : List ℕ) (at : ℕ) → IsFirstNewline bytes at
    → begun ++ bytes ≡ (begun ++ take at bytes) ++ 10 ∷ drop (at + 1) bytes
line-around begun bytes at first =
    ap (λ xs. begun ++ xs) first.around ∙ sym (append_assoc begun (take at bytes) (10 ∷ drop (at + 1) bytes))

pub length-line : (begun bytes : List ℕ) (at : ℕ) → IsFirstNewline bytes at
    → length (begun ++ take at bytes) ≡ length begun + at
length-line begun bytes at first =
    let within : at < length bytes = first.within in
    let le : at ≤ length bytes = omega arith in
    length-append begun (take at bytes) ∙ ap (λ n. length begun + n) (length-take-le at bytes le)

-- that line passes a limit
pub ends_beyond : (old : Reading) (at : ℕ) (fault : LineFault) → All (λ byte. byte ≢ 10) old.begun → IsFirstNewline old.buffered at
    → fault_at old.passed (length old.begun + at) (length old.begun + at + 1) ≡ Some fault → EndsBeyond old fault
ends_beyond old at fault one first beyond = record {
  line = old.begun ++ take at old.buffered;
  rest = drop (at + 1) old.buffered;
  bytes = line-around old.begun old.buffered at first;
  one = All-append (λ byte. byte ≢ 10) old.begun (take at old.buffered) one first.before;
  beyond = rw (length-line old.begun old.buffered at first) beyond;
}

-- that line is answered
pub ends_line : (old new : Reading) (at : ℕ) (line : List ℕ) → All (λ byte. byte ≢ 10) old.begun → IsFirstNewline old.buffered at
    → fault_at old.passed (length old.begun + at) (length old.begun + at + 1) ≡ None
    → line ≡ old.begun ++ take at old.buffered → new.begun ≡ [] → new.buffered ≡ drop (at + 1) old.buffered
    → new.passed ≡ old.passed + (length old.begun + at + 1) → EndsLine old new line
ends_line old new at line one first good is begun buffered passed = record {
  bytes = rw is (rw buffered (line-around old.begun old.buffered at first));
  begun = begun;
  passed = rw is (rw (length-line old.begun old.buffered at first) passed);
  one = rw is (All-append (λ byte. byte ≢ 10) old.begun (take at old.buffered) one first.before);
  good = rw is (rw (length-line old.begun old.buffered at first) good);
}

-- an LF of the bytes from `start` to `end` stands before `end`
pub newline-before-end : (buffer : List ℕ) (start end at : ℕ) → start ≤ end
    → IsFirstNewline (take (end - start) (drop start buffer)) at → start + (at + 1) ≤ end
newline-before-end buffer start end at order first =
    let within : at < length (take (end - start) (drop start buffer)) = first.within in
    let le : length (take (end - start) (drop start buffer)) ≤ end - start = omega (arith, length-take {A = ℕ}) in
    omega arith

beyond-limit : (passed text whole n : ℕ) (fault : LineFault) → text ≤ n → whole ≤ n → fault_at passed text whole ≡ Some fault
    → IsBeyond fault passed n
beyond-limit passed text whole n ReadFault up up' bad = tt
beyond-limit passed text whole n LineTooLong up up' bad = grind (arith, nat_tests, bad)
beyond-limit passed text whole n FileTooLong up up' bad = grind (arith, nat_tests, bad)
beyond-limit passed text whole n NoMemory up up' bad = tt

-- where a step passes a limit, the bytes for it came
holds-too_many : (old : Reading) (fault : LineFault) → StepFault old fault → HoldsTooMany old fault
holds-too_many old fault (inl memory) = rw memory tt
holds-too_many old fault (inr (inl bad)) =
    let len : length (old.begun ++ old.buffered) ≡ length bad.line + suc (length bad.rest) = rw bad.bytes (length-append bad.line (10 ∷ bad.rest)) in
    beyond-limit old.passed (length bad.line) (length bad.line + 1) _ fault (omega arith) (omega arith) bad.beyond
holds-too_many old fault (inr (inr bad)) =
    beyond-limit old.passed _ _ _ fault (omega arith) (omega arith) bad.beyond

pub step-too_many : (old new : Reading) (fault : LineFault) → StepFault old fault → KeepsBytes old new → HoldsTooMany new fault
step-too_many old new fault bad keeps =
    rw keeps.passed (rw keeps.begun (rw keeps.buffered (holds-too_many old fault bad)))
