use Rattle.std.proofs.Common.{◌≡◌, ℕ, List, Option, Some, None, ◌+◌, subst, ap, inr, inl, rules}
use Rattle.io_edge.specs.Reading.{Reading, StepFault, EndsLine, whole_line}
use Rattle.io_edge.specs.Buffer.{reading_of}
use Rattle.io_edge.proofs.Steps.{ends_beyond, ends_line, drop-buffered, newline-before-end}
use Rattle.io_edge.proofs.Front.{whole-none, whole-at}
use Rattle.io_edge.proofs.lines.Lines.step.Goals as goal

pub returns-in-Some-fault_at-clause-fault : goal.returns-in-Some-fault_at-clause-fault
returns-in-Some-fault_at-clause-fault c =
    let P : Reading → Type 0 = λ old. StepFault old c.in-Some-fault_at.fault in
    subst P c.self.view_is (inr (inl (ends_beyond _ c.in-Some.at _ c.self.invariant.1.one (search rules) (search rules))))

pub returns-in_ok-extend_from_slice-in-Some-clause-line : goal.returns-in_ok-extend_from_slice-in-Some-clause-line
returns-in_ok-extend_from_slice-in-Some-clause-line c =
    let P : Reading → Type 0 = λ old. EndsLine old (reading_of record {
      alloc = c.self.inside.alloc;
      passed = c.self.inside.passed + (c.len.result + c.in-Some.at + 1);
      begun = c.replace-line.new.dest;
      buffer = c.self.inside.buffer;
      start = c.self.inside.start + (c.in-Some.at + 1);
      end = c.self.inside.end;
      spent = c.self.inside.spent;
    }) c.from_vec.result in
    subst P c.self.view_is (ends_line _ _ c.in-Some.at _ c.self.invariant.1.one (search rules) (search rules) (search rules) (search rules)
    (drop-buffered c.self.inside.buffer.items c.self.inside.start c.self.inside.end (c.in-Some.at + 1)
    (newline-before-end c.self.inside.buffer.items _ _ _ c.self.invariant.0.order (search rules))) (search rules))

pub returns-in_ok-extend_from_slice-in-Some-clause-whole : goal.returns-in_ok-extend_from_slice-in-Some-clause-whole
returns-in_ok-extend_from_slice-in-Some-clause-whole c =
    let P : Reading → Type 0 = λ old. (line : List ℕ) → whole_line old ≡ Some line → c.from_vec.result ≡ line in
    λ line is. ap Some (subst P c.self.view_is (λ line is. whole-at (reading_of c.self.inside) c.in-Some.at line c.from_vec.result is (search rules) (search rules)) line is)

pub returns-in_ok-extend_from_slice-in-None-clause-whole : goal.returns-in_ok-extend_from_slice-in-None-clause-whole
returns-in_ok-extend_from_slice-in-None-clause-whole c = λ line is.
    let P : Reading → Type 0 = λ old. whole_line old ≡ None in
    let none : whole_line c.args.self.now ≡ None = subst P c.self.view_is (whole-none (reading_of c.self.inside) (search rules)) in
    let never : ⊥ = cc in absurd never
