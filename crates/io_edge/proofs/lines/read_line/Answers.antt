use Rattle.std.proofs.Common.{◌≡◌, sym, ◌∙◌, rules, arith, None, Some}
use Rattle.std.proofs.lemmas.Grind.{common_steps}
use Rattle.io_edge.specs.Reading.{EndsLine}
use Rattle.io_edge.specs.declared.lines.LineFault.TheVariants.{LineTooLong, FileTooLong}
use Rattle.io_edge.proofs.LinesAhead.{lines_ahead-same, fault_ahead-same, lines_ahead-line, fault_ahead-line, last-line, last-no_fault, ends-nothing, ends-same, ends-step, ahead-filled}
use Rattle.io_edge.proofs.Steps.{step-too_many}
use Rattle.io_edge.proofs.Front.{whole-bytes}
use Rattle.io_edge.proofs.lines.read_line.Goals as goal

pub returns-in-Some-clause-line : goal.returns-in-Some-clause-line
returns-in-Some-clause-line g c =
    let passed : c.fill.new.self.passed ≡ c.args.lines.now.passed = search rules in
    let bytes = ahead-filled c.loop-lines.lines c.fill.new.self _ _ c.fill.ensures.line.1 c.fill.ensures.bytes ∙ c.loop-lines.invariant.2 in
    let ends : EndsLine c.fill.new.self c.step.new.self c.in-Some.line = rw c.in-Some.is at c.in_ok-line.ensures.line in
    sym (lines_ahead-same c.args.lines.now c.fill.new.self _ _ passed bytes) ∙ lines_ahead-line c.fill.new.self c.step.new.self _ _ ends

pub returns-in-Some-clause-no_fault : goal.returns-in-Some-clause-no_fault
returns-in-Some-clause-no_fault g c =
    let passed : c.fill.new.self.passed ≡ c.args.lines.now.passed = search rules in
    let bytes = ahead-filled c.loop-lines.lines c.fill.new.self _ _ c.fill.ensures.line.1 c.fill.ensures.bytes ∙ c.loop-lines.invariant.2 in
    let ends : EndsLine c.fill.new.self c.step.new.self c.in-Some.line = rw c.in-Some.is at c.in_ok-line.ensures.line in
    fault_ahead-line c.fill.new.self c.step.new.self c.in-Some.line _ ends ∙ fault_ahead-same c.args.lines.now c.fill.new.self _ _ passed bytes

pub returns-clause-line : goal.returns-clause-line
returns-clause-line g c =
    let passed : c.fill.new.self.passed ≡ c.args.lines.now.passed = search rules in
    let bytes = ahead-filled c.loop-lines.lines c.fill.new.self _ _ c.fill.ensures.line.1 c.fill.ensures.bytes ∙ c.loop-lines.invariant.2 in
    last-line c.args.lines.now c.fill.new.self c.last.new.self _ _ c.last.result passed bytes c.fill.ensures.under_way (search rules) (search rules) c.last.ensures.some c.last.ensures.new

pub returns-clause-no_fault : goal.returns-clause-no_fault
returns-clause-no_fault g c =
    let passed : c.fill.new.self.passed ≡ c.args.lines.now.passed = search rules in
    let bytes = ahead-filled c.loop-lines.lines c.fill.new.self _ _ c.fill.ensures.line.1 c.fill.ensures.bytes ∙ c.loop-lines.invariant.2 in
    last-no_fault c.args.lines.now c.fill.new.self c.last.new.self _ _ passed bytes c.fill.ensures.under_way (search rules) (search rules) c.last.ensures.new

pub returns-clause-end : goal.returns-clause-end
returns-clause-end g c = λ none.
    let passed : c.fill.new.self.passed ≡ c.args.lines.now.passed = search rules in
    let bytes = ahead-filled c.loop-lines.lines c.fill.new.self _ _ c.fill.ensures.line.1 c.fill.ensures.bytes ∙ c.loop-lines.invariant.2 in
    ends-same c.args.lines.now c.fill.new.self _ _ None passed bytes
    (ends-nothing c.fill.new.self _ (c.last.ensures.none (search rules)) (search rules) (search rules))

pub returns-in_err-line-clause-line_too_long : goal.returns-in_err-line-clause-line_too_long
returns-in_err-line-clause-line_too_long g c = λ is.
    let passed : c.fill.new.self.passed ≡ c.args.lines.now.passed = search rules in
    let bytes = ahead-filled c.loop-lines.lines c.fill.new.self _ _ c.fill.ensures.line.1 c.fill.ensures.bytes ∙ c.loop-lines.invariant.2 in
    let fault : c.in_err-line.field-0.0 ≡ LineTooLong = search rules in
    ends-same c.args.lines.now c.fill.new.self _ _ (Some LineTooLong) passed bytes
    (ends-step c.fill.new.self LineTooLong _ c.fill.ensures.under_way (rw fault at c.in_err-line.ensures.fault) (λ no. cc))

pub returns-in_err-line-clause-file_too_long : goal.returns-in_err-line-clause-file_too_long
returns-in_err-line-clause-file_too_long g c = λ is.
    let passed : c.fill.new.self.passed ≡ c.args.lines.now.passed = search rules in
    let bytes = ahead-filled c.loop-lines.lines c.fill.new.self _ _ c.fill.ensures.line.1 c.fill.ensures.bytes ∙ c.loop-lines.invariant.2 in
    let fault : c.in_err-line.field-0.0 ≡ FileTooLong = search rules in
    ends-same c.args.lines.now c.fill.new.self _ _ (Some FileTooLong) passed bytes
    (ends-step c.fill.new.self FileTooLong _ c.fill.ensures.under_way (rw fault at c.in_err-line.ensures.fault) (λ no. cc))

pub returns-in_err-line-clause-too_many : goal.returns-in_err-line-clause-too_many
returns-in_err-line-clause-too_many g c =
    let fault = step-too_many c.fill.new.self c.step.new.self c.in_err-line.field-0.0 c.in_err-line.ensures.fault c.in_err-line.ensures.kept in
    search rules

pub returns-in_err-fill-clause-whole : goal.returns-in_err-fill-clause-whole
returns-in_err-fill-clause-whole g c = λ line is.
    let same = c.loop-lines.invariant.4 line is in
    let held = c.fill.ensures.held (rw same (whole-bytes c.args.lines.now line is)) in
    search rules

pub returns-in-Some-clause-whole : goal.returns-in-Some-clause-whole
returns-in-Some-clause-whole g c = λ line is.
    let same = c.loop-lines.invariant.4 line is in
    let held = c.fill.ensures.held (rw same (whole-bytes c.args.lines.now line is)) in
    let told = c.in_ok-line.ensures.whole line (rw held.1 (rw same is)) in
    (λ fault. cc, search rules)

pub loop-lines-preserved : goal.loop-lines-preserved
loop-lines-preserved g c = (
  search rules,
  search rules,
  grind (arith, common_steps),
  search rules,
  λ line is.
      let same = c.loop-lines.invariant.4 line is in
      let held = c.fill.ensures.held (rw same (whole-bytes c.args.lines.now line is)) in
      let told = c.in_ok-line.ensures.whole line (rw held.1 (rw same is)) in
      absurd (c.in_default.not-Some line told),
)

pub returns-clause-whole : goal.returns-clause-whole
returns-clause-whole g c = λ line is.
    let same = c.loop-lines.invariant.4 line is in
    let held = c.fill.ensures.held (rw same (whole-bytes c.args.lines.now line is)) in
    search rules
