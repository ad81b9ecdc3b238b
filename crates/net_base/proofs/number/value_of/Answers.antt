-- A digit more is ten times the value and the digit, and the whole is no less.
use Rattle.std.proofs.Common.{ap, ◌∙◌, ◌+◌, arith, lit≤}
use Rattle.std.proofs.lemmas.List.{take_all}
use Rattle.std.proofs.lemmas.Int.Digits.{digits_value_more}
use Rattle.std.proofs.lemmas.Str.Parse.{digits_value-take-le}
use Rattle.std.specs.Str.Parse.{digits_value}
use Rattle.net_base.proofs.Numbers.{digit_at}
use Rattle.net_base.proofs.number.value_of.Goals as goal

pub returns-then-next-from : goal.returns-then-next-from
returns-then-next-from c =
    let digits = c.args.digits.now in
    let index = c.loop-digit.digit-index in
    let more = digits_value_more 10 digits index c.loop-digit-test.true in
    let digit = digit_at digits index c.requires c.loop-digit-test.true in
    omega (arith, more, digit.0, digit.1, digits_value-take-le 10 digits (index + 1) (lit≤ tt))

pub loop-digit-preserved : goal.loop-digit-preserved
loop-digit-preserved c =
    let digits = c.args.digits.now in
    let index = c.loop-digit.digit-index in
    let more = digits_value_more 10 digits index c.loop-digit-test.true in
    let digit = digit_at digits index c.requires c.loop-digit-test.true in
    (omega (arith, more, digit.0, digit.1), omega arith)

pub returns : goal.returns
returns c = (
  c.loop-digit.invariant.1,
  c.loop-digit.invariant.0
      ∙ ap (digits_value 10) (take_all c.loop-digit.digit-index c.args.digits.now c.loop-digit-test.false),
)
