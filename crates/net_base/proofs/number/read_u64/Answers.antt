use Rattle.std.proofs.Common.{◌^◌, Ok, Err, sym, subst, ◌∙◌, true≢false}
use Rattle.std.specs.Str.Parse.{digits_value}
use Rattle.net_base.specs.declared.number.BadNumber.TheVariants.{NotNumber, TooLarge}
use Rattle.net_base.specs.Number.{IsNumberText}
use Rattle.net_base.proofs.Numbers.{number_test, tested_number, number_text_is_decimal, read_number_is}
use Rattle.net_base.proofs.number.read_u64.Goals as goal

pub returns-then-not-is_decimal-clause-grammar : goal.returns-then-not-is_decimal-clause-grammar
returns-then-not-is_decimal-clause-grammar c = λ n h.
    true≢false (sym (number_test _ n h) ∙ sym c.is_decimal.ensures ∙ c.if-not-is_decimal.true)

pub returns-then-not-is_decimal-clause-value : goal.returns-then-not-is_decimal-clause-value
returns-then-not-is_decimal-clause-value c =
    read_number_is (2 ^ 64) _ (Err NotNumber) λ n h.
    true≢false (sym (number_test _ n h) ∙ sym c.is_decimal.ensures ∙ c.if-not-is_decimal.true)

pub returns-in-Some-clause-grammar : goal.returns-in-Some-clause-grammar
returns-in-Some-clause-grammar c =
    let text = c.args.text.now in
    let whole = tested_number text (sym c.is_decimal.ensures ∙ c.if-not-is_decimal.false) in
    (subst (IsNumberText text) (sym c.in-Some.ensures.1) whole, c.in-Some.ensures.0)

pub returns-in-Some-clause-value : goal.returns-in-Some-clause-value
returns-in-Some-clause-value c =
    let text = c.args.text.now in
    let whole = tested_number text (sym c.is_decimal.ensures ∙ c.if-not-is_decimal.false) in
    read_number_is (2 ^ 64) text (Ok c.in-Some.value)
    (subst (IsNumberText text) (sym c.in-Some.ensures.1) whole, c.in-Some.ensures.0)

pub returns-in-Some-clause-printed : goal.returns-in-Some-clause-printed
returns-in-Some-clause-printed c =
    let text = c.args.text.now in
    let whole = tested_number text (sym c.is_decimal.ensures ∙ c.if-not-is_decimal.false) in
    number_text_is_decimal text c.in-Some.value (subst (IsNumberText text) (sym c.in-Some.ensures.1) whole)
    c.in-Some.ensures.0

pub returns-in-None-clause-grammar : goal.returns-in-None-clause-grammar
returns-in-None-clause-grammar c =
    let text = c.args.text.now in
    let whole = tested_number text (sym c.is_decimal.ensures ∙ c.if-not-is_decimal.false) in
    (digits_value 10 text, whole, c.in-None.ensures)

pub returns-in-None-clause-value : goal.returns-in-None-clause-value
returns-in-None-clause-value c =
    let text = c.args.text.now in
    let whole = tested_number text (sym c.is_decimal.ensures ∙ c.if-not-is_decimal.false) in
    read_number_is (2 ^ 64) text (Err TooLarge) (digits_value 10 text, whole, c.in-None.ensures)
