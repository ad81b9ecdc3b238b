use Rattle.std.proofs.Common.{◌≡◌, ◌+◌, ◌/◌, ◌^◌, ◌<◌, ◌≤◌, ℕ, length, decimal, ap, ◌∙◌, arith, lit<, length-append}
use Rattle.std.proofs.lemmas.Fmt.{decimal_digit, decimal_step, length-decimal-le}
use Rattle.net_base.proofs.number.digits.Goals as goal

-- the last digit is one
one_less : (n : ℕ) → 10 ≤ n → n < 2 ^ 64 → length (decimal n) ≡ length (decimal (n / 10)) + 1
one_less n more fits = ap length (decimal_step n more fits) ∙ length-append (decimal (n / 10)) _

at_most_20 : (n : ℕ) → n < 2 ^ 64 → length (decimal n) ≤ 20
at_most_20 n fits = length-decimal-le 20 n (lit< tt) (omega arith) fits

pub overflow_add-count : goal.overflow_add-count
overflow_add-count c = record { fits = omega (arith, at_most_20 c.args.n c.ranges.n.fits) }

pub loop-rest-preserved : goal.loop-rest-preserved
loop-rest-preserved c = omega (arith, one_less c.loop-rest.rest c.loop-rest-test.true c.loop-rest.auto.rest-fits.fits)

pub returns-clause-value : goal.returns-clause-value
returns-clause-value c = omega (arith, ap length (decimal_digit c.loop-rest.rest c.loop-rest-test.false))

pub returns-clause-within : goal.returns-clause-within
returns-clause-within c =
    omega (arith, at_most_20 c.args.n c.ranges.n.fits, ap length (decimal_digit c.loop-rest.rest c.loop-rest-test.false))
