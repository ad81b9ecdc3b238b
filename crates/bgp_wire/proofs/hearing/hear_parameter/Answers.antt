use Rattle.std.proofs.Common.{◌≡◌, ◌∙◌, sym, None, Some, true, false, arith}
use Rattle.std.proofs.lemmas.Bool.Decides.{nat_tests}
use Rattle.std.specs.Prelude.{nat_eq}
use Rattle.bgp_wire.proofs.Offers.{foreign_parameter, capabilities_parameter}
use Rattle.bgp_wire.proofs.hearing.hear_parameter.Goals as goal

pub returns-then-parameter-ne-CAPABILITIES : goal.returns-then-parameter-ne-CAPABILITIES
returns-then-parameter-ne-CAPABILITIES c =
    let e : nat_eq c.args.parameter.code 2 ≡ false = grind (arith, nat_tests) in
    foreign_parameter c.args.heard _ e

pub returns-in_err-offer : goal.returns-in_err-offer
returns-in_err-offer c =
    let e : nat_eq c.args.parameter.code 2 ≡ true = grind (arith, nat_tests) in
    c.from_residual.ensures ∙ sym (capabilities_parameter c.args.heard _ None e (sym c.in_err-offer.ensures))

pub returns : goal.returns
returns c =
    let e : nat_eq c.args.parameter.code 2 ≡ true = grind (arith, nat_tests) in
    sym (capabilities_parameter c.args.heard _ (Some c.in_ok-offer.offer) e (sym c.in_ok-offer.ensures))
