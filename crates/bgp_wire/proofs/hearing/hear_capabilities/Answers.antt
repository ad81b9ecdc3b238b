use Rattle.std.proofs.Common.{◌∙◌, sym, refl, None, Some}
use Rattle.bgp_wire.proofs.Offers.{offer_end, offer_cut, offer_on}
use Rattle.bgp_wire.proofs.hearing.hear_capabilities.Goals as goal

pub returns-in_err-capability : goal.returns-in_err-capability
returns-in_err-capability c =
    c.from_residual.ensures
    ∙ sym (offer_cut c.loop-left.offer c.loop-left.left c.loop-left-test.ensures.1 c.in_err-capability.ensures.entry)
    ∙ c.loop-left.invariant

pub returns-in_err-offer : goal.returns-in_err-offer
returns-in_err-offer c =
    c.from_residual-in_err-offer.ensures
    ∙ sym (offer_on c.loop-left.offer c.loop-left.left _ None c.loop-left-test.ensures.1 c.in_ok-capability.ensures.entry (sym c.in_err-offer.ensures))
    ∙ c.loop-left.invariant

pub loop-left-preserved : goal.loop-left-preserved
loop-left-preserved c =
    sym (offer_on c.loop-left.offer c.loop-left.left _ (Some c.in_ok-offer.offer) c.loop-left-test.ensures.1 c.in_ok-capability.ensures.entry (sym c.in_ok-offer.ensures))
    ∙ c.loop-left.invariant

pub returns : goal.returns
returns c = offer_end c.loop-left.offer c.loop-left.left (c.loop-left-test.ensures.0 refl) ∙ c.loop-left.invariant
