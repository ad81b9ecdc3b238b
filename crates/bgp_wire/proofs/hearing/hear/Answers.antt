use Rattle.std.proofs.Common.{◌∙◌, sym, refl, None, Some}
use Rattle.bgp_wire.proofs.Offers.{heard_end, heard_cut, heard_on}
use Rattle.bgp_wire.proofs.hearing.hear.Goals as goal

pub returns-in_err-parameter : goal.returns-in_err-parameter
returns-in_err-parameter c =
    c.from_residual.ensures
    ∙ sym (heard_cut c.loop-left.heard c.loop-left.left c.loop-left-test.ensures.1 c.in_err-parameter.ensures.entry)
    ∙ c.loop-left.invariant

pub returns-in_err-heard : goal.returns-in_err-heard
returns-in_err-heard c =
    c.from_residual-in_err-heard.ensures
    ∙ sym (heard_on c.loop-left.heard c.loop-left.left _ None c.loop-left-test.ensures.1 c.in_ok-parameter.ensures.entry (sym c.in_err-heard.ensures))
    ∙ c.loop-left.invariant

pub loop-left-preserved : goal.loop-left-preserved
loop-left-preserved c =
    sym (heard_on c.loop-left.heard c.loop-left.left _ (Some c.in_ok-heard.heard) c.loop-left-test.ensures.1 c.in_ok-parameter.ensures.entry (sym c.in_ok-heard.ensures))
    ∙ c.loop-left.invariant

pub returns : goal.returns
returns c = heard_end c.loop-left.heard c.loop-left.left (c.loop-left-test.ensures.0 refl) ∙ c.loop-left.invariant
