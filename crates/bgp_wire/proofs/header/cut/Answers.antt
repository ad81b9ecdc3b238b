use Rattle.std.proofs.Common.{◌∙◌, sym}
use Rattle.bgp_wire.proofs.Stream.{cut_more, partial_cut, cut_message, message_cut, cut_fault, fault_cut, messages_as}
use Rattle.bgp_wire.proofs.header.cut.Goals as goal

pub returns-clause-more : goal.returns-clause-more
returns-clause-more c =
    (λ h. cut_more c.args.buffer.now (sym c.front_of.ensures ∙ h), λ p. c.front_of.ensures ∙ partial_cut c.args.buffer.now p)

pub returns-clause-message : goal.returns-clause-message
returns-clause-message c kind n =
    (λ h. cut_message c.args.buffer.now kind n (sym c.front_of.ensures ∙ h), λ p. c.front_of.ensures ∙ message_cut c.args.buffer.now kind n p)

pub returns-clause-notify : goal.returns-clause-notify
returns-clause-notify c fault =
    (λ h. cut_fault c.args.buffer.now fault (sym c.front_of.ensures ∙ h), λ p. c.front_of.ensures ∙ fault_cut c.args.buffer.now fault p)

pub returns-clause-messages : goal.returns-clause-messages
returns-clause-messages c = messages_as c.args.buffer.now c.front_of.result c.front_of.ensures
