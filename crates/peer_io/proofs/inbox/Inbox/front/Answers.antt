use Rattle.std.proofs.Common.{◌≡◌, ◌∙◌, List, ℕ, sym, ap, rules}
use Rattle.std.specs.Prelude.{IsTrue}
use Rattle.bgp_wire.specs.Message.{after_cut, cut_of, messages}
use Rattle.bgp_wire.specs.declared.front.Cut.TheVariants as cuts
use Rattle.bgp_wire.proofs.Stream.{messages_as}
use Rattle.peer_io.proofs.Fronts.{awaited_by, cut_is}
use Rattle.peer_io.proofs.inbox.Inbox.front.Goals as goal

more_stands : (c : goal.Then-is_awaited) → cuts.More ≡ cut_of c.args.self.now
more_stands c =
    let h : IsTrue c.is_awaited.result = search rules in
    sym (awaited_by c.self.inside.held c.self.inside.judged c.len.result c.len.ensures c.self.invariant (c.is_awaited.ensures.0 h)) ∙ ap cut_of c.self.view_is

pub returns-then-is_awaited-clause-cut : goal.returns-then-is_awaited-clause-cut
returns-then-is_awaited-clause-cut c = more_stands c

pub returns-then-is_awaited-clause-messages : goal.returns-then-is_awaited-clause-messages
returns-then-is_awaited-clause-messages c = messages_as c.args.self.now cuts.More (more_stands c)

pub judged-self-inside-requires : goal.judged-self-inside-requires
judged-self-inside-requires c =
    cut_is c.peek.result.now c.cut-front.result (λ e. c.cut-front.ensures.more.0 e) (λ kind n e. (c.cut-front.ensures.message kind n).0 e) (λ fault e. (c.cut-front.ensures.notify fault).0 e)
    ∙ ap cut_of (c.peek.ensures ∙ sym c.peek-2.ensures)

pub returns-clause-cut : goal.returns-clause-cut
returns-clause-cut c =
    cut_is c.peek.result.now c.cut-front.result (λ e. c.cut-front.ensures.more.0 e) (λ kind n e. (c.cut-front.ensures.message kind n).0 e) (λ fault e. (c.cut-front.ensures.notify fault).0 e)
    ∙ ap cut_of (c.peek.ensures ∙ c.self.view_is)
