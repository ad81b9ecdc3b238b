use Rattle.std.proofs.Common.{subst, sym}
use Rattle.imsg_wire.specs.declared.link.Link.{Link}
use Rattle.frame_link.specs.Carrying.{LinkState, Carries, CompletesFirst, GivesFirst, IsPartial, TakesFront, moved, written_by}
use Rattle.frame_link.proofs.Carried.{completed, of_writer}
use Rattle.frame_link.proofs.link.FrameLink.take.Goals as goal

pub returns-clause-completes : goal.returns-clause-completes
returns-clause-completes c fs carries partial =
    let old = of_writer c.self.inside.writer c.self.inside.link in
    let was = subst (λ (x : LinkState). Carries x fs) (sym c.self.view_is) carries in
    let part = subst (λ (x : LinkState). IsPartial x) (sym c.self.view_is) partial in
    let mid : Carries (of_writer c.self.inside.writer c.deliver.new.self) fs =
    record { holds = c.in_ok-deliver.ensures.holds (written_by c.self.inside.writer fs) was.holds; each = was.each } in
    let given : GivesFirst (moved c.missing-missing.result old) c.next.new.self fs c.next.result =
    subst (λ (x : Link). GivesFirst (of_writer c.self.inside.writer x) c.next.new.self fs c.next.result) c.in_ok-deliver.ensures.ok (c.next.ensures.gives fs mid) in
    let front : TakesFront (moved c.missing-missing.result old).reader c.next.new.self.reader c.next.result =
    subst (λ (x : Link). TakesFront x.reader c.next.new.self.reader c.next.result) c.in_ok-deliver.ensures.ok c.next.ensures.front in
    subst (λ (x : LinkState). CompletesFirst x c.next.new.self fs c.next.result) c.self.view_is
    (completed c.frames_split.ensures.front old c.next.new.self c.missing-missing.result fs c.next.result c.missing-missing.ensures.completes was part given front)
