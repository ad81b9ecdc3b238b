use Rattle.std.proofs.Common.{subst, sym}
use Rattle.frame_link.specs.Carrying.{LinkState, Carries}
use Rattle.frame_link.proofs.Carried.{empty_as, of_writer}
use Rattle.frame_link.proofs.link.FrameLink.is_empty.Goals as goal

pub returns : goal.returns
returns c fs carries =
    empty_as c.frames_split.ensures.size (of_writer c.self.inside.writer c.self.inside.link) fs c.is_empty.result c.is_empty.ensures
    (subst (λ (x : LinkState). Carries x fs) (sym c.self.view_is) carries)
