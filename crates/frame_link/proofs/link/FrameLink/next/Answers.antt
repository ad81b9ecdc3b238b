use Rattle.std.proofs.Common.{◌<◌, length, subst, sym}
use Rattle.std.specs.Prelude.{IfOk, IfSome}
use Rattle.frame_link.specs.Carrying.{LinkState, Carries, GivesFirst, TakesFront}
use Rattle.frame_link.proofs.Carried.{gives_as, front_as, shorter_as, of_writer}
use Rattle.frame_link.proofs.link.FrameLink.next.Goals as goal

pub returns-clause-gives : goal.returns-clause-gives
returns-clause-gives c fs carries =
    let now = subst (λ (x : LinkState). Carries x fs) (sym c.self.view_is) carries in
    subst (λ (x : LinkState). GivesFirst x (of_writer c.self.inside.writer c.next-given.new.self) fs c.frame_given.result) c.self.view_is
    (gives_as c.self.inside.writer c.self.inside.link c.next-given.new.self fs c.next-given.result c.frame_given.result c.next-given.ensures.takes c.frame_given.ensures.reads
    (c.next-given.ensures.holds _ now.holds) now)

pub returns-clause-front : goal.returns-clause-front
returns-clause-front c =
    subst (λ (x : LinkState). TakesFront x.reader c.next-given.new.self.reader c.frame_given.result) c.self.view_is
    (front_as c.self.inside.link.reader c.next-given.new.self.reader c.next-given.result c.frame_given.result c.next-given.ensures.takes c.frame_given.ensures.reads)

pub returns-clause-shorter : goal.returns-clause-shorter
returns-clause-shorter c =
    subst (λ (x : LinkState). IfOk c.frame_given.result (λ g. IfSome g (λ _. length c.next-given.new.self.reader < length x.reader))) c.self.view_is
    (shorter_as c.self.inside.link.reader c.next-given.new.self.reader c.next-given.result c.frame_given.result c.next-given.ensures.shorter c.frame_given.ensures.reads)
