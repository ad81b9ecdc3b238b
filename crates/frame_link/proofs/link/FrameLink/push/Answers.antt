use Rattle.std.proofs.Common.{rules, Result, Ok, Err, subst, sym}
use Rattle.std.specs.Prelude.{OnOk}
use Rattle.frame_link.specs.Carrying.{Carries, LinkState}
use Rattle.frame_link.proofs.Carried.{pushed}
use Rattle.frame_link.proofs.link.FrameLink.push.Goals as goal

all : {A B P Q R S : Type 0} (r : Result A B) → OnOk r P → OnOk r Q → OnOk r R → (P → Q → R → S) → OnOk r S
all (Ok x) p q r f = f p q r
all (Err x) p q r f = search rules

pub returns-clause-carries : goal.returns-clause-carries
returns-clause-carries c = all c.write.result c.write.ensures.ok c.write.ensures.whole c.write.ensures.fits
    (λ ok whole fits fs carries. pushed c.links_append.ensures
    (record { writer = c.self.inside.writer; reader = c.self.inside.link.reader; coming = c.self.inside.link.coming })
    c.write.new.out fs c.args.frame.now ok whole fits
    (subst (λ (x : LinkState). Carries x fs) (sym c.self.view_is) carries))
