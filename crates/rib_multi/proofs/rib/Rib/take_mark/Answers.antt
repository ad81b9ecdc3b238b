use Rattle.std.proofs.Common.{subst, sym}
use Rattle.net_base.specs.PrefixSet.{IsLeastOf}
use Rattle.sweep_jobs.specs.Marks.{MarkedPrefixes, is_marked}
use Rattle.rib_multi.specs.Rows.{RibState}
use Rattle.rib_multi.proofs.Taken.{taken_is, WithoutMark}
use Rattle.rib_multi.proofs.rib.Rib.take_mark.Goals as goal

pub returns-clause-taken : goal.returns-clause-taken
returns-clause-taken c =
    let known = c.args.known.now in
    subst (λ (rib : RibState). WithoutMark known rib.marks c.next.new.self c.args.prefix) c.self.view_is
    (taken_is known c.self.inside.marks c.next.new.self c.args.prefix c.next.result (subst (λ (rib : RibState). IsLeastOf (is_marked known rib.marks) c.args.prefix) (sym c.self.view_is) c.requires) c.next.ensures.least c.next.ensures.taken)
