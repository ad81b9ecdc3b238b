use Rattle.std.proofs.Common.{false, List, sym, refl, subst}
use Rattle.core_msgs.specs.declared.answer.Line.{Line}
use Rattle.core_msgs.specs.declared.answer.Line.TheVariants.{Quiet}
use Rattle.core_msgs.specs.declared.event.Event.TheVariants.{Settle}
use Rattle.cores_link.specs.Standing.{Follows}
use Rattle.cores_link.proofs.Settles.{settle_follows}
use Rattle.cores_link.proofs.accepted.Accepted.settle.Goals as goal

pub returns-clause-follows : goal.returns-clause-follows
returns-clause-follows c =
    subst (λ (lines : List Line). Follows c.args.self.now (record c.args.self.now { under_way = false }) Settle (record { lines = lines; last = Quiet })) (sym c.in_ok-reports.ensures)
    (settle_follows c.args.self.now (record c.args.self.now { under_way = false }) c.under_way.result refl c.under_way.ensures)
