use Rattle.std.proofs.Common.{◌∙◌, subst}
use Rattle.std.specs.Prelude.{OnOk, OnErr}
use Rattle.adj_rib_out.specs.Out.{out_at}
use Rattle.adj_rib_out.proofs.table.AdjRibOut.queue.Goals as goal
use Rattle.adj_rib_out.specs.Steps.{Queues, IsSame}

pub returns-clause-ok : goal.returns-clause-ok
returns-clause-ok c = subst (λ old. OnOk c.queue_in.result (Queues c.args.prefix c.args.again old (out_at c.queue_in.new.self c.args.session))) (c.in_ok-begin.ensures.same c.args.session) c.queue_in.ensures.ok

pub returns-clause-err : goal.returns-clause-err
returns-clause-err c = subst (λ old. OnErr c.queue_in.result (IsSame old (out_at c.queue_in.new.self c.args.session))) (c.in_ok-begin.ensures.same c.args.session) c.queue_in.ensures.err

pub returns-clause-others : goal.returns-clause-others
returns-clause-others c = λ other differ. c.queue_in.ensures.others other differ ∙ c.in_ok-begin.ensures.same other

pub returns-clause-kept : goal.returns-clause-kept
returns-clause-kept c = c.queue_in.ensures.kept ∙ c.in_ok-begin.ensures.kept
