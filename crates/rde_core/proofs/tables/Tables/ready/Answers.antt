use Rattle.std.proofs.Common.{Bool, not, ap, ◌∙◌}
use Rattle.std.proofs.lemmas.Result.{IfOk-weaker}
use Rattle.net_base.specs.declared.prefix.Prefix.{Prefix}
use Rattle.net_base.specs.contracts.prefix.PrefixOrd.TheImpl.{cmp-value as derived}
use Rattle.net_base.proofs.Order.{derived_prefix_cmp}
use Rattle.adj_rib_out.specs.Out.{Outs, out_at}
use Rattle.rib_multi.specs.Rows.{is_marked_at}
use Rattle.rde_core.specs.Ready.{IsReady}
use Rattle.rde_core.proofs.Ready.{by_prefix, ready_from}
use Rattle.rde_core.proofs.tables.Tables.ready.Goals as goal

pub returns-in-Some : goal.returns-in-Some
returns-in-Some c =
    let test : Prefix → Bool = λ p. not (is_marked_at c.args.self.now.known c.args.self.now.routes.ribs c.args.rib p) in
    let outs = c.args.self.now.routes.outs in
    let queue = c.in-Some.queue.now in
    IfOk-weaker c.unmarked.result _ (IsReady outs c.args.session)
    (λ ready is. ready_from outs c.args.session c.args.most test queue (c.in-Some.ensures ∙ ap (λ (o : Outs). (out_at o c.args.session).queue) c.outs.ensures) (by_prefix derived.it derived_prefix_cmp c.in_order.result.now.keys queue c.in_order.ensures c.len-ascending.ensures.ordered) ready is)
    c.unmarked.ensures.ready
