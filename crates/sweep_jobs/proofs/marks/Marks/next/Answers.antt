use Rattle.std.proofs.Common.{subst, sym, ◌∙◌}
use Rattle.net_base.specs.PrefixSet.{IsLeastOf}
use Rattle.sweep_jobs.specs.Marks.{MarkedPrefixes, is_marked}
use Rattle.sweep_jobs.proofs.Sweeps.{moved_on, none_comes}
use Rattle.sweep_jobs.proofs.marks.Marks.next.Goals as goal

pub returns-then-is_ahead-clause-taken : goal.returns-then-is_ahead-clause-taken
returns-then-is_ahead-clause-taken c =
    let p = c.in_ok-prefix.prefix in
    let m : MarkedPrefixes = record { cursor = c.self.inside.cursor; touched = c.self.inside.touched } in
    let least : IsLeastOf (is_marked c.args.known.now m) p = subst (λ (n : MarkedPrefixes). IsLeastOf (is_marked c.args.known.now n) p) (sym c.self.view_is) c.in_ok-prefix.ensures in
    let moved = moved_on c.args.known.now m p c.remove.new.self c.remove.ensures.members least (sym c.is_ahead.ensures ∙ c.if-is_ahead.true) in
    λ q. rw (← c.self.view_is) (moved q)

pub returns-then-is_ahead-clause-none_comes : goal.returns-then-is_ahead-clause-none_comes
returns-then-is_ahead-clause-none_comes c =
    let m : MarkedPrefixes = record { cursor = c.self.inside.cursor; touched = c.self.inside.touched } in
    let fewer = λ (others : _) (q : _). none_comes others m c.in_ok-prefix.prefix c.remove.new.self c.remove.ensures.members (sym c.is_ahead.ensures ∙ c.if-is_ahead.true) q in
    λ others q. rw (← c.self.view_is) (fewer others q)
