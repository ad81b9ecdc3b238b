use Rattle.adj_rib_out.specs.Out.{out_at, is_queued}
use Rattle.adj_rib_out.specs.Queue.{IsNth}
use Rattle.adj_rib_out.proofs.table.AdjRibOut.queued.Given as goal

-- the prefix with so many before it
abbrev pub invariant-loop-before : goal.invariant-loop-before
invariant-loop-before l = IsNth (is_queued (out_at l.self l.session)) l._before l.found
