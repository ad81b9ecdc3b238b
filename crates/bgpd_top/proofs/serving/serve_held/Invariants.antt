use Rattle.std.proofs.Common.{◌≡◌, ◌-◌, ◌^◌, false}
use Rattle.std.specs.Io.KnownBytes.{append_known}
use Rattle.run_record.specs.Run.{History}
use Rattle.cores_link.specs.Routers.{Stands, is_spent, events_taken}
use Rattle.bgpd_top.specs.Serving.{Served}
use Rattle.bgpd_top.specs.declared.world.WorldEnd.TheVariants.{Open}
use Rattle.bgpd_top.proofs.serving.serve_held.Given as goal

-- the events that the world gave are served, and their transcript is written or held
abbrev pub invariant-loop-event : goal.invariant-loop-event
invariant-loop-event g l = record {
  is_open : g.W.World.end l.world ≡ Open;
  router : is_spent l.router ≡ false;
  agrees : g.W.World.events l.world ≡ events_taken l.router;
  served : (before : History) → Stands l.fn.router before → Served g.W.World.passes before l.router l.fn.world l.world
      (append_known (g.O.Sink.written l.fn.out) l.fn.held) (append_known (g.O.Sink.written l.out) l.held);
  borrows : g.W.World.borrows l.world ≡ g.W.World.borrows l.fn.world;
  outside : g.W.World.faults l.world ≡ g.W.World.faults l.fn.world;
  sink : g.O.Sink.faults l.out ≡ g.O.Sink.faults l.fn.out;
}

abbrev pub decreases-loop-event : goal.decreases-loop-event
decreases-loop-event g l = 2 ^ 31 - g.W.World.events l.world
