use Rattle.std.proofs.Common.{ℕ, ◌+◌, sym, ap, ◌∙◌}
use Rattle.bgpd_top.proofs.ServingLemmas.{served_more}
use Rattle.bgpd_top.proofs.serving.serve_held.Goals as goal

pub loop-event-preserved-in_ok-serve_event : goal.loop-event-preserved-in_ok-serve_event
loop-event-preserved-in_ok-serve_event g c = record {
  is_open = c.serve_event.ensures.same.1 ∙ (rw c.in-Some.is at c.in_ok-event.ensures.end);
  router = c.in_ok-serve_event.ensures.live;
  agrees = c.serve_event.ensures.same.0 ∙ (rw c.in-Some.is at c.in_ok-event.ensures.events)
      ∙ ap (λ (n : ℕ). n + 1) c.loop-event.invariant.agrees ∙ sym c.in_ok-serve_event.ensures.events;
  served = λ before stands. served_more g.W.World.passes before c.loop-event.router c.serve_event.new.router c.in-Some.event
      c.args.world.now c.loop-event.world c.next_event.new.world c.serve_event.new.world _ _ _ _
      (c.loop-event.invariant.served before stands) (rw c.in-Some.is at c.in_ok-event.ensures.answer) c.in_ok-serve_event.ensures.served;
  borrows = c.serve_event.ensures.borrows ∙ c.next_event.ensures.borrows ∙ c.loop-event.invariant.borrows;
  outside = c.serve_event.ensures.same.2 ∙ c.in_ok-event.ensures.counts.0 ∙ c.loop-event.invariant.outside;
  sink = c.in_ok-serve_event.ensures.counts ∙ c.in_ok-event.ensures.counts.1 ∙ c.loop-event.invariant.sink;
}

pub loop-event-preserved-in_ok-serve_event-2 : goal.loop-event-preserved-in_ok-serve_event-2
loop-event-preserved-in_ok-serve_event-2 g c = record {
  is_open = c.serve_event.ensures.same.1 ∙ (rw c.in-Some.is at c.in_ok-event.ensures.end);
  router = c.in_ok-serve_event.ensures.live;
  agrees = c.serve_event.ensures.same.0 ∙ (rw c.in-Some.is at c.in_ok-event.ensures.events)
      ∙ ap (λ (n : ℕ). n + 1) c.loop-event.invariant.agrees ∙ sym c.in_ok-serve_event.ensures.events;
  served = λ before stands. served_more g.W.World.passes before c.loop-event.router c.serve_event.new.router c.in-Some.event
      c.args.world.now c.loop-event.world c.next_event.new.world c.serve_event.new.world _ _ _ _
      (c.loop-event.invariant.served before stands) (rw c.in-Some.is at c.in_ok-event.ensures.answer) c.in_ok-serve_event.ensures.served;
  borrows = c.serve_event.ensures.borrows ∙ c.next_event.ensures.borrows ∙ c.loop-event.invariant.borrows;
  outside = c.serve_event.ensures.same.2 ∙ c.in_ok-event.ensures.counts.0 ∙ c.loop-event.invariant.outside;
  sink = c.in_ok-serve_event.ensures.counts ∙ c.in_ok-event.ensures.counts.1 ∙ c.loop-event.invariant.sink;
}

pub loop-event-preserved-in_ok-serve_event-3 : goal.loop-event-preserved-in_ok-serve_event-3
loop-event-preserved-in_ok-serve_event-3 g c = record {
  is_open = c.serve_event.ensures.same.1 ∙ (rw c.in-Some.is at c.in_ok-event.ensures.end);
  router = c.in_ok-serve_event.ensures.live;
  agrees = c.serve_event.ensures.same.0 ∙ (rw c.in-Some.is at c.in_ok-event.ensures.events)
      ∙ ap (λ (n : ℕ). n + 1) c.loop-event.invariant.agrees ∙ sym c.in_ok-serve_event.ensures.events;
  served = λ before stands. served_more g.W.World.passes before c.loop-event.router c.serve_event.new.router c.in-Some.event
      c.args.world.now c.loop-event.world c.next_event.new.world c.serve_event.new.world _ _ _ _
      (c.loop-event.invariant.served before stands) (rw c.in-Some.is at c.in_ok-event.ensures.answer) c.in_ok-serve_event.ensures.served;
  borrows = c.serve_event.ensures.borrows ∙ c.next_event.ensures.borrows ∙ c.loop-event.invariant.borrows;
  outside = c.serve_event.ensures.same.2 ∙ c.in_ok-event.ensures.counts.0 ∙ c.loop-event.invariant.outside;
  sink = c.in_ok-serve_event.ensures.counts ∙ c.in_ok-event.ensures.counts.1 ∙ c.loop-event.invariant.sink;
}

pub loop-event-preserved : goal.loop-event-preserved
loop-event-preserved g c = record {
  is_open = c.serve_event.ensures.same.1 ∙ (rw c.in-Some.is at c.in_ok-event.ensures.end);
  router = c.in_ok-serve_event.ensures.live;
  agrees = c.serve_event.ensures.same.0 ∙ (rw c.in-Some.is at c.in_ok-event.ensures.events)
      ∙ ap (λ (n : ℕ). n + 1) c.loop-event.invariant.agrees ∙ sym c.in_ok-serve_event.ensures.events;
  served = λ before stands. served_more g.W.World.passes before c.loop-event.router c.serve_event.new.router c.in-Some.event
      c.args.world.now c.loop-event.world c.next_event.new.world c.serve_event.new.world _ _ _ _
      (c.loop-event.invariant.served before stands) (rw c.in-Some.is at c.in_ok-event.ensures.answer) c.in_ok-serve_event.ensures.served;
  borrows = c.serve_event.ensures.borrows ∙ c.next_event.ensures.borrows ∙ c.loop-event.invariant.borrows;
  outside = c.serve_event.ensures.same.2 ∙ c.in_ok-event.ensures.counts.0 ∙ c.loop-event.invariant.outside;
  sink = c.in_ok-serve_event.ensures.counts ∙ c.in_ok-event.ensures.counts.1 ∙ c.loop-event.invariant.sink;
}
