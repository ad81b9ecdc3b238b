use Rattle.std.proofs.Common.{◌≡◌, List, fold, flat_map, take}
use Rattle.std.specs.Io.KnownBytes.{append_known}
use Rattle.event_text.specs.Lines.{ended_line}
use Rattle.bgpd_top.specs.World.{Talk, Passed}
use Rattle.bgpd_top.specs.Serving.{with_line}
use Rattle.bgpd_top.proofs.serving.tell_lines.Given as goal

-- the lines before this one were handed over and written or held
abbrev pub invariant-loop-line : goal.invariant-loop-line
invariant-loop-line g l = record {
  heard : (first : _) (talk : List Talk) → Passed g.W.World.passes first talk l.fn.world →
      Passed g.W.World.passes first (fold with_line talk (take l.line-index l.lines)) l.world;
  text : append_known (g.O.Sink.written l.out) l.held ≡ append_known (append_known (g.O.Sink.written l.fn.out) l.fn.held) (flat_map ended_line (take l.line-index l.lines));
  events : g.W.World.events l.world ≡ g.W.World.events l.fn.world;
  end : g.W.World.end l.world ≡ g.W.World.end l.fn.world;
  outside : g.W.World.faults l.world ≡ g.W.World.faults l.fn.world;
  borrows : g.W.World.borrows l.world ≡ g.W.World.borrows l.fn.world;
  sink : g.O.Sink.faults l.out ≡ g.O.Sink.faults l.fn.out;
}
