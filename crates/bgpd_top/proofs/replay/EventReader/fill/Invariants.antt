use Rattle.std.proofs.Common.{◌≡◌, ◌-◌, ◌≤◌, false}
use Rattle.io_edge.specs.FileLines.{file_limit}
use Rattle.bgpd_top.specs.Reader.{is_spent_reader, reader_passed, reader_count, come_after}
use Rattle.bgpd_top.proofs.replay.EventReader.fill.Given as goal

-- the lines taken leave the events to come as they were
abbrev pub invariant-loop-self : goal.invariant-loop-self
invariant-loop-self g l = record {
  live : is_spent_reader l.self ≡ false;
  last : l.held.last ≡ reader_count l.self;
  same : come_after l.fn.held l.fn.self (g.S.Source.left l.fn.source) ≡ come_after l.held l.self (g.S.Source.left l.source);
  forward : reader_count l.fn.self ≤ reader_count l.self;
  small : reader_count l.self ≤ file_limit;
  counts : g.S.Source.faults l.source ≡ g.S.Source.faults l.fn.source;
}

abbrev pub decreases-loop-self : goal.decreases-loop-self
decreases-loop-self g l = file_limit - reader_passed l.self
