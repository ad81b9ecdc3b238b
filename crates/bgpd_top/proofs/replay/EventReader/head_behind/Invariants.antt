use Rattle.std.proofs.Common.{◌≡◌, ◌-◌, ◌≤◌, false}
use Rattle.io_edge.specs.FileLines.{file_limit}
use Rattle.bgpd_top.specs.Reader.{is_spent_reader, reader_passed, reader_count, to_come}
use Rattle.bgpd_top.proofs.replay.EventReader.head_behind.Given as goal

-- the lines passed over leave the events to come as they were
abbrev pub invariant-loop-line : goal.invariant-loop-line
invariant-loop-line g l = record {
  live : is_spent_reader l.self ≡ false;
  same : to_come l.fn.self (g.S.Source.left l.fn.source) ≡ to_come l.self (g.S.Source.left l.source);
  forward : reader_count l.fn.self ≤ reader_count l.self;
  counts : g.S.Source.faults l.source ≡ g.S.Source.faults l.fn.source;
}

abbrev pub decreases-loop-line : goal.decreases-loop-line
decreases-loop-line g l = file_limit - reader_passed l.self
