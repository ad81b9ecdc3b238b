use Rattle.std.proofs.Common.{subst, sym}
use Rattle.conf_check.specs.Names.{HasOrderedSets}
use Rattle.conf_check.proofs.Whole.{frame_sorted}
use Rattle.conf_check.proofs.expand.check_lines.Goals as goal

pub first_fault-requires : goal.first_fault-requires
first_fault-requires c = subst HasOrderedSets (sym c.in_ok-conf.ensures) (frame_sorted c.args.lines.now)

pub expanded-requires : goal.expanded-requires
expanded-requires c = subst HasOrderedSets (sym c.in_ok-conf.ensures) (frame_sorted c.args.lines.now)
