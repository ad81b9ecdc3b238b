use Rattle.std.proofs.Common.{◌∙◌}
use Rattle.rib_multi.proofs.Moved.{came_handed}
use Rattle.table_tests.proofs.ribs.flag_behind.Goals as goal

pub refresh-requires-clause-came : goal.refresh-requires-clause-came
refresh-requires-clause-came c =
    rw (c.in_ok-push.ensures.ok, c.new-candidates.ensures, c.in_ok-mark.ensures.refs, c.in_ok-ribs.ensures.refs) (came_handed _ _ _ c.in_ok-intern.ensures.hands)
