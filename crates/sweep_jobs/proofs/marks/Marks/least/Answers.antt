use Rattle.std.proofs.Common.{◌&&◌}
use Rattle.net_base.specs.PrefixSet.{is_in}
use Rattle.sweep_jobs.specs.Cursor.{is_ahead}
use Rattle.sweep_jobs.proofs.marks.Marks.least.Goals as goal

pub returns : goal.returns
returns c =
    let here = c.lesser.ensures (is_in c.self.inside.touched) (λ p. is_in c.args.known.now p && is_ahead c.self.inside.cursor p) c.first.ensures c.first_ahead.ensures in
    rw (← c.self.view_is) here
