use Rattle.conf_shows.specs.Shown.{couple_frame, has_table}
use Rattle.conf_shows.proofs.Tables.{coupled_more}
use Rattle.conf_shows.proofs.couple_all.Goals as goal

pub loop-table-preserved : goal.loop-table-preserved
loop-table-preserved c =
    coupled_more (has_table c.args.conf.now) (couple_frame c.args.on) c.loop-table.table c.args.frames.now c.loop-table.frames c.couple_where.new.frames
    c.has_table.result c.in_ok-couple_where.ensures c.has_table.ensures c.loop-table.invariant
