use Rattle.std.proofs.Common.{◌≡◌, ◌++◌, drop, flat_map}
use Rattle.ctl_show.specs.Shown.{shown_line}
use Rattle.ctl_show.proofs.rows.print_rows.Given as goal

-- the bytes so far, followed by what is to come, are the whole
abbrev pub invariant-loop-row : goal.invariant-loop-row
invariant-loop-row l =
    l.out ++ flat_map (shown_line l.command) (drop l.row-index l.rows) ≡ l.fn.out ++ flat_map (shown_line l.command) l.rows
