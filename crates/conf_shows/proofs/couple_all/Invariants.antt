use Rattle.std.proofs.Common.{◌≡◌, ◌++◌, map, filter}
use Rattle.std.specs.List.{range_with_len}
use Rattle.conf_shows.specs.Shown.{couple_frame, has_table}
use Rattle.conf_shows.proofs.couple_all.Given as goal

-- a frame was written for each kernel table below
abbrev pub invariant-loop-table : goal.invariant-loop-table
invariant-loop-table l = l.frames ≡ l.fn.frames ++ map (couple_frame l.fn.on) (filter (has_table l.fn.conf) (range_with_len 0 l.table))
