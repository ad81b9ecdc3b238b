use Rattle.std.proofs.Common.{◌≡◌, ◌++◌, drop, flat_map}
use Rattle.event_text.specs.Lines.{ended_line}
use Rattle.event_text.proofs.line.print_lines.Given as goal

-- the bytes so far, followed by what is to come, are the whole
abbrev pub invariant-loop-line : goal.invariant-loop-line
invariant-loop-line l = l.out ++ flat_map ended_line (drop l.line-index l.lines) ≡ l.fn.out ++ flat_map ended_line l.lines
