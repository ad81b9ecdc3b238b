use Rattle.std.proofs.Common.{◌≡◌, drop}
use Rattle.conf_check.specs.Globals.{globals_of, globals_behind}
use Rattle.conf_check.proofs.globals.Globals.of.Given as goal

abbrev pub invariant-loop-line : goal.invariant-loop-line
invariant-loop-line l = globals_behind l.globals (drop l.line-index l.lines) ≡ globals_of l.lines
