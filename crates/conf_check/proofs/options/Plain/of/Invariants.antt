use Rattle.std.proofs.Common.{◌≡◌, drop}
use Rattle.conf_check.specs.Options.{plain_of, plain_behind}
use Rattle.conf_check.proofs.options.Plain.of.Given as goal

abbrev pub invariant-loop-line : goal.invariant-loop-line
invariant-loop-line l = plain_behind l.plain (drop l.line-index l.options) ≡ plain_of l.options
