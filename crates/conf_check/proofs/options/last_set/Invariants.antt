use Rattle.std.proofs.Common.{◌≡◌, drop, option_copied}
use Rattle.conf_tree.specs.Said.{last_option, set_option_of}
use Rattle.conf_check.specs.Options.{last_behind}
use Rattle.conf_check.proofs.options.last_set.Given as goal

abbrev pub invariant-loop-line : goal.invariant-loop-line
invariant-loop-line l = last_behind set_option_of (option_copied l.last) (drop l.line-index l.options) ≡ last_option set_option_of l.options
