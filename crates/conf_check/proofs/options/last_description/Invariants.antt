use Rattle.std.proofs.Common.{◌≡◌, drop, option_copied}
use Rattle.conf_tree.specs.Said.{last_option, description_of}
use Rattle.conf_check.specs.Options.{last_behind}
use Rattle.conf_check.proofs.options.last_description.Given as goal

abbrev pub invariant-loop-line : goal.invariant-loop-line
invariant-loop-line l = last_behind description_of (option_copied l.last) (drop l.line-index l.options) ≡ last_option description_of l.options
