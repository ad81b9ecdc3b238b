use Rattle.std.proofs.Common.{◌≡◌, drop, option_copied}
use Rattle.std.specs.Prelude.{filter_map}
use Rattle.std.specs.List.{last_or}
use Rattle.conf_tree.specs.Said.{last_said, socket_of}
use Rattle.conf_check.proofs.globals.socket.Given as goal

abbrev pub invariant-loop-line : goal.invariant-loop-line
invariant-loop-line l = last_or (option_copied l.last) (filter_map (λ s. socket_of s.statement) (drop l.line-index l.lines)) ≡ last_said socket_of l.lines
