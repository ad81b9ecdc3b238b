use Rattle.std.proofs.Common.{◌≡◌, drop}
use Rattle.std.specs.List.{list_any}
use Rattle.conf_tree.specs.Membership.{in_as_set}
use Rattle.filter_engine.proofs.path_test.has_member.Given as goal

abbrev pub invariant-loop-number : goal.invariant-loop-number
invariant-loop-number g l = list_any (in_as_set (g.M.Members.conf_of l.sets) l.set) (drop l.number-index l.numbers) ≡ list_any (in_as_set (g.M.Members.conf_of l.sets) l.set) l.numbers
