use Rattle.std.proofs.Common.{◌≡◌, drop, take}
use Rattle.std.specs.List.{list_any}
use Rattle.filter_engine.specs.Conditions.{path_numbers}
use Rattle.filter_engine.specs.Wanted.{is_wanted}
use Rattle.filter_engine.proofs.path_test.front_has_wanted.Given as goal

abbrev pub invariant-loop-segment : goal.invariant-loop-segment
invariant-loop-segment g l =
    list_any (is_wanted (g.M.Members.conf_of l.sets) l.wanted) (take l.left (path_numbers (drop l.segment-index l.path)))
    ≡ list_any (is_wanted (g.M.Members.conf_of l.sets) l.wanted) (take l.most (path_numbers l.path))
