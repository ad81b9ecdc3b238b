use Rattle.std.proofs.Common.{◌≡◌, drop}
use Rattle.std.specs.Prelude.{fold}
use Rattle.std.specs.BTreeSet.{insert_key}
use Rattle.conf_check.proofs.ordered.add_all.Given as goal

abbrev pub invariant-loop-entry : goal.invariant-loop-entry
invariant-loop-entry g l = fold (insert_key g.T.Ord.cmp) l.ordered.keys (drop l.entry-index l.entries) ≡ fold (insert_key g.T.Ord.cmp) l.initial.ordered.keys l.entries
