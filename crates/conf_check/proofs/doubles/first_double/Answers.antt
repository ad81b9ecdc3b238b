use Rattle.std.proofs.Common.{◌∙◌, ap, sym}
use Rattle.std.specs.Ordering.{eq_by_cmp}
use Rattle.std.specs.Vec.Iter.{into_iter_items}
use Rattle.conf_tree.specs.Checks.{double_after, first_double}
use Rattle.conf_check.proofs.DoubleNames.{name_found, name_new, names_more, was_there, was_absent}
use Rattle.conf_check.proofs.doubles.first_double.Goals as goal

pub returns-then-not-branch : goal.returns-then-not-branch
unfolding first_double
returns-then-not-branch g c =
    name_found g.K.Ord.cmp c.loop-line.yielded (into_iter_items c.next.new.self) c.in-Some.line c.in-Some.name c.loop-line.earlier.keys _
    c.loop-line.invariant.0
    (ap (double_after (eq_by_cmp g.K.Ord.cmp) c.loop-line.yielded) (sym c.in-Some.ensures.steps.0) ∙ c.loop-line.invariant.1)
    (was_there _ _ c.in_ok-insert.ensures.added c.if-not-branch.true)

pub loop-line-preserved : goal.loop-line-preserved
loop-line-preserved g c = (
  names_more g.K.Ord.cmp c.loop-line.yielded (into_iter_items c.next.new.self) c.in-Some.line c.in-Some.name c.loop-line.earlier.keys g.met.K.Ord.total _ c.loop-line.invariant.0 c.in_ok-insert.ensures.updates.0,
  name_new g.K.Ord.cmp c.loop-line.yielded (into_iter_items c.next.new.self) c.in-Some.line c.in-Some.name c.loop-line.earlier.keys _ c.loop-line.invariant.0
      (ap (double_after (eq_by_cmp g.K.Ord.cmp) c.loop-line.yielded) (sym c.in-Some.ensures.steps.0) ∙ c.loop-line.invariant.1)
      (was_absent _ _ c.in_ok-insert.ensures.added c.if-not-branch.false),
)
