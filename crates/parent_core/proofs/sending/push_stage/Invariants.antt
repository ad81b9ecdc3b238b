use Rattle.std.proofs.Common.{◌≡◌, ◌++◌}
use Rattle.parent_core.specs.Frames.{staged}
use Rattle.parent_core.proofs.sending.push_stage.Given as goal

-- the frames so far, followed by those of the items that are left, are all
abbrev pub invariant-loop-item : goal.invariant-loop-item
invariant-loop-item l = l.frames ++ staged l.core l.item-iterator.rest.items ≡ l.fn.frames ++ staged l.core l.fn.items
