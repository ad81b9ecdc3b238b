use Rattle.std.proofs.Common.{◌≡◌, ◌++◌, drop}
use Rattle.parent_core.specs.Frames.{staged}
use Rattle.parent_core.proofs.sending.copied.Given as goal

-- the frames so far, followed by those of the items that are left, are all
abbrev pub invariant-loop-item : goal.invariant-loop-item
invariant-loop-item l = l.frames ++ staged l.core (drop l.item-index l.items) ≡ staged l.core l.items
