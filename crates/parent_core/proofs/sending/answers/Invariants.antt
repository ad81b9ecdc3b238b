use Rattle.std.proofs.Common.{◌≡◌, ◌++◌, drop, map}
use Rattle.parent_core.specs.Frames.{answered}
use Rattle.parent_core.proofs.sending.answers.Given as goal

-- the frames so far, followed by those of the changes that are left, are all
abbrev pub invariant-loop-change : goal.invariant-loop-change
invariant-loop-change l = l.frames ++ map answered (drop l.change-index l.changes) ≡ map answered l.changes
