use Rattle.std.proofs.Common.{◌≡◌}
use Rattle.std.specs.Slice.Iter.{iter_rest}
use Rattle.session_core.specs.Numbers.{noted}
use Rattle.session_core.proofs.live.LiveSessions.note_all.Given as goal

-- what the frames that are left say, behind those so far, is what all say
abbrev pub invariant-loop-frame : goal.invariant-loop-frame
invariant-loop-frame l = noted (iter_rest l.frame-iterator) l.self ≡ noted l.fn.frames l.fn.self
