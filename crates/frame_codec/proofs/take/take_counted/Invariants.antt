use Rattle.std.proofs.Common.{◌≡◌, ◌-◌}
use Rattle.frame_codec.specs.Fields.{items_at, exact_prefix_at}
use Rattle.frame_codec.proofs.Taken.{behind}
use Rattle.frame_codec.proofs.take.take_counted.Given as goal

-- those that were taken, followed by what the rest gives, are what the whole gives
abbrev pub invariant-loop-i : goal.invariant-loop-i
invariant-loop-i l =
    items_at (exact_prefix_at l.family) l.count l.initial.left ≡ behind l.prefixes (items_at (exact_prefix_at l.family) (l.count - l.i) l.left)
