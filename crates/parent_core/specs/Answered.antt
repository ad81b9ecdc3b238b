-- The last answers that the parent gave on next hops.
use Rattle.std.specs.Prelude.{Bool, List, [], ◌∷◌, Option, Some, None, if◌then◌else◌}
use Rattle.std.specs.Ordering.{eq_by_cmp}
use Rattle.net_base.specs.declared.addr.Addr.{Addr}
use Rattle.net_base.specs.Order.{addr_cmp}
use Rattle.core_msgs.specs.declared.frame.Frame.{Frame}
use Rattle.core_msgs.specs.declared.frame.Frame.TheVariants as frames
use Rattle.core_msgs.specs.declared.parts.Core.{Core}
use Rattle.parent_core.specs.History.{History, given, kept}

-- an answer, or the older one where there is none
abbrev pub or_older : Option Bool → Option Bool → Option Bool
or_older (Some valid) older = Some valid
or_older None older = older

-- what a frame answers on an address
abbrev pub said_of : Addr → Frame → Option Bool
said_of a (frames.Nexthop hop valid) = if eq_by_cmp addr_cmp a hop then Some valid else None
said_of a frame = None

-- what the last of the frames says that answers on an address
abbrev pub last_said : Addr → List (Core × Frame) → Option Bool
last_said a [] = None
last_said a (sent ∷ later) = or_older (last_said a later) (said_of a sent.1)

-- the last answer on an address
abbrev pub last_answer : Addr → History → Option Bool
last_answer a [] = None
last_answer a (step ∷ h) = or_older (last_said a (given step (kept h)).frames) (last_answer a h)
