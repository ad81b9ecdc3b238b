-- The numbers of sessions, by the frames that were written.
use Rattle.std.specs.Prelude.{List, fold}
use Rattle.std.specs.BTreeMap.{insert_entry, is_at}
use Rattle.std.specs.Map.{remove_entry}
use Rattle.std.specs.Ordering.{nat_cmp}
use Rattle.core_msgs.specs.declared.frame.Frame.{Frame}
use Rattle.core_msgs.specs.declared.frame.Frame.TheVariants as frames
use Rattle.core_msgs.specs.declared.parts.Core.{Core}
use Rattle.session_core.specs.Sessions.{Live}

-- a session came up, or went down
abbrev pub noted_frame : Frame → Live → Live
noted_frame (frames.Up session peer asn id agreed) live = record { peers = insert_entry nat_cmp live.peers session peer; last = session }
noted_frame (frames.Down session) live = record live { peers = remove_entry (is_at (nat_cmp session)) live.peers }
noted_frame frame live = live

-- what the frames say, one behind the other
abbrev pub noted : List (Core × Frame) → Live → Live
noted written live = fold (λ live sent. noted_frame sent.1 live) live written
