-- What a call of the parent gives: the lines that it reports, and the frames that it writes to other cores.
use Rattle.std.specs.Prelude.{List, [], ◌∷◌, map}
use Rattle.core_msgs.specs.declared.answer.Line.{Line}
use Rattle.core_msgs.specs.declared.frame.Done.{Done}
use Rattle.core_msgs.specs.declared.frame.Frame.{Frame}
use Rattle.core_msgs.specs.declared.frame.Frame.TheVariants as frames
use Rattle.core_msgs.specs.declared.parts.Core.{Core}
use Rattle.core_msgs.specs.declared.parts.Core.TheVariants.{Decision}
use Rattle.nexthop_track.specs.declared.hops.HopChange.{HopChange}
use Rattle.reload_stage.specs.declared.item.StageItem.{StageItem}
use Rattle.reload_stage.specs.declared.item.StageItem.TheVariants.{Begin, Piece, Commit}

-- an item of a stage as a frame
abbrev pub frame_of : StageItem → Frame
frame_of (Begin generation size) = frames.Begin generation size
frame_of (Piece piece) = frames.Piece piece
frame_of (Commit generation) = frames.Commit generation

-- a stage as frames to a core
abbrev pub staged : Core → List StageItem → List (Core × Frame)
staged core items = map (λ item. (core, frame_of item)) items

-- an answer on a next hop as a frame to the decision core
abbrev pub answered : HopChange → Core × Frame
answered change = (Decision, frames.Nexthop change.addr change.valid)

abbrev pub nothing : Done
nothing = record { lines = []; frames = [] }

abbrev pub only_line : Line → Done
only_line line = record { lines = line ∷ []; frames = [] }

abbrev pub only_frames : List (Core × Frame) → Done
only_frames written = record { lines = []; frames = written }
