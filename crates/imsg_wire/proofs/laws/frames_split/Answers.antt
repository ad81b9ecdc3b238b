use Rattle.imsg_wire.proofs.Fronts.{front_of-append_bad, front_of-written, frame_size}
use Rattle.imsg_wire.proofs.Stream.{frames_step, frames_written, frames_on}
use Rattle.imsg_wire.proofs.laws.frames_split.Goals as goal

pub returns-clause-step : goal.returns-clause-step
returns-clause-step c bytes = frames_step bytes

pub returns-clause-written : goal.returns-clause-written
returns-clause-written c raws rest each = frames_written raws rest each

pub returns-clause-goes_on : goal.returns-clause-goes_on
returns-clause-goes_on c bytes more none = frames_on bytes more none

pub returns-clause-for_ever : goal.returns-clause-for_ever
returns-clause-for_ever c bytes more size bad = front_of-append_bad bytes more size bad

pub returns-clause-front : goal.returns-clause-front
returns-clause-front c raw rest fits = front_of-written raw rest fits

pub returns-clause-size : goal.returns-clause-size
returns-clause-size c raw = frame_size raw
