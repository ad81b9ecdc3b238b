use Rattle.attr_codec.proofs.Frames.{frame_back, frame_only}
use Rattle.attr_codec.proofs.laws.frame_attributes_read_back.Goals as goal

pub returns-clause-there : goal.returns-clause-there
returns-clause-there c attrs is = frame_back attrs is

pub returns-clause-only : goal.returns-clause-only
returns-clause-only c hop weight bytes attrs are found = frame_only hop weight bytes attrs are found
