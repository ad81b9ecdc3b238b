use Rattle.frame_codec.proofs.Payloads.{frame_there, frame_only}
use Rattle.frame_codec.proofs.laws.frames_read_back.Goals as goal

pub returns-clause-there : goal.returns-clause-there
returns-clause-there c frame fits = frame_there frame fits

pub returns-clause-only : goal.returns-clause-only
returns-clause-only c number session payload frame are e = frame_only number session payload frame are e
