use Rattle.event_text.proofs.Transcripts.{read_back}
use Rattle.event_text.proofs.laws.transcripts_are_read_as_their_answers.Goals as goal

pub returns : goal.returns
returns c = read_back
