use Rattle.peer_io.proofs.Fronts.{came_says}
use Rattle.peer_io.proofs.laws.messages_through_an_inbox.Goals as goal

pub returns : goal.returns
returns c = came_says
