use Rattle.session_core.proofs.Lines.{reports_are_so}
use Rattle.session_core.proofs.laws.reports_are_of_their_kinds.Goals as goal

pub returns : goal.returns
returns c = reports_are_so
