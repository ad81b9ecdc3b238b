use Rattle.session_core.proofs.Rules.{reconfigured}
use Rattle.session_core.proofs.neighbours.reconfigure.Goals as goal

pub returns : goal.returns
returns c =
    reconfigured c.args.settings c.args.now c.args.neighbour.now c.configure.new.self c.args.done.now c.configure.new.done c.configure.result
    c.configure.ensures.changed c.configure.ensures.same
