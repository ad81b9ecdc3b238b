use Rattle.net_base.proofs.Written.{appends_text}
use Rattle.net_base.proofs.printing.Bytes.write_fmt.Goals as goal

pub returns-in-Ok : goal.returns-in-Ok
returns-in-Ok g c = appends_text c.args.self.now c.write.new.self (g.D.Display.output c.args.value) c.in-Ok.ensures.writes
