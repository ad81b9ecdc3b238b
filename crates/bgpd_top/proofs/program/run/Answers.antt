use Rattle.std.proofs.Common.{◌≡◌, Some, rules, subst}
use Rattle.bgpd_top.specs.Ending.{EndsPrint}
use Rattle.bgpd_top.specs.declared.program.Command.TheVariants.{Help}
use Rattle.bgpd_top.proofs.program.run.Goals as goal

pub returns-in-Some-Help-clause-cause : goal.returns-in-Some-Help-clause-cause
returns-in-Some-Help-clause-cause g c =
    let is : c.args.command ≡ Some Help = search rules in
    rw is (subst (λ text. EndsPrint text c.write_text.result (g.O.Sink.written c.args.out.now) (g.O.Sink.written c.write_text.new.out)) c.as_bytes.ensures.value c.write_text.ensures.cause)
