use Rattle.std.proofs.Common.{Some, subst}
use Rattle.bgpd_top.specs.Checking.{EndsCheck}
use Rattle.bgpd_top.proofs.Checked.{content_cause}
use Rattle.bgpd_top.proofs.checking.check_file.Goals as goal

-- the text read is the front of the file's content
pub returns-in-Ok-clause-cause : goal.returns-in-Ok-clause-cause
returns-in-Ok-clause-cause g c =
    content_cause c.args.verbose _ c.in-Ok.content c.check_text.result _ _ c.in-Ok.ensures.bytes
    (subst (λ text. EndsCheck c.args.verbose (Some text) c.check_text.result (g.O.Sink.written c.args.out.now) (g.O.Sink.written c.check_text.new.out)) c.as_slice.ensures c.check_text.ensures.cause)
