use Rattle.std.proofs.Common.{ap, ◌∙◌, codes, decimal}
use Rattle.std.specs.Io.KnownBytes.{append_known}
use Rattle.bgpd_top.proofs.ServingLemmas.{append_thrice}
use Rattle.bgpd_top.proofs.status.write_bad_event.Goals as goal

pub returns-clause-told : goal.returns-clause-told
returns-clause-told g c =
    append_thrice (g.E.Sink.written c.args.err.now) (g.E.Sink.written c.write.new.self) (g.E.Sink.written c.write-2.new.self) (g.E.Sink.written c.write-3.new.self)
    (codes "line ") (decimal c.args.line) (codes ": bad event\n") c.in_ok-write.ensures.all
    (c.in_ok-write-2.ensures.all ∙ ap (append_known (g.E.Sink.written c.write.new.self)) (c.as_bytes.ensures.value ∙ c.format-number.ensures.text))
    c.in_ok-write-3.ensures.all
