use Rattle.std.proofs.Common.{◌≡◌, Err, sym, ap, ◌∙◌}
use Rattle.std.proofs.lemmas.Result.{err_from_is_err_and}
use Rattle.bgpd_top.specs.Reader.{reader_count, reader_lines, reader_fault}
use Rattle.bgpd_top.specs.declared.world.WorldFault.TheVariants.{BadEvent}
use Rattle.bgpd_top.proofs.Coming.{bad_event_comes}
use Rattle.bgpd_top.proofs.replay.EventReader.next.Goals as goal

pub returns-in_err-event-clause-bad_event : goal.returns-in_err-event-clause-bad_event
returns-in_err-event-clause-bad_event g c = λ number e.
    let p = err_from_is_err_and c.from_residual-in_err-event.result c.from_residual-in_err-event.ensures.1 in
    let at_head = rw c.in-Some.is at c.in_ok-head.ensures.head in
    let same : p.0 ≡ BadEvent number = cc in
    let is_bad : c.in_err-event.field-0.0 ≡ BadEvent number = sym p.2 ∙ same in
    bad_event_comes _ c.in-Some.head (reader_count c.next_head.new.self) number c.new-held.result c.complete.new.held
    (reader_lines c.next_head.new.self (g.S.Source.left c.next_head.new.source)) (reader_lines c.complete.new.self (g.S.Source.left c.complete.new.source))
    (reader_fault c.next_head.new.self (g.S.Source.left c.next_head.new.source)) (reader_fault c.complete.new.self (g.S.Source.left c.complete.new.source))
    at_head c.new-held.ensures c.in_ok-complete.ensures.same (c.in_err-event.ensures.bad_event number (ap Err is_bad)) c.in_ok-complete.ensures.whole
