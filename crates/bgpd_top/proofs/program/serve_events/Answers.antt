use Rattle.std.proofs.Common.{◌≡◌, Option, [], subst, ap, ◌∙◌, rules}
use Rattle.event_text.specs.Grammar.{FileEvents}
use Rattle.bgpd_top.specs.Serving.{Ends, CountsServing}
use Rattle.bgpd_top.specs.Reader.{to_come}
use Rattle.bgpd_top.proofs.Replaying.{replayed, counts_mute}
use Rattle.bgpd_top.proofs.program.serve_events.Goals as goal

-- the world's events are those of the file
pub returns-clause-transcript : goal.returns-clause-transcript
returns-clause-transcript g c =
    let P : Option FileEvents → Type 0 = λ events. Ends events (g.O.Sink.written c.args.out.now) (g.O.Sink.written c.serve.new.out) c.serve.result in
    let reader = ap (λ r. to_come r (g.I.Source.left c.new-world.result.source.now)) c.new-world.ensures.reader.1 in
    let source = ap (λ s. to_come c.in-Ok-new.reader (g.I.Source.left s)) c.new-world.ensures.source.1 in
    subst P (reader ∙ source ∙ c.in-Ok-new.ensures.ahead.whole (g.I.Source.left c.args.input.now))
    (replayed (λ world. to_come world.reader.now (g.I.Source.left world.source.now)) c.serve.result c.serve.new.router c.new-world.result c.serve.new.world _ _
    (c.serve.ensures.served [] c.in-Ok.ensures))

-- the world's outside is the source
pub returns-clause-counts : goal.returns-clause-counts
returns-clause-counts g c =
    let names = c.serve.ensures.borrows in
    let back : c.serve.new.world.source.now ≡ c.input-1.given.0 = search rules in
    let P : _ → Type 0 = λ input. CountsServing (g.I.Source.faults input) (g.I.Source.faults c.serve.new.world.source.now)
    (g.O.Sink.faults c.args.out.now) (g.O.Sink.faults c.serve.new.out) c.serve.result in
    let Q : _ → Type 0 = λ last. CountsServing (g.I.Source.faults c.args.input.now) (g.I.Source.faults last)
    (g.O.Sink.faults c.args.out.now) (g.O.Sink.faults c.serve.new.out) c.serve.result in
    subst Q back (subst P c.new-world.ensures.source.1 (counts_mute c.serve.result _ _ _ _ c.serve.ensures.counts))
