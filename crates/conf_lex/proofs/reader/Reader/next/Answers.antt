use Rattle.std.proofs.Common.{◌∙◌, sym, ap, ◌+◌, ◌∷◌, Some, ℕ}
use Rattle.conf_lex.specs.Readers.{left_of}
use Rattle.conf_lex.proofs.Joining.{next_byte, next_end, empty_of}
use Rattle.conf_lex.proofs.reader.Reader.next.Goals as goal

pub returns-in_default-clause-taken : goal.returns-in_default-clause-taken
returns-in_default-clause-taken c =
    let spot = c.self.inside.spot in
    next_end _ spot.line spot.place spot.rest.now _ _ c.past_joins-spot.result.rest.now c.self.inside.ended c.if-self.false c.self.view_is c.past_joins-spot.ensures.same (empty_of _ c.in_default.ensures.cases)

pub returns-clause-taken : goal.returns-clause-taken
returns-clause-taken c =
    let spot = c.self.inside.spot in
    let at = c.past_joins-spot.result in
    next_byte _ spot.line spot.place spot.rest.now at.line at.place c.in-Some.byte.now at.rest.now c.in-Some.rest.now c.self.inside.ended c.if-self.false c.self.view_is c.past_joins-spot.ensures.same c.past_joins-spot.ensures.settled c.in-Some.ensures.cases.0
    ∙ ap (λ (line : ℕ). record { byte = Some c.in-Some.byte.now; line = at.line; place = at.place } ∷ left_of c.self.inside.ended line (at.place + 1) c.in-Some.rest.now) (sym c.line_after.ensures.lines)
