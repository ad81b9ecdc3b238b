use Rattle.std.proofs.Common.{◌∙◌, sym, ap}
use Rattle.conf_lex.specs.Readers.{left_of}
use Rattle.conf_lex.proofs.Joining.{left_done}
use Rattle.conf_lex.proofs.reader.Reader.is_done.Goals as goal

pub returns : goal.returns
returns c =
    let spot = c.self.inside.spot in
    (λ done. sym c.self.view_is ∙ ap (λ b. left_of b spot.line spot.place spot.rest.now) done, λ none. left_done c.self.inside.ended spot.line spot.place spot.rest.now (c.self.view_is ∙ none))
