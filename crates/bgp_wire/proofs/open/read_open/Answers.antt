use Rattle.std.proofs.Common.{◌≡◌, ◌∙◌, true, ap, sym, arith}
use Rattle.std.specs.Prelude.{nat_eq, slice_index}
use Rattle.std.proofs.lemmas.Bool.Decides.{nat_tests}
use Rattle.bgp_wire.specs.Message.{first_row}
use Rattle.bgp_wire.specs.Open.{answered}
use Rattle.bgp_wire.specs.Hearing.{later_rows, later_facts}
use Rattle.bgp_wire.proofs.Judging.{answer_behind}
use Rattle.bgp_wire.proofs.open.read_open.Goals as goal

pub returns : goal.returns
returns c =
    let version : nat_eq (slice_index c.args.body.now 0) 4 ≡ true = grind (arith, nat_tests) in
    c.answer.ensures
    ∙ ap (λ said. answered (first_row (later_rows said c.args.mine.now)) (later_facts said c.args.mine.now)) c.said_in-said.ensures
    ∙ sym (answer_behind c.args.body.now c.in-Some.heard c.args.mine.now version c.in-Some.ensures)
