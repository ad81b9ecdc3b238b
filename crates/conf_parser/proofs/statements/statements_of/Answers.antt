use Rattle.std.proofs.Common.{◌≡◌, ◌==◌, ◌∙◌, sym, length, false, Ok}
use Rattle.conf_tree.specs.StatementReading.{all_room, after_empty_lines, statement_line_at, statements_at}
use Rattle.conf_parser.proofs.StatementLoop.{goes_on}
use Rattle.conf_parser.proofs.statements.statements_of.Goals as goal

pub loop-preserved : goal.loop-preserved
loop-preserved c =
    let some : (length (after_empty_lines c.loop.rest) == 0) ≡ false = rw (sym c.skip_empty_lines.ensures) (sym c.is_empty.ensures ∙ c.if-is_empty.false) in
    let h : statement_line_at c.loop.room (after_empty_lines c.loop.rest) ≡ Ok (c.in_ok-line.line, c.statement_line.new.self) = rw (sym c.skip_empty_lines.ensures) c.in_ok-line.ensures in
    rw (c.in_ok-push.ensures.ok, c.room_behind-room.ensures)
    (goes_on c.loop.statements c.loop.room (length c.args.tokens.now) c.loop.counter c.loop.rest c.in_ok-line.line c.statement_line.new.self
    (statements_at all_room (length c.args.tokens.now) c.args.tokens.now) c.loop-test.true some h c.loop.invariant)
