use Rattle.std.proofs.Common.{◌∙◌, sym}
use Rattle.conf_tree.specs.Cuts.{first_line}
use Rattle.conf_lex.specs.Views.{rules_of}
use Rattle.conf_tree.proofs.FirstLines.{left_less}
use Rattle.conf_lex.proofs.FirstLines.{read_to_fault, read_to_end, read_on}
use Rattle.conf_lex.proofs.line.first_line.Goals as goal

pub returns-in-Err : goal.returns-in-Err
returns-in-Err c =
    let r = rules_of c.args.rules in
    let at = c.loop-tokens.reader in
    read_to_fault (first_line r c.args.reader.now) r at c.loop-tokens.tokens c.in-Err.fault c.next_cut.new.reader c.loop-tokens.invariant (rw c.in-Err.is at c.in_ok-token.ensures)

pub returns-then-is_line_end : goal.returns-then-is_line_end
returns-then-is_line_end c =
    let r = rules_of c.args.rules in
    let at = c.loop-tokens.reader in
    read_to_end (first_line r c.args.reader.now) r at c.loop-tokens.tokens c.in-Ok.token c.next_cut.new.reader c.loop-tokens.invariant (rw c.in-Ok.is at c.in_ok-token.ensures) (sym c.is_line_end.ensures ∙ c.if-is_line_end.true)

pub loop-tokens-smaller : goal.loop-tokens-smaller
loop-tokens-smaller c =
    let r = rules_of c.args.rules in
    left_less r c.loop-tokens.reader c.in-Ok.token c.next_cut.new.reader (rw c.in-Ok.is at c.in_ok-token.ensures)

pub loop-tokens-preserved : goal.loop-tokens-preserved
loop-tokens-preserved c =
    let r = rules_of c.args.rules in
    read_on (first_line r c.args.reader.now) r c.loop-tokens.reader c.loop-tokens.tokens c.push.new.self c.in-Ok.token c.next_cut.new.reader c.loop-tokens.invariant (rw c.in-Ok.is at c.in_ok-token.ensures) (sym c.is_line_end.ensures ∙ c.if-is_line_end.false) c.in_ok-push.ensures.ok
