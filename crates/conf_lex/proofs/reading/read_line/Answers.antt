use Rattle.std.proofs.Common.{◌∙◌, ap, ℕ, List, Option, subst}
use Rattle.conf_tree.specs.declared.token.Token.{Token}
use Rattle.conf_tree.specs.Joined.{Seen}
use Rattle.conf_tree.specs.Tokens.{line_with}
use Rattle.conf_lex.specs.Reading.{put_line}
use Rattle.conf_lex.specs.Puts.{expanded_of}
use Rattle.conf_lex.specs.Short.{AllShort}
use Rattle.conf_lex.specs.Tables.{macros_of}
use Rattle.conf_lex.specs.Views.{rules_of}
use Rattle.conf_tree.proofs.FirstLines.{all_short}
use Rattle.conf_lex.proofs.ReadingLines.{line_reads, line_faulty, unreplaced_fails}
use Rattle.conf_lex.proofs.reading.read_line.Goals as goal

pub returns-in-Err : goal.returns-in-Err
returns-in-Err c =
    unreplaced_fails (rules_of c.args.rules) (macros_of c.args.macros.now) c.args.size c.args.reader.now c.in_ok-line.field-0.tokens c.in-Err.error c.in_ok-line.ensures.same_tokens c.in-Err.ensures

pub returns-in-Err-end : goal.returns-in-Err-end
returns-in-Err-end c =
    line_faulty (rules_of c.args.rules) (macros_of c.args.macros.now) c.args.size c.args.reader.now c.in_ok-line.field-0.tokens (expanded_of c.in-Ok.replaced.line) c.in-Err-end.fault c.in_ok-line.ensures.same_tokens (rw c.in-Err-end.is at c.in_ok-line.ensures.same_end) c.in-Ok.ensures.same_line

pub with_definition-requires : goal.with_definition-requires
with_definition-requires c =
    subst (λ (tokens : List Token). AllShort tokens) c.in_ok-line.ensures.same_tokens (all_short (rules_of c.args.rules) 134217729 c.args.reader.now c.requires)

pub returns : goal.returns
returns c =
    let macros = macros_of c.args.macros.now in
    let line = expanded_of c.in-Ok.replaced.line in
    let end : Token × List Seen = (c.in-Ok-end.end, c.first_line.new.reader) in
    line_reads (rules_of c.args.rules) macros c.args.size c.args.reader.now c.in_ok-line.field-0.tokens c.in-Ok-end.end c.first_line.new.reader line c.args.tokens.now _ c.in_ok-line.ensures.same_tokens (rw c.in-Ok-end.is at c.in_ok-line.ensures.same_end) c.in-Ok.ensures.same_line
    (ap (λ (definition : Option (List ℕ × List Token)). put_line c.args.tokens.now (line_with macros line end definition)) c.in-Ok.ensures.same_definition
    ∙ c.in_ok-finish.ensures c.first_line.new.reader)
