use Rattle.std.proofs.Common.{◌∙◌, sym}
use Rattle.conf_lex.specs.Views.{rules_of}
use Rattle.conf_lex.specs.Parts.{goes_on}
use Rattle.conf_lex.proofs.Runs.{passed_on, passed_off}
use Rattle.conf_lex.proofs.run.pass.Goals as goal

pub loop-rules-preserved : goal.loop-rules-preserved
loop-rules-preserved c =
    passed_on (goes_on (rules_of c.args.rules) c.args.part) c.loop-rules.reader c.next_in.new.reader c.next_in.result c.next_in.ensures.taken (sym c.is_some.ensures ∙ c.loop-rules-test.true)
    ∙ c.loop-rules.invariant

pub returns : goal.returns
returns c =
    passed_off (goes_on (rules_of c.args.rules) c.args.part) c.loop-rules.reader c.next_in.new.reader c.next_in.result c.next_in.ensures.taken (sym c.is_some.ensures ∙ c.loop-rules-test.false)
    ∙ c.loop-rules.invariant
