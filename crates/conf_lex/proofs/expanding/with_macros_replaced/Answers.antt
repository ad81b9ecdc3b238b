use Rattle.std.proofs.Common.{drop, ◌+◌, List, subst}
use Rattle.conf_tree.specs.declared.token.Token.{Token}
use Rattle.conf_tree.specs.Macros.{expanded}
use Rattle.conf_lex.specs.Puts.{expanded_of}
use Rattle.conf_lex.specs.Tables.{macros_of}
use Rattle.conf_lex.specs.Gives.{Fails}
use Rattle.conf_lex.proofs.Replacing.{replaced_on, replaced_fails, items_at}
use Rattle.conf_lex.proofs.expanding.with_macros_replaced.Goals as goal

pub loop-token-preserved : goal.loop-token-preserved
loop-token-preserved c =
    let items = c.as_slice-items.result.now in
    let i = c.loop-token.token-index in
    let all = c.loop-token.all in
    replaced_on (macros_of c.args.macros.now) (expanded (macros_of c.args.macros.now) c.args.size items) all.tokens all.size (expanded_of c.put.new.self) (drop i items) c.token-item.result (drop (i + 1) items) (items_at items i c.token-item.result c.loop-token-test.true c.token-item.is) c.loop-token.invariant c.in-Ok.ensures

pub returns-in-Err : goal.returns-in-Err
returns-in-Err c =
    let items = c.as_slice-items.result.now in
    let i = c.loop-token.token-index in
    let all = c.loop-token.all in
    let fails = replaced_fails (macros_of c.args.macros.now) (expanded (macros_of c.args.macros.now) c.args.size items) all.tokens all.size (drop i items) c.token-item.result (drop (i + 1) items) c.in-Err.error (items_at items i c.token-item.result c.loop-token-test.true c.token-item.is) c.loop-token.invariant c.in-Err.ensures in
    subst (λ (tokens : List Token). Fails c.in-Err.error (expanded (macros_of c.args.macros.now) c.args.size tokens)) c.as_slice-items.ensures fails
