use Rattle.std.proofs.Common.{◌≡◌, drop}
use Rattle.conf_tree.specs.Macros.{expanded}
use Rattle.conf_lex.specs.Puts.{put_behind}
use Rattle.conf_lex.specs.Tables.{macros_of}
use Rattle.conf_lex.proofs.expanding.with_macros_replaced.Given as goal

-- What the tokens so far gave, with what those that are left give, is the whole.
abbrev pub invariant-loop-token : goal.invariant-loop-token
invariant-loop-token l = put_behind l.all.tokens (expanded (macros_of l.macros) l.all.size (drop l.token-index l.items)) ≡ expanded (macros_of l.macros) l.fn.size l.items
