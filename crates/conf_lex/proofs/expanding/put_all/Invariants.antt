use Rattle.std.proofs.Common.{◌≡◌, ◌++◌, map, drop}
use Rattle.conf_tree.specs.Macros.{moved}
use Rattle.conf_lex.proofs.expanding.put_all.Given as goal

-- What was put, with what is left, is the whole.
abbrev pub invariant-loop-token : goal.invariant-loop-token
invariant-loop-token l = l.tokens ++ map (moved l.word) (drop l.token-index l.items) ≡ l.fn.tokens ++ map (moved l.word) l.items
