use Rattle.std.proofs.Common.{◌≡◌, ◌++◌, drop}
use Rattle.conf_lex.proofs.values.copies.Given as goal

-- The copies so far, with what is left, are the whole.
abbrev pub invariant-loop-token : goal.invariant-loop-token
invariant-loop-token l = l.list ++ drop l.token-index l.tokens ≡ l.tokens
