use Rattle.std.proofs.Common.{◌≡◌, ◌++◌}
use Rattle.conf_lex.proofs.reading.append.Given as goal

-- What was put, with what is left, is the whole.
abbrev pub invariant-loop-token : goal.invariant-loop-token
invariant-loop-token l = l.tokens ++ l.token-iterator.rest.items ≡ l.fn.tokens ++ l.fn.more
