use Rattle.std.proofs.Common.{◌≡◌, ◌≤◌, ◌+◌, drop}
use Rattle.conf_tree.specs.Macros.{text_size, most_replaced}
use Rattle.conf_lex.proofs.expanding.size_behind.Given as goal

-- The size so far, with that of what is left, is the whole.
abbrev pub invariant-loop-token : goal.invariant-loop-token
invariant-loop-token l = record {
  within : l.after ≤ most_replaced;
  so_far : l.after + text_size (drop l.token-index l.items) ≡ l.fn.size + text_size l.items;
}
