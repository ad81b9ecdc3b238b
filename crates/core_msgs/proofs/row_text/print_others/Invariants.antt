use Rattle.std.proofs.Common.{◌≡◌, ◌++◌, drop, flat_map, codes, decimal}
use Rattle.core_msgs.proofs.row_text.print_others.Given as goal

-- the bytes so far, followed by what is to come, are the whole
abbrev pub invariant-loop-number : goal.invariant-loop-number
invariant-loop-number l = l.out ++ flat_map (λ n. codes "," ++ decimal n) (drop l.number-index l.numbers) ≡ l.fn.out ++ flat_map (λ n. codes "," ++ decimal n) l.numbers
