use Rattle.std.proofs.Common.{◌≡◌, ◌++◌, ◌∷◌, [], drop, map}
use Rattle.conf_check.proofs.choices.add_followed.Given as goal

abbrev pub invariant-loop-one : goal.invariant-loop-one
invariant-loop-one g l = l.all.items ++ map (λ one. l.front ++ one ∷ []) (drop l.one-index l.list) ≡ l.initial.all.items ++ map (λ one. l.front ++ one ∷ []) l.list
