use Rattle.std.proofs.Common.{◌≡◌, [], ◌≤◌, ◌+◌, ◌++◌, length}
use Rattle.std.specs.Prelude.{vec_capacity}
use Rattle.net_base.specs.declared.prefix.Prefix.{Prefix}
use Rattle.adj_rib_in.specs.Held.{held_at, held_but, routes_of}
use Rattle.adj_rib_in.specs.Uses.{kept, refs_of_routes, Swaps}
use Rattle.adj_rib_in.proofs.by_prefix.RowsByPrefix.drop_all.Given as goal

-- What was taken out, followed by what is left to take, is the whole.
abbrev pub invariant-loop-prefix : goal.invariant-loop-prefix
invariant-loop-prefix l = record {
  rows : (p : Prefix) → held_but l.session l.prefixes.keys (held_at l.self) p ≡ held_but l.session l.initial.prefixes.keys (held_at l.initial.self) p;
  dropped : l.dropped.items ++ routes_of l.session l.prefixes.keys l.self ≡ routes_of l.session l.initial.prefixes.keys l.initial.self;
  swaps : Swaps (kept l.initial.self) (kept l.self) [] (refs_of_routes l.dropped.items);
  room : length l.prefixes.keys + length l.dropped.items ≤ vec_capacity l.dropped;
}

abbrev pub decreases-loop-prefix : goal.decreases-loop-prefix
decreases-loop-prefix l = length l.prefixes.keys
