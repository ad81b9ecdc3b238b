use Rattle.std.proofs.Common.{◌≡◌, ◌++◌, ◌+◌, ◌≤◌, map, length}
use Rattle.std.specs.List.{flat_map}
use Rattle.rde_view.specs.Import.{as_candidate}
use Rattle.rde_view.proofs.EachSession.{import_of}
use Rattle.rde_view.proofs.importing.candidates.Given as goal

-- The candidates so far, followed by those of the sessions that are left, are all; there are at most as many as sessions, and one.
abbrev pub invariant-loop-live : goal.invariant-loop-live
invariant-loop-live g l = record {
  found : map as_candidate l.found ++ flat_map (import_of l.view l.held l.rib l.prefix) l.live-iterator
      ≡ map as_candidate l.initial.found ++ flat_map (import_of l.view l.held l.rib l.prefix) l.initial.live-iterator;
  few : length l.found + length l.live-iterator ≤ 257;
}
