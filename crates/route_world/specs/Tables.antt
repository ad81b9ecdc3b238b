-- The tables that follow from a world: its RIBs, what each session is told, and the kernel tables.
use Rattle.std.specs.Prelude.{ℕ, ◌+◌, Bool, true, false, not, ◌&&◌, List, [], ◌∷◌, ◌++◌, map, filter, length, find, position, Option, Some, None, option_map, option_and_then, option_to_list, ◌==◌, if◌then◌else◌}
use Rattle.std.specs.List.{flat_map, fold, list_any}
use Rattle.net_base.specs.declared.addr.Addr.{Addr}
use Rattle.net_base.specs.declared.prefix.Prefix.{Prefix}
use Rattle.attr_model.specs.declared.attrs.Attrs.{Attrs}
use Rattle.attr_model.specs.Routes.{RouteTable}
use Rattle.conf_tree.specs.declared.conf.Conf.{Conf}
use Rattle.conf_tree.specs.declared.conf.Rib.{Rib}
use Rattle.conf_tree.specs.declared.neighbour.Neighbour.{Neighbour}
use Rattle.decision.specs.declared.candidate.Candidate.{Candidate}
use Rattle.decision.specs.Best.{best_of}
use Rattle.route_world.specs.declared.world.World.{World}
use Rattle.route_world.specs.declared.world.Session.{Session}
use Rattle.route_world.specs.World.{neighbour_at, known_prefixes}
use Rattle.route_world.specs.Import.{candidates}
use Rattle.route_world.specs.Export.{export, is_local}

-- the best route to a prefix in a RIB
abbrev pub best_at : World → ℕ → Prefix → Option Candidate
best_at world rib prefix = best_of world.conf.med_always (candidates world rib prefix)

-- ---- what sessions are told

abbrev pub told_at_neighbour : World → Session → Prefix → Neighbour → Option Attrs
told_at_neighbour world session prefix neighbour =
    option_and_then (export world.conf session.facts neighbour prefix) (best_at world neighbour.rib prefix)

-- what a session is told of a prefix: the best of its RIB, by the rules of export
unfoldable pub told_at : World → Session → Prefix → Option Attrs
told_at world session prefix = option_and_then (told_at_neighbour world session prefix) (neighbour_at world.conf session.peer)

-- an entry for a prefix that has a value
abbrev pub entry_if : {A : Type 0} → (Prefix → Option A) → Prefix → List (Prefix × A)
entry_if at prefix = option_to_list (option_map (λ found. (prefix, found)) (at prefix))

-- by prefix, the routes that a session is told (RFC 4271 section 3.2, Adj-RIB-Out)
unfoldable pub out : World → Session → RouteTable
out world session = flat_map (entry_if (told_at world session)) (known_prefixes world)

-- ---- kernel tables

-- the number of the RIB whose routes a kernel table takes: Loc-RIB has table 0
abbrev pub has_table : ℕ → Option ℕ → Bool
has_table table None = false
has_table table (Some number) = number == table

abbrev pub rib_of_table : Conf → ℕ → Option ℕ
rib_of_table conf table =
    if table == 0 then Some 0 else option_map (λ at. at + 1) (position (λ (rib : Rib). has_table table rib.table) conf.ribs)

-- the next hop of the best, where that came from a neighbour
abbrev pub hop_of : Candidate → Option Addr
hop_of best = if is_local best.from then None else Some best.attrs.attrs.hop

abbrev pub wanted_at : World → ℕ → Prefix → Option Addr
wanted_at world rib prefix = option_and_then hop_of (best_at world rib prefix)

abbrev pub rows_of_rib : World → Option ℕ → List (Prefix × Addr)
rows_of_rib world None = []
rows_of_rib world (Some rib) = flat_map (entry_if (wanted_at world rib)) (known_prefixes world)

-- by prefix, the next hops that a kernel table is to have
unfoldable pub fib : World → ℕ → List (Prefix × Addr)
fib world table = rows_of_rib world (rib_of_table world.conf table)
