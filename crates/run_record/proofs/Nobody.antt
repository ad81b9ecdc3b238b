-- Where no session is up, everything that sessions were sent is right.
use Rattle.std.proofs.Common.{◌≡◌, ℕ, List, [], length, flat_map, option_to_list, ap, arith}
use Rattle.net_base.specs.declared.addr.Addr.{Addr}
use Rattle.route_world.specs.declared.world.World.{World}
use Rattle.route_world.specs.declared.world.Session.{Session}
use Rattle.run_record.specs.Run.{History}
use Rattle.run_record.specs.Sessions.{peers_up, session_at}
use Rattle.run_record.specs.Worlds.{world_of, IsRight}
use Rattle.std.specs.List.{Contains}

no_sessions : (h : History) → peers_up h ≡ [] → (world_of h).sessions ≡ []
unfolding world_of
no_sessions h nobody = ap (flat_map (λ peer. option_to_list (session_at h peer))) nobody

none_is_there : (session : Session) (sessions : List Session) → sessions ≡ [] → Contains sessions session → ⊥
none_is_there session sessions e there = omega (arith, there.1, ap length e)

pub right_without_sessions : (h : History) (excepted : List Addr) → peers_up h ≡ [] → IsRight h excepted
right_without_sessions h excepted nobody = record {
  told = λ session there other. absurd (none_is_there session _ (no_sessions h nobody) there);
  bounded = λ session there. absurd (none_is_there session _ (no_sessions h nobody) there);
}
