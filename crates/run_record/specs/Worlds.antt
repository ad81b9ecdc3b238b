-- The world that events and answers tell of, and what is right in it whenever an answer says quiet.
use Rattle.std.specs.Prelude.{◌≡◌, ℕ, ◌≤◌, Bool, true, false, not, List, [], ◌∷◌, filter, flat_map, length, Option, option_to_list, IfSome}
use Rattle.std.specs.List.{Contains, list_any}
use Rattle.std.specs.BTreeSet.{insert_key}
use Rattle.std.specs.Ordering.{eq_by_cmp}
use Rattle.net_base.specs.declared.addr.Addr.{Addr}
use Rattle.net_base.specs.declared.prefix.Prefix.{Prefix}
use Rattle.net_base.specs.Order.{prefix_cmp}
use Rattle.conf_tree.specs.declared.conf.Conf.{Conf}
use Rattle.conf_tree.specs.declared.neighbour.Neighbour.{Neighbour}
use Rattle.update_codec.specs.Held.{told}
use Rattle.filter_engine.specs.Conditions.{same_address}
use Rattle.route_world.specs.declared.world.World.{World}
use Rattle.route_world.specs.declared.world.Session.{Session}
use Rattle.route_world.specs.declared.world.Hops.TheVariants.{Routed}
use Rattle.route_world.specs.World.{neighbour_at}
use Rattle.route_world.specs.Tables.{out}
use Rattle.core_msgs.specs.declared.event.Event.{Event}
use Rattle.core_msgs.specs.declared.event.Event.TheVariants as event
use Rattle.core_msgs.specs.declared.answer.Line.{Line}
use Rattle.core_msgs.specs.declared.answer.Line.TheVariants as line
use Rattle.run_record.specs.Run.{History, conf}
use Rattle.run_record.specs.Sessions.{peers_up, session_at, sent_to}

-- ---- the kernel's routes

abbrev pub route_told : List Prefix → Event → Line → List Prefix
route_told routes (event.KernelRoute prefix true) line.Ok = insert_key prefix_cmp routes prefix
route_told routes (event.KernelRoute prefix false) line.Ok = filter (λ other. not (eq_by_cmp prefix_cmp other prefix)) routes
route_told routes _ _ = routes

-- the prefixes of the kernel's routes that are up, in order
abbrev pub kernel_routes : History → List Prefix
kernel_routes [] = []
kernel_routes (step ∷ before) = route_told (kernel_routes before) step.event step.answer.last

-- ---- the world

-- the last accepted configuration, the sessions that are up, by address, and the kernel's routes
unfoldable pub world_of : History → World
world_of h = record {
  conf = conf h;
  sessions = flat_map (λ peer. option_to_list (session_at h peer)) (peers_up h);
  hops = Routed (kernel_routes h);
}

-- ---- what is right at quiet

abbrev pub is_among : List Addr → Addr → Bool
is_among peers peer = list_any (same_address peer) peers

-- A neighbour holds no more routes than it may announce.
abbrev pub IsWithinMost : Conf → Session → Type 0
IsWithinMost conf session = IfSome (neighbour_at conf session.peer) (λ neighbour. IfSome neighbour.max_prefix (λ most. length session.held ≤ most))

-- What the bytes sent to each session leave is what the world says that it is told, those of stalled neighbours apart, and every
-- session holds no more routes than it may.
pub record IsRight (h : History) (excepted : List Addr) : Type 0 where
  pub told : (session : Session) → Contains (world_of h).sessions session → is_among excepted session.peer ≡ false →
      told session.facts.encoding (sent_to session.peer h) ≡ out (world_of h) session
  pub bounded : (session : Session) → Contains (world_of h).sessions session → IsWithinMost (conf h) session
