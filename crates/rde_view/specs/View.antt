-- What the decision core was told, and the world that this makes.
use Rattle.std.specs.Prelude.{ℕ, Bool, not, List, map, find, Option, None, Some, option_and_then, option_map, option_to_list, ◌==◌}
use Rattle.std.specs.List.{flat_map}
use Rattle.std.specs.BTreeMap.{is_at}
use Rattle.std.specs.Map.{lookup, values_of}
use Rattle.net_base.specs.declared.addr.Addr.{Addr}
use Rattle.net_base.specs.Order.{addr_cmp}
use Rattle.bgp_wire.specs.declared.open.OpenFacts.{OpenFacts}
use Rattle.attr_model.specs.Routes.{RouteTable}
use Rattle.adj_rib_in.specs.Held.{Held}
use Rattle.adj_rib_in.specs.Row.{attrs_of}
use Rattle.conf_tree.specs.declared.conf.Conf.{Conf}
use Rattle.conf_tree.specs.declared.neighbour.Neighbour.{Neighbour}
use Rattle.route_world.specs.declared.world.World.{World}
use Rattle.route_world.specs.declared.world.Session.{Session}
use Rattle.route_world.specs.declared.world.Hops.TheVariants.{Answered}
use Rattle.net_base.specs.declared.prefix.Prefix.{Prefix}
use Rattle.attr_model.specs.declared.attrs.Attrs.{Attrs}
use Rattle.decision.specs.declared.candidate.Candidate.{Candidate}
use Rattle.route_world.specs.World.{neighbour_at}
use Rattle.route_world.specs.Export.{export}
use Rattle.rde_view.specs.declared.live.Live.{Live}

-- The configuration with its generation, the sessions by address, and the next hops with their answers.
pub record ViewState : Type 0 where
  pub conf : Conf
  pub generation : ℕ
  pub sessions : List (Addr × Live)
  pub answers : List (Addr × Option Bool)

-- ---- sessions

-- A session is external where its AS isn't the own one. The hold time tells nothing here.
abbrev pub facts_of : ℕ → Live → OpenFacts
facts_of own live = record {
  asn = live.asn;
  id = live.id;
  hold = 0;
  encoding = record {
    v4 = live.agreed.v4;
    v6 = live.agreed.v6;
    as4 = live.agreed.as4;
    refresh = live.agreed.refresh;
    external = not (live.asn == own);
  };
}

abbrev pub live_at : ViewState → Addr → Option Live
live_at view peer = lookup (is_at (addr_cmp peer)) view.sessions

abbrev pub live_of : ViewState → ℕ → Option Live
live_of view number = find (λ (live : Live). live.number == number) (values_of view.sessions)

-- ---- the world

-- the routes that the session of a number holds, by prefix
abbrev pub held_list : ℕ → Held → RouteTable
held_list number held = flat_map (λ row. option_to_list (option_map (λ one. (row.0, one.attrs)) (attrs_of number row.1))) held

abbrev pub session_of : ViewState → Held → Live → Session
session_of view held live = record { peer = live.peer; facts = facts_of view.conf.asn live; held = held_list live.number held }

-- the configuration, the sessions by address with what they hold, and the answers so far
abbrev pub world_of : ViewState → Held → World
world_of view held = record { conf = view.conf; sessions = map (session_of view held) (values_of view.sessions); hops = Answered view.answers }

-- ---- what sessions are told

-- what a session is told of a prefix by the best route to it
abbrev pub told_by : ViewState → Live → Prefix → Option Candidate → Option Attrs
told_by view live prefix best =
    option_and_then (λ best. option_and_then (λ neighbour. export view.conf (facts_of view.conf.asn live) neighbour prefix best) (neighbour_at view.conf live.peer)) best

-- ---- RIBs

-- the RIB of a neighbour, Loc-RIB where there is none
abbrev pub rib_or_loc : Option Neighbour → ℕ
rib_or_loc None = 0
rib_or_loc (Some neighbour) = neighbour.rib

abbrev pub rib_at : Conf → Addr → ℕ
rib_at conf peer = rib_or_loc (neighbour_at conf peer)
