-- How the neighbours become those of a new configuration.
use Rattle.std.specs.Prelude.{ℕ, Bool, true, false, not, ◌&&◌, ◌==◌, List, [], fold, Option, Some, None}
use Rattle.std.specs.BTreeMap.{insert_entry}
use Rattle.std.specs.Map.{keys_of, remove_entry}
use Rattle.net_base.specs.declared.addr.Addr.{Addr}
use Rattle.net_base.specs.contracts.addr.AddrOrd.TheImpl.{cmp-value as addr_order}
use Rattle.conf_tree.specs.declared.conf.Conf.{Conf}
use Rattle.conf_tree.specs.declared.neighbour.Neighbour.{Neighbour as Configured}
use Rattle.bgp_wire.specs.declared.open.OpenRules.{OpenRules}
use Rattle.peer_session.specs.declared.neighbour.Settings.{Settings}
use Rattle.peer_session.specs.Neighbour.{Course, Neighbour}
use Rattle.peer_session.specs.Calls.{comes, configures, fresh, leaves}
use Rattle.session_core.specs.Sessions.{Peers, is_peer, peer_at}
use Rattle.session_core.specs.Courses.{Courses, course_of, with_course}

-- what a configuration says of the sessions with one of its neighbours
abbrev pub settings_in : Conf → Configured → Settings
settings_in conf n = record {
  rules = record {
    asn = conf.asn;
    remote_as = n.remote_as;
    router_id = conf.router_id;
    hold = n.hold;
    hold_min = n.hold_min;
    v4 = n.announce_v4;
    v6 = n.announce_v6;
    refresh = n.announce_refresh;
    as4 = n.announce_as_4byte;
  };
  passive = n.passive;
  down = n.down;
}

-- What becomes of each neighbour that is there or is to come, by address: its settings, or none where it goes.
abbrev pub Plan : Type 0
Plan = List (Addr × Option Settings)

-- these go
abbrev pub leaving : List Addr → Plan → Plan
leaving peers plan = fold (λ plan peer. insert_entry addr_order.it plan peer None) plan peers

-- these stay or come
abbrev pub planned : Conf → List Configured → Plan → Plan
planned conf ns plan = fold (λ plan n. insert_entry addr_order.it plan n.address (Some (settings_in conf n))) plan ns

-- All that are there go, but for those of the configuration.
abbrev pub plan_of : Conf → Peers → Plan
plan_of conf peers = planned conf conf.neighbours (leaving (keys_of peers) [])

abbrev pub same_flag : Bool → Bool → Bool
same_flag true flag = flag
same_flag false flag = not flag

-- Whether the rules of its sessions are as they were: the own AS and identifier, the neighbour's AS, the hold times, and all that is
-- announced.
abbrev pub same_rules : OpenRules → OpenRules → Bool
same_rules a b =
    (a.asn == b.asn) && ((a.remote_as == b.remote_as) && ((a.router_id == b.router_id) && ((a.hold == b.hold) && ((a.hold_min == b.hold_min)
    && (same_flag a.v4 b.v4 && (same_flag a.v6 b.v6 && (same_flag a.refresh b.refresh && same_flag a.as4 b.as4)))))))

-- A neighbour has new settings.
abbrev pub reconfigures : Settings → ℕ → Course → Course
reconfigures settings now c = configures (not (same_rules c.neighbour.settings.rules settings.rules)) settings now c

-- A neighbour comes.
abbrev pub comes_at : Addr → Settings → ℕ → Courses → Courses
comes_at peer settings now c =
    let one = comes now (course_of (fresh peer settings) c) in
    record { peers = insert_entry addr_order.it c.peers peer one.neighbour; lines = one.lines; frames = one.frames }

-- A neighbour goes: its session ends with 6/3 (RFC 4486).
abbrev pub leaves_from : Addr → ℕ → Neighbour → Courses → Courses
leaves_from peer now n c =
    let one = leaves now (course_of n c) in
    record { peers = remove_entry (is_peer peer) c.peers; lines = one.lines; frames = one.frames }

abbrev pub changes_found : Addr → Option Settings → ℕ → Option Neighbour → Courses → Courses
changes_found peer (Some settings) now (Some n) c = with_course peer (reconfigures settings now (course_of n c)) c
changes_found peer (Some settings) now None c = comes_at peer settings now c
changes_found peer None now (Some n) c = leaves_from peer now n c
changes_found peer None now None c = c

-- A neighbour has new settings, comes, or goes.
abbrev pub changes : ℕ → Courses → Addr × Option Settings → Courses
changes now c change = changes_found change.0 change.1 now (peer_at change.0 c.peers) c

-- The neighbours become those of a configuration, one behind the other by address.
abbrev pub reloads : Plan → ℕ → Courses → Courses
reloads plan now c = fold (changes now) c plan
