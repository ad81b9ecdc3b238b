-- The session core, as contracts see it.
use Rattle.std.specs.Prelude.{ℕ, Bool, false, List, [], Option, Some, None}
use Rattle.std.specs.BTreeMap.{is_at}
use Rattle.std.specs.Map.{lookup}
use Rattle.std.specs.Ordering.{nat_cmp}
use Rattle.net_base.specs.declared.addr.Addr.{Addr}
use Rattle.net_base.specs.contracts.addr.AddrOrd.TheImpl.{cmp-value as addr_order}
use Rattle.conf_tree.specs.declared.conf.Conf.{Conf}
use Rattle.conf_tree.specs.Empty.{empty_conf}
use Rattle.reload_stage.specs.Stages.{Taken, nothing_taken}
use Rattle.peer_session.specs.Neighbour.{Neighbour}

-- the neighbours of the configuration, by address
abbrev pub Peers : Type 0
Peers = List (Addr × Neighbour)

-- the neighbour of each session that is up by the session's number, and the number of the last one that came up
pub record Live : Type 0 where
  pub peers : List (ℕ × Addr)
  pub last : ℕ

pub record Sessions : Type 0 where
  pub conf : Conf
  -- the time that was told last, in seconds
  pub moment : ℕ
  pub neighbours : Peers
  pub live : Live
  -- what was taken of the next configuration
  pub assembly : Taken
  pub spent : Bool

-- before the first call
abbrev pub new_sessions : Sessions
new_sessions = record {
  conf = empty_conf;
  moment = 0;
  neighbours = [];
  live = record { peers = []; last = 0 };
  assembly = nothing_taken;
  spent = false;
}

-- whether an address is this one, by the order of addresses
abbrev pub is_peer : Addr → Addr → Bool
is_peer peer = is_at (addr_order.it peer)

-- the neighbour of that address
abbrev pub peer_at : Addr → Peers → Option Neighbour
peer_at peer peers = lookup (is_peer peer) peers

-- the neighbour of the session of that number, if it is up
abbrev pub live_peer : ℕ → Live → Option Addr
live_peer session live = lookup (is_at (nat_cmp session)) live.peers

-- what waits to be sent to a neighbour
abbrev pub outbox_at : Option Neighbour → List ℕ
outbox_at None = []
outbox_at (Some n) = n.outbox.bytes

abbrev pub stalled_at : Option Neighbour → Bool
stalled_at None = false
stalled_at (Some n) = n.stalled
