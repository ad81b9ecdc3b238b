-- What the session core answers by itself to control commands: rows of its neighbours and sets, and frames for kernel tables.
use Rattle.std.specs.Prelude.{ℕ, Bool, if◌then◌else◌, List, [], ◌∷◌, length, map, Option, Some, None}
use Rattle.std.specs.Map.{values_of}
use Rattle.net_base.specs.declared.addr.Addr.{Addr}
use Rattle.conf_tree.specs.declared.conf.Conf.{Conf}
use Rattle.core_msgs.specs.declared.answer.Line.{Line}
use Rattle.core_msgs.specs.declared.answer.Line.TheVariants as lines
use Rattle.core_msgs.specs.declared.frame.Frame.{Frame}
use Rattle.core_msgs.specs.declared.parts.Core.{Core}
use Rattle.core_msgs.specs.declared.row.Row.TheVariants as rows
use Rattle.core_msgs.specs.declared.row.State.{State as Shown}
use Rattle.core_msgs.specs.declared.row.State.TheVariants as shown
use Rattle.conf_shows.specs.Shown.{all_couple_frames, couple_frame, has_rib, has_table}
use Rattle.session_fsm.specs.declared.peer.State.{State}
use Rattle.session_fsm.specs.declared.peer.State.TheVariants as states
use Rattle.peer_session.specs.declared.refusal.SessionRefusal.{SessionRefusal}
use Rattle.peer_session.specs.declared.refusal.SessionRefusal.TheVariants as refusals
use Rattle.peer_session.specs.Neighbour.{Neighbour}
use Rattle.peer_session.specs.Calls.{hold_of}
use Rattle.session_core.specs.Sessions.{Peers, peer_at}

abbrev pub shown_state : State → Shown
shown_state states.Down = shown.Down
shown_state states.Idle = shown.Idle
shown_state states.Connect = shown.Connect
shown_state states.Active = shown.Active
shown_state states.OpenSent = shown.OpenSent
shown_state states.OpenConfirm = shown.OpenConfirm
shown_state states.Established = shown.Established

-- a neighbour in one line: its AS number and the state of its session
abbrev pub summary_row : Addr × Neighbour → Line
summary_row e = lines.Row (rows.Summary e.0 e.1.settings.rules.remote_as (shown_state e.1.fsm.state))

-- a neighbour with its hold time and the length of its outbox
abbrev pub neighbour_row : Neighbour → Line
neighbour_row n = lines.Row (rows.Neighbour n.peer n.settings.rules.remote_as (shown_state n.fsm.state) (hold_of n.facts n.settings) (length n.outbox.bytes))

abbrev pub row_of : Option Neighbour → List Line
row_of None = []
row_of (Some n) = neighbour_row n ∷ []

-- the rows of all, by address, or of one
abbrev pub neighbour_rows : Option Addr → Peers → List Line
neighbour_rows None peers = map neighbour_row (values_of peers)
neighbour_rows (Some at) peers = row_of (peer_at at peers)

abbrev pub row_refusal : Option Neighbour → Option SessionRefusal
row_refusal None = Some refusals.UnknownNeighbour
row_refusal (Some n) = None

abbrev pub rows_refusal : Option Addr → Peers → Option SessionRefusal
rows_refusal None peers = None
rows_refusal (Some at) peers = row_refusal (peer_at at peers)

abbrev pub table_refusal : Conf → Option ℕ → Option SessionRefusal
table_refusal conf None = None
table_refusal conf (Some number) = if has_table conf number then None else Some refusals.UnknownTable

abbrev pub rib_refusal : Conf → Option (List ℕ) → Option SessionRefusal
rib_refusal conf None = None
rib_refusal conf (Some name) = if has_rib conf name then None else Some refusals.UnknownRib

-- each kernel table of the configuration by number, or one
abbrev pub couple_frames : Conf → Option ℕ → Bool → List (Core × Frame)
couple_frames conf None on = all_couple_frames conf on
couple_frames conf (Some table) on = couple_frame on table ∷ []
