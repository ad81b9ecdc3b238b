-- What a message of a peer says in a state of its session.
use Rattle.std.specs.Prelude.{ℕ, Bool, true, false, ◌&&◌, ◌==◌, if◌then◌else◌, List, slice_index, Option, Some, None, Result, Ok, Err}
use Rattle.session_fsm.specs.declared.peer.State.{State}
use Rattle.session_fsm.specs.declared.peer.State.TheVariants.{OpenSent}
use Rattle.session_fsm.specs.Table.{is_up}
use Rattle.bgp_wire.specs.declared.notify.Notify.{Notify}
use Rattle.bgp_wire.specs.declared.open.OpenFacts.{OpenFacts}
use Rattle.bgp_wire.specs.declared.open.OpenRules.{OpenRules}
use Rattle.bgp_wire.specs.Message.{notify}
use Rattle.bgp_wire.specs.Open.{answer_to, open_of}
use Rattle.bgp_wire.specs.Written.{refreshed_family}
use Rattle.update_codec.specs.declared.update.Update.{Update}
use Rattle.update_codec.specs.Update.{update_says}
use Rattle.peer_session.specs.declared.hearing.Heard.{Heard}
use Rattle.peer_session.specs.declared.hearing.Heard.TheVariants as says

abbrev pub awaits_open : State → Bool
awaits_open OpenSent = true
awaits_open _ = false

abbrev pub open_heard : Result OpenFacts Notify → Heard
open_heard (Ok facts) = says.Open facts
open_heard (Err fault) = says.Bad fault

-- errors of UPDATEs have code 3 (RFC 4271, section 6.3)
abbrev pub update_heard_as : Result Update ℕ → Heard
update_heard_as (Ok update) = says.Update update
update_heard_as (Err sub) = says.Bad (notify 3 sub)

abbrev pub update_heard : Option OpenFacts → List ℕ → Heard
update_heard None body = says.Other
update_heard (Some facts) body = update_heard_as (update_says facts.encoding body)

-- An OPEN is read only where one is awaited, and an UPDATE only where the session is up.
unfoldable pub heard_in : State → OpenRules → Option OpenFacts → ℕ → List ℕ → Heard
heard_in state rules facts kind body =
    if (kind == 1) && awaits_open state then open_heard (answer_to (open_of body) rules)
    else if kind == 3 then says.Received (slice_index body 0) (slice_index body 1)
    else if kind == 4 then says.Keepalive
    else if kind == 5 then says.Refresh (refreshed_family body)
    else if (kind == 2) && is_up state then update_heard facts body
    else says.Other
