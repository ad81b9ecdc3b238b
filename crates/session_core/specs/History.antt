-- What the session core did so far, and what follows for the frames that it wrote.
use Rattle.std.specs.Prelude.{◌≡◌, ℕ, Bool, List, [], ◌∷◌, ◌++◌}
use Rattle.net_base.specs.declared.addr.Addr.{Addr}
use Rattle.conf_tree.specs.declared.conf.Conf.{Conf}
use Rattle.core_msgs.specs.declared.control.CtlCommand.{CtlCommand}
use Rattle.core_msgs.specs.declared.frame.Done.{Done}
use Rattle.core_msgs.specs.declared.frame.Frame.{Frame}
use Rattle.core_msgs.specs.declared.parts.Core.{Core}
use Rattle.session_core.specs.declared.event.AllEvent.TheVariants.{Stop}
use Rattle.session_core.specs.declared.event.PeerEvent.TheVariants as peer
use Rattle.session_core.specs.Calls.{Gives, Hears, all_reply, apply_reply, command_reply, event_reply, frame_reply, time_reply}
use Rattle.session_core.specs.Sessions.{Live, Sessions, new_sessions}

-- A call that wasn't refused.
pub data Call : Type 0 where
  -- a connection stands, and is lost
  Opened : (at : Addr) → Call
  Lost : (at : Addr) → Call
  -- bytes came
  Heard : (at : Addr) (piece : List ℕ) → Call
  -- the time was told
  Told : (now : ℕ) → Call
  -- so many bytes were sent at most
  Wrote : (at : Addr) (most : ℕ) → Call
  -- no bytes are taken for now, or they are taken again
  Stalled : (at : Addr) (stalled : Bool) → Call
  Took : (frame : Frame) → Call
  Applied : (conf : Conf) (generation : ℕ) → Call
  Commanded : (command : CtlCommand) → Call
  Stopped : Call

-- A call, with what it reported and wrote.
pub record Step : Type 0 where
  pub call : Call
  pub done : Done

-- the newest call first
abbrev pub History : Type 0
History = List Step

abbrev pub DoesCall : Call → Sessions → Sessions → Done → Type 0
DoesCall (Opened at) old new done = Gives (event_reply at peer.Opened old) new done
DoesCall (Lost at) old new done = Gives (event_reply at peer.Lost old) new done
DoesCall (Heard at piece) old new done = Hears at piece old new done
DoesCall (Told now) old new done = Gives (time_reply now old) new done
DoesCall (Wrote at most) old new done = Gives (event_reply at (peer.Write most) old) new done
DoesCall (Stalled at stalled) old new done = Gives (event_reply at (peer.Stall stalled) old) new done
DoesCall (Took frame) old new done = Gives (frame_reply frame old) new done
DoesCall (Applied conf generation) old new done = Gives (apply_reply conf generation old) new done
DoesCall (Commanded command) old new done = Gives (command_reply command old) new done
DoesCall Stopped old new done = Gives (all_reply Stop old) new done

-- The core stands for a history: its calls, one behind the other, lead to it from a new core.
abbrev pub Stands : Sessions → History → Type 0
Stands core [] = core ≡ new_sessions
Stands core (step ∷ h) = (old : Sessions) × Stands old h × DoesCall step.call old core step.done

-- With a call more it stands for the history with that call.
abbrev pub Follows : Call → Sessions → Sessions → Done → Type 0
Follows call old new done = (h : History) → Stands old h → Stands new (record { call = call; done = done } ∷ h)

-- all that was written, in its order
abbrev pub written : History → List (Core × Frame)
written [] = []
written (step ∷ h) = written h ++ step.done.frames

-- no session came up yet
abbrev pub no_session : Live
no_session = record { peers = []; last = 0 }
