-- A session comes up at most once while bytes are handled, and at no other time.
use Rattle.std.proofs.Common.{◌≡◌, ◌⊎◌, ◌∙◌, ℕ, Bool, true, false, not, ◌&&◌, ◌==◌, ◌-◌, ◌/◌, ◌^◌, min, cond, List, [], ◌∷◌, ◌++◌, append-nil, Option, Some, None, inl, inr, refl, sym, ap, subst, true≢false}
use Rattle.std.proofs.lemmas.List.Elements.{filter_map-append}
use Rattle.net_base.specs.declared.addr.Family.{Family}
use Rattle.net_base.specs.declared.addr.Family.TheVariants.{V4, V6}
use Rattle.net_base.specs.declared.prefix.Prefix.{Prefix}
use Rattle.attr_model.specs.declared.attrs.Attrs.{Attrs}
use Rattle.bgp_wire.specs.declared.front.Cut.{Cut}
use Rattle.bgp_wire.specs.declared.front.Cut.TheVariants as cuts
use Rattle.bgp_wire.specs.declared.open.OpenFacts.{OpenFacts}
use Rattle.bgp_wire.specs.Message.{Message, cut_of}
use Rattle.bgp_wire.specs.Written.{keepalive, open_by}
use Rattle.core_msgs.specs.declared.frame.Frame.{Frame}
use Rattle.core_msgs.specs.declared.parts.Core.{Core}
use Rattle.session_fsm.specs.declared.event.Actions.{Actions}
use Rattle.session_fsm.specs.declared.event.SessionEvent.{SessionEvent}
use Rattle.session_fsm.specs.declared.event.SessionEvent.TheVariants as events
use Rattle.session_fsm.specs.declared.peer.Peer.{Peer}
use Rattle.session_fsm.specs.declared.peer.State.{State}
use Rattle.session_fsm.specs.declared.peer.State.TheVariants.{Down, Idle, Connect, Active, OpenSent, OpenConfirm, Established}
use Rattle.session_fsm.specs.Table.{Outcome, ends_by, follows, has_connection_in, idles, is_reached, is_up, keeps, later, nothing, row, stays as unchanged}
use Rattle.session_fsm.specs.Table as table
use Rattle.update_codec.specs.declared.update.Update.{Update}
use Rattle.peer_session.specs.declared.neighbour.Reason.{Reason}
use Rattle.peer_session.specs.declared.neighbour.Reason.TheVariants as reasons
use Rattle.peer_session.specs.declared.neighbour.Settings.{Settings}
use Rattle.peer_session.specs.declared.hearing.Heard.{Heard}
use Rattle.peer_session.specs.declared.hearing.Heard.TheVariants as says
use Rattle.update_codec.specs.declared.out_update.OutUpdate.{OutUpdate}
use Rattle.peer_session.specs.Calls.{comes_back_where, configures, credit_frame, credit_frames, ends_for_rules, goes_down, can_write, number_of, routes_by, routes_to, update_of, with_settings, writes}
use Rattle.peer_session.specs.Frames.{family_frames, group_frames, groups_in, prefixes_in, update_frames, ups}
use Rattle.peer_session.specs.Neighbour.{Course, Neighbour, is_connected, is_established, sends_where, tells}
use Rattle.peer_session.specs.Steps.{Handles, comes_up_by, down_frames, ends_where, goes, handles, handles_front, heard_front, hears_open, is_agreed, is_there, keeps_alive, passes, refresh_frames, sends_by, stops, takes, takes_by, tells_refresh, tells_update, up_frame}

abbrev Sent : Type 0
Sent = List (Core × Frame)

pub ups_more : (first more : Sent) → ups (first ++ more) ≡ ups first ++ ups more
ups_more first more = filter_map-append _ first more

pub quiet_more : (first more : Sent) → ups more ≡ [] → ups (first ++ more) ≡ ups first
quiet_more first more quiet = ups_more first more ∙ ap (λ (ns : List ℕ). ups first ++ ns) quiet ∙ append-nil (ups first)

quiet_both : (first more : Sent) → ups first ≡ [] → ups more ≡ [] → ups (first ++ more) ≡ []
quiet_both first more one two = quiet_more first more two ∙ one

down_quiet : (is_down : Bool) (number : ℕ) → ups (down_frames is_down number) ≡ []
down_quiet true number = refl
down_quiet false number = refl

ends_quiet : (is_ended : Bool) (reason : Reason) (actions : Actions) (c : Course) → ups (ends_where is_ended reason actions c).frames ≡ ups c.frames
ends_quiet true reason actions c = quiet_more c.frames (down_frames actions.down c.neighbour.number) (down_quiet actions.down c.neighbour.number)
ends_quiet false reason actions c = refl

by_quiet : (reason : Reason) (o : Outcome) (c : Course) → ups (takes_by reason o c).frames ≡ ups c.frames
by_quiet reason o c =
    ends_quiet (is_connected c.neighbour && not (has_connection_in o.peer.state)) reason o.actions
    (record c { neighbour = sends_by o.actions (record c.neighbour { fsm = o.peer }) })

pub takes_quiet : (event : SessionEvent) (reason : Reason) (now : ℕ) (c : Course) → ups (takes event reason now c).frames ≡ ups c.frames
unfolding takes
takes_quiet event reason now c = by_quiet reason (follows c.neighbour.fsm event now) c

credits_quiet : (session : Option ℕ) (updates : ℕ) → ups (credit_frames session updates) ≡ []
credits_quiet None updates = refl
credits_quiet (Some session) updates = go (updates == 0)
  where
    go : (b : Bool) → ups (cond b [] (credit_frame session (min updates (2 ^ 32 - 1)) ∷ [])) ≡ []
    go true = refl
    go false = refl

pub routes_quiet : (withdrawn : List Prefix) (announced : Option (Attrs × List Prefix)) (c : Course) → ups (routes_to withdrawn announced c).frames ≡ ups c.frames
routes_quiet withdrawn announced c = go (is_established c.neighbour)
  where
    written : (update : OutUpdate) (facts : OpenFacts) (b : Bool) → can_write facts.encoding update ≡ b → ups (routes_by (Some facts) update c).frames ≡ ups c.frames
    written update facts true e = rw e refl
    written update facts false e = rw e (quiet_more c.frames (credit_frame c.neighbour.number 1 ∷ []) refl)

    by : (facts : Option OpenFacts) (update : OutUpdate) → ups (routes_by facts update c).frames ≡ ups c.frames
    by None update = refl
    by (Some facts) update = written update facts (can_write facts.encoding update) refl

    go : (b : Bool) → ups (cond b (routes_by c.neighbour.facts (update_of withdrawn announced) c) c).frames ≡ ups c.frames
    go true = by c.neighbour.facts (update_of withdrawn announced)
    go false = refl

pub configures_quiet : (changed : Bool) (settings : Settings) (now : ℕ) (c : Course) → ups (configures changed settings now c).frames ≡ ups c.frames
configures_quiet changed settings now c = go (settings.down && not c.neighbour.settings.down)
  where
    set : Course
    set = with_settings settings c

    rules_end : (b : Bool) (d : Course) → ups (ends_for_rules b now d).frames ≡ ups d.frames
    rules_end true d = takes_quiet (events.Ends 6) reasons.Code now d
    rules_end false d = refl

    back : (b : Bool) → ups (comes_back_where b now set).frames ≡ ups c.frames
    back true = takes_quiet events.AdminUp reasons.Code now set
    back false = refl

    go : (b : Bool) → ups (cond b (goes_down now set) (ends_for_rules changed now (comes_back_where (c.neighbour.settings.down && not settings.down) now set))).frames ≡ ups c.frames
    go true = takes_quiet events.AdminDown reasons.Code now set
    go false =
        rules_end changed (comes_back_where (c.neighbour.settings.down && not settings.down) now set)
        ∙ back (c.neighbour.settings.down && not settings.down)

pub writes_quiet : (most : ℕ) (c : Course) → ups (writes most c).frames ≡ ups c.frames
writes_quiet most c = quiet_more c.frames (credit_frames (number_of c.neighbour) _) (credits_quiet (number_of c.neighbour) _)

-- ---- an established session stays up, or its connection ends

abbrev Holds : Peer → Type 0
Holds p = (is_up p.state ≡ true) ⊎ (has_connection_in p.state ≡ false)

up_is : (s : State) → is_up s ≡ true → s ≡ Established
up_is Down h = absurd (true≢false (sym h))
up_is Idle h = absurd (true≢false (sym h))
up_is Connect h = absurd (true≢false (sym h))
up_is Active h = absurd (true≢false (sym h))
up_is OpenSent h = absurd (true≢false (sym h))
up_is OpenConfirm h = absurd (true≢false (sym h))
up_is Established h = refl

ends_hold : (code : Option (ℕ × ℕ)) (p : Peer) (now : ℕ) → is_up p.state ≡ true → Holds (ends_by code p now).peer
ends_hold code p now up = go (has_connection_in p.state)
  where
    go : (b : Bool) → Holds (cond b (record { peer = idles p now; actions = record nothing { notify = code; down = is_up p.state } }) (unchanged p)).peer
    go true = inr refl
    go false = inl up

keeps_hold : (p : Peer) (now : ℕ) → is_up p.state ≡ true → Holds (keeps p now).peer
keeps_hold p now up = go (is_reached p.keep_at now)
  where
    go : (b : Bool) → Holds (cond b (record { peer = record p { keep_at = Some (later now (p.hold / 3)) }; actions = record nothing { keepalive = true } }) (unchanged p)).peer
    go true = inl up
    go false = inl up

row_holds : (event : SessionEvent) (p : Peer) (now : ℕ) → is_up p.state ≡ true → Holds (row Established event p now).peer
row_holds events.Comes p now up = inl up
row_holds events.Opened p now up = inl up
row_holds (events.Open hold) p now up = ends_hold (Some (5, 0)) p now up
row_holds events.Keepalive p now up = inl up
row_holds events.Update p now up = inl up
row_holds events.Refresh p now up = inl up
row_holds events.Other p now up = ends_hold (Some (5, 0)) p now up
row_holds (events.Bad code sub) p now up = ends_hold (Some (code, sub)) p now up
row_holds events.Received p now up = ends_hold None p now up
row_holds events.Lost p now up = ends_hold None p now up
row_holds events.Deadline p now up = go (is_reached p.hold_at now)
  where
    go : (b : Bool) → Holds (cond b (ends_by (Some (4, 0)) p now) (keeps p now)).peer
    go true = ends_hold (Some (4, 0)) p now up
    go false = keeps_hold p now up
row_holds events.Close p now up = ends_hold (Some (6, 1)) p now up
row_holds events.AdminDown p now up = inr refl
row_holds events.AdminUp p now up = inl up
row_holds events.Clear p now up = ends_hold (Some (6, 4)) p now up
row_holds (events.Ends sub) p now up = go (sub == 2)
  where
    go : (b : Bool) → Holds (cond b (table.goes_down p) (ends_by (Some (6, sub)) p now)).peer
    go true = inr refl
    go false = ends_hold (Some (6, sub)) p now up

follows_holds : (event : SessionEvent) (p : Peer) (now : ℕ) → is_up p.state ≡ true → Holds (follows p event now).peer
follows_holds event p now up =
    subst (λ (s : State). Holds (row s event p now).peer) (sym (up_is p.state up)) (row_holds event p now up)

where_fsm : (b : Bool) (m : Message) (n : Neighbour) → (sends_where b m n).fsm ≡ n.fsm
where_fsm true m n = refl
where_fsm false m n = refl

ends_fsm : (b : Bool) (reason : Reason) (actions : Actions) (c : Course) → (ends_where b reason actions c).neighbour.fsm ≡ c.neighbour.fsm
ends_fsm true reason actions c = refl
ends_fsm false reason actions c = refl

by_fsm : (reason : Reason) (o : Outcome) (c : Course) → (takes_by reason o c).neighbour.fsm ≡ o.peer
by_fsm reason o c =
    let n : Neighbour = record c.neighbour { fsm = o.peer } in
    ends_fsm (is_connected c.neighbour && not (has_connection_in o.peer.state)) reason o.actions (record c { neighbour = sends_by o.actions n })
    ∙ where_fsm o.actions.keepalive keepalive (sends_where o.actions.send_open (open_by n.settings.rules) n)
    ∙ where_fsm o.actions.send_open (open_by n.settings.rules) n

takes_holds : (event : SessionEvent) (reason : Reason) (now : ℕ) (c : Course) → is_established c.neighbour ≡ true → Holds (takes event reason now c).neighbour.fsm
unfolding takes
takes_holds event reason now c up =
    subst Holds (sym (by_fsm reason (follows c.neighbour.fsm event now) c)) (follows_holds event c.neighbour.fsm now up)

-- ---- what a message leads to

groups_quiet : (session : ℕ) (family : Family) (withdrawn : List Prefix) (groups : List (Attrs × List Prefix)) → ups (group_frames session family withdrawn groups) ≡ []
groups_quiet session family withdrawn [] = refl
groups_quiet session family withdrawn (group ∷ groups) = groups_quiet session family [] groups

family_quiet : (session : ℕ) (family : Family) (withdrawn : List Prefix) (groups : List (Attrs × List Prefix)) → ups (family_frames session family withdrawn groups) ≡ []
family_quiet session family [] [] = refl
family_quiet session family (first ∷ others) [] = refl
family_quiet session family withdrawn (group ∷ groups) = groups_quiet session family withdrawn (group ∷ groups)

update_quiet : (session : ℕ) (update : Update) → ups (update_frames session update) ≡ []
unfolding update_frames
update_quiet session update =
    quiet_both (family_frames session V4 (prefixes_in V4 update.withdrawn) (groups_in V4 update.announced))
    (family_frames session V6 (prefixes_in V6 update.withdrawn) (groups_in V6 update.announced))
    (family_quiet session V4 (prefixes_in V4 update.withdrawn) (groups_in V4 update.announced))
    (family_quiet session V6 (prefixes_in V6 update.withdrawn) (groups_in V6 update.announced))

refresh_quiet : (number : ℕ) (facts : Option OpenFacts) (family : Option Family) → ups (refresh_frames number facts family) ≡ []
refresh_quiet number None family = refl
refresh_quiet number (Some facts) None = refl
refresh_quiet number (Some facts) (Some family) = go (facts.encoding.refresh && is_agreed facts.encoding family) refl
  where
    go : (b : Bool) → (facts.encoding.refresh && is_agreed facts.encoding family) ≡ b → ups (refresh_frames number (Some facts) (Some family)) ≡ []
    go true e = rw e refl
    go false e = rw e refl

-- The session didn't come up; one that was up is still, or its connection ended.
record IsQuiet (c d : Course) : Type 0 where
  none : ups d.frames ≡ ups c.frames
  holds : is_established c.neighbour ≡ true → Holds d.neighbour.fsm

-- It came up.
record ComesUp (number : ℕ) (c d : Course) : Type 0 where
  one : ups d.frames ≡ ups c.frames ++ number ∷ []
  was : is_established c.neighbour ≡ false
  is : is_established d.neighbour ≡ true

abbrev Goes : ℕ → Course → Course → Type 0
Goes number c d = IsQuiet c d ⊎ ComesUp number c d

takes_goes : (number : ℕ) (event : SessionEvent) (reason : Reason) (now : ℕ) (c : Course) → IsQuiet c (takes event reason now c)
takes_goes number event reason now c = record { none = takes_quiet event reason now c; holds = takes_holds event reason now c }

update_goes : (number now : ℕ) (update : Update) (c : Course) → IsQuiet c (tells_update update (takes events.Update reasons.Code now c))
update_goes number now update c = go (is_established d.neighbour)
  where
    d : Course
    d = takes events.Update reasons.Code now c

    q : IsQuiet c d
    q = takes_goes number events.Update reasons.Code now c

    go : (b : Bool) → IsQuiet c (cond b (tells (update_frames d.neighbour.number update) d) d)
    go true = record { none = quiet_more d.frames (update_frames d.neighbour.number update) (update_quiet d.neighbour.number update) ∙ q.none; holds = q.holds }
    go false = q

refresh_goes : (number now : ℕ) (family : Option Family) (c : Course) → IsQuiet c (tells_refresh family (takes events.Refresh reasons.Code now c))
refresh_goes number now family c = go (is_established d.neighbour)
  where
    d : Course
    d = takes events.Refresh reasons.Code now c

    q : IsQuiet c d
    q = takes_goes number events.Refresh reasons.Code now c

    go : (b : Bool) → IsQuiet c (cond b (tells (refresh_frames d.neighbour.number d.neighbour.facts family) d) d)
    go true = record {
      none = quiet_more d.frames (refresh_frames d.neighbour.number d.neighbour.facts family) (refresh_quiet d.neighbour.number d.neighbour.facts family) ∙ q.none;
      holds = q.holds;
    }
    go false = q

keepalive_goes : (number now : ℕ) (c : Course) → Goes number c (keeps_alive number now c)
keepalive_goes number now c = go (is_established c.neighbour) (is_established d.neighbour) refl refl
  where
    d : Course
    d = takes events.Keepalive reasons.Code now c

    q : IsQuiet c d
    q = takes_goes number events.Keepalive reasons.Code now c

    up : (facts : Option OpenFacts) → is_established c.neighbour ≡ false → is_established d.neighbour ≡ true → Goes number c (comes_up_by facts number d)
    up None was is = inl q
    up (Some facts) was is = inr (record {
      one = ups_more d.frames (up_frame number d.neighbour.peer facts ∷ []) ∙ ap (λ (ns : List ℕ). ns ++ number ∷ []) q.none;
      was = was;
      is = is;
    })

    go : (a b : Bool) → is_established c.neighbour ≡ a → is_established d.neighbour ≡ b → Goes number c (cond (not a && b) (comes_up_by d.neighbour.facts number d) d)
    go true b was is = inl q
    go false true was is = up d.neighbour.facts was is
    go false false was is = inl q

handles_goes : (number now : ℕ) (heard : Heard) (c : Course) → Goes number c (handles number now heard c)
handles_goes number now (says.Open facts) c =
    let q = takes_goes number (events.Open facts.hold) reasons.Code now (hears_open facts c) in
    inl (record { none = q.none; holds = q.holds })
handles_goes number now says.Keepalive c = keepalive_goes number now c
handles_goes number now (says.Update update) c = inl (update_goes number now update c)
handles_goes number now (says.Refresh family) c = inl (refresh_goes number now family c)
handles_goes number now (says.Received code sub) c = inl (takes_goes number events.Received (reasons.Received code sub) now c)
handles_goes number now (says.Bad fault) c = inl (takes_goes number (events.Bad fault.code fault.sub) reasons.Code now c)
handles_goes number now says.Other c = inl (takes_goes number events.Other reasons.Code now c)

front_goes : (number now : ℕ) (front : Cut) (c : Course) → Goes number c (handles_front number now front c)
front_goes number now cuts.More c = inl (record { none = refl; holds = λ up. inl up })
front_goes number now (cuts.Message kind size) c = passed (handles_goes number now heard (passes size c))
  where
    heard : Heard
    heard = heard_front kind size c.neighbour

    passed : Goes number (passes size c) (handles number now heard (passes size c)) → Goes number c (handles number now heard (passes size c))
    passed (inl q) = inl (record { none = q.none; holds = q.holds })
    passed (inr u) = inr (record { one = u.one; was = u.was; is = u.is })
front_goes number now (cuts.Notify fault) c = inl (takes_goes number (events.Bad fault.code fault.sub) reasons.Code now c)

-- ---- all messages

-- without a connection nothing more is handled
ended : (number now : ℕ) (c last : Course) → Handles number now c last → is_connected c.neighbour ≡ false → ups last.frames ≡ ups c.frames
ended number now c last (stops d none) h = refl
ended number now c last (goes d e there rest) h = absurd (true≢false (sym there ∙ ap (λ (b : Bool). b && is_there (cut_of c.neighbour.held)) h))

-- what comes of them: nothing where the session was up, else at most one number
record AtMost (number : ℕ) (c last : Course) : Type 0 where
  when_up : is_established c.neighbour ≡ true → ups last.frames ≡ ups c.frames
  else : (ups last.frames ≡ ups c.frames) ⊎ (ups last.frames ≡ ups c.frames ++ number ∷ [])

at_most : (number now : ℕ) (c last : Course) → Handles number now c last → AtMost number c last
at_most number now c last (stops d none) = record { when_up = λ up. refl; else = inl refl }
at_most number now c last (goes d e there rest) =
    after (front_goes number now (cut_of c.neighbour.held) c) (at_most number now mid last rest)
  where
    mid : Course
    mid = handles_front number now (cut_of c.neighbour.held) c

    held : Holds mid.neighbour.fsm → AtMost number mid last → ups last.frames ≡ ups mid.frames
    held (inl up) h = h.when_up up
    held (inr none) h = ended number now mid last rest none

    more : ups mid.frames ≡ ups c.frames → (ups last.frames ≡ ups mid.frames) ⊎ (ups last.frames ≡ ups mid.frames ++ number ∷ [])
        → (ups last.frames ≡ ups c.frames) ⊎ (ups last.frames ≡ ups c.frames ++ number ∷ [])
    more e (inl same) = inl (same ∙ e)
    more e (inr one) = inr (one ∙ ap (λ (ns : List ℕ). ns ++ number ∷ []) e)

    after : Goes number c mid → AtMost number mid last → AtMost number c last
    after (inl q) h = record { when_up = λ up. held (q.holds up) h ∙ q.none; else = more q.none h.else }
    after (inr u) h = record { when_up = λ up. absurd (true≢false (sym up ∙ u.was)); else = inr (h.when_up u.is ∙ u.one) }

-- While bytes are handled at most one session comes up, with this number.
pub handles_ups : (number now : ℕ) (c last : Course) → Handles number now c last → (ups last.frames ≡ ups c.frames) ⊎ (ups last.frames ≡ ups c.frames ++ number ∷ [])
handles_ups number now c last h = (at_most number now c last h).else
