-- An event that was refused changes nothing that a history says.
use Rattle.std.proofs.Common.{◌≡◌, ℕ, Bool, true, false, List, [], ◌∷◌, ◌++◌, map, fold, flat_map, Option, None, Some, option_to_list, subst, Result, Ok, Err, IfSome, IfNone, ◌⊎◌, inl, inr, refl, sym, ap, ◌∙◌}
use Rattle.std.proofs.lemmas.List.Concat.{flat_map-cons}
use Rattle.net_base.specs.declared.addr.Addr.{Addr}
use Rattle.net_base.specs.declared.prefix.Prefix.{Prefix}
use Rattle.net_base.specs.declared.conf.ConfFault.{ConfFault}
use Rattle.conf_tree.specs.declared.conf.Conf.{Conf}
use Rattle.core_msgs.specs.declared.event.Event.{Event}
use Rattle.core_msgs.specs.declared.event.Event.TheVariants as event
use Rattle.core_msgs.specs.declared.answer.Answer.{Answer}
use Rattle.core_msgs.specs.declared.answer.Line.{Line}
use Rattle.core_msgs.specs.declared.answer.Line.TheVariants as line
use Rattle.core_msgs.specs.declared.answer.Refusal.{Refusal}
use Rattle.core_msgs.specs.declared.answer.Refusal.TheVariants as refusal
use Rattle.core_msgs.specs.declared.parts.PartName.TheVariants as part
use Rattle.core_msgs.specs.declared.row.Row.TheVariants as row
use Rattle.route_world.specs.Networks.{network_rows}
use Rattle.run_record.specs.Run.{History, generation, generation_told, under_way, under_way_told, conf, conf_told}
use Rattle.run_record.specs.Answers.{step, only, refused, Answers, AnswersControl, IsRefusal, IsRefusalLine, SaysQuiet, are_show_rib}
use Rattle.run_record.specs.Sessions.{up_told, peers_up, from_begin, heard_more, heard_from, sent_more, sent_to, stall_told, with_end, is_stalled, session_by, session_at}
use Rattle.route_world.specs.declared.world.World.{World}
use Rattle.route_world.specs.declared.world.Session.{Session}
use Rattle.route_world.specs.declared.world.Hops.TheVariants.{Routed}
use Rattle.run_record.specs.Worlds.{route_told, kernel_routes, world_of}
use Rattle.run_record.specs.Coupling.{KernelTables, line_told, event_told, kernel_tables}

-- ---- a refusal is one line

quiet_is_none : (l : Line) → SaysQuiet l → IsRefusalLine l → ⊥
quiet_is_none line.Quiet q r = r
quiet_is_none (line.QuietExcept peers) q r = r
quiet_is_none _ q r = q

show_is_none : (busy : Option ℕ) (c : Conf) (answer : Answer) →
    IfSome busy (λ other. answer ≡ only (line.Pending part.Reload)) →
    IfNone busy (answer ≡ record { lines = map (λ r. line.Row (row.Route r)) (network_rows c); last = line.Ok }) →
    IsRefusal answer → answer.lines ≡ []
show_is_none (Some other) c answer b i r = ap (λ (a : Answer). a.lines) b
show_is_none None c answer b i r = absurd (subst (λ (a : Answer). IsRefusalLine a.last) i r)

control_alone : (is_show : Bool) (h : History) (answer : Answer) → AnswersControl is_show h answer → IsRefusal answer → answer.lines ≡ []
control_alone true h answer a r = show_is_none (under_way h) (conf h) answer a.busy a.idle r
control_alone false h answer a r = ap (λ (a : Answer). a.lines) a

alone : (h : History) (event : Event) (answer : Answer) → Answers h event answer → IsRefusal answer → answer.lines ≡ []
alone h (event.Reload text) answer a r = a.reports
alone h event.Settle answer a r = absurd (quiet_is_none answer.last a.quiet r)
alone h (event.Ctl words) answer a r = control_alone (are_show_rib words) h answer a r
alone h _ answer a r = ap (λ (a : Answer). a.lines) a

-- ---- what a refusal leaves

generation_stays : (g : ℕ) (l : Line) → IsRefusalLine l → generation_told g l ≡ g
generation_stays g (line.RefusedText fault) r = refl
generation_stays g (line.Refused why) r = refl
generation_stays g _ r = absurd r

under_way_stays : (u : Option ℕ) (l : Line) → IsRefusalLine l → under_way_told u l ≡ u
under_way_stays u (line.RefusedText fault) r = refl
under_way_stays u (line.Refused why) r = refl
under_way_stays u _ r = absurd r

conf_stays : (c : Conf) (event : Event) (l : Line) → IsRefusalLine l → conf_told c event l ≡ c
conf_stays c (event.Reload text) (line.RefusedText fault) r = refl
conf_stays c (event.Reload text) (line.Refused why) r = refl
conf_stays c (event.Reload text) _ r = absurd r
conf_stays c _ l r = refl

begin_stays : (peer : Addr) (bytes : List ℕ) (event : Event) (l : Line) → IsRefusalLine l → from_begin peer bytes event l ≡ bytes
begin_stays peer bytes (event.Open who way) (line.RefusedText fault) r = refl
begin_stays peer bytes (event.Open who way) (line.Refused why) r = refl
begin_stays peer bytes (event.Open who way) _ r = absurd r
begin_stays peer bytes _ l r = refl

heard_stays : (peer : Addr) (bytes : List ℕ) (event : Event) (l : Line) → IsRefusalLine l → heard_more peer bytes event l ≡ bytes
heard_stays peer bytes (event.Bytes who piece) (line.RefusedText fault) r = refl
heard_stays peer bytes (event.Bytes who piece) (line.Refused why) r = refl
heard_stays peer bytes (event.Bytes who piece) _ r = absurd r
heard_stays peer bytes event l r = begin_stays peer bytes event l r

stall_stays : (peer : Addr) (is : Bool) (event : Event) (l : Line) → IsRefusalLine l → stall_told peer is event l ≡ is
stall_stays peer is (event.Open who way) (line.RefusedText fault) r = refl
stall_stays peer is (event.Open who way) (line.Refused why) r = refl
stall_stays peer is (event.Open who way) _ r = absurd r
stall_stays peer is (event.Stall who) (line.RefusedText fault) r = refl
stall_stays peer is (event.Stall who) (line.Refused why) r = refl
stall_stays peer is (event.Stall who) _ r = absurd r
stall_stays peer is (event.Flow who) (line.RefusedText fault) r = refl
stall_stays peer is (event.Flow who) (line.Refused why) r = refl
stall_stays peer is (event.Flow who) _ r = absurd r
stall_stays peer is _ l r = refl

route_stays : (routes : List Prefix) (event : Event) (l : Line) → IsRefusalLine l → route_told routes event l ≡ routes
route_stays routes (event.KernelRoute prefix true) (line.RefusedText fault) r = refl
route_stays routes (event.KernelRoute prefix true) (line.Refused why) r = refl
route_stays routes (event.KernelRoute prefix true) _ r = absurd r
route_stays routes (event.KernelRoute prefix false) (line.RefusedText fault) r = refl
route_stays routes (event.KernelRoute prefix false) (line.Refused why) r = refl
route_stays routes (event.KernelRoute prefix false) _ r = absurd r
route_stays routes _ l r = refl

tables_stay : (tables : KernelTables) (event : Event) (l : Line) → IsRefusalLine l → event_told tables event l ≡ tables
tables_stay tables (event.Ctl words) (line.RefusedText fault) r = refl
tables_stay tables (event.Ctl words) (line.Refused why) r = refl
tables_stay tables (event.Ctl words) _ r = absurd r
tables_stay tables _ l r = refl

-- ---- histories

pub same_generation : (h : History) (event : Event) (answer : Answer) → Answers h event answer → IsRefusal answer →
    generation (step event answer ∷ h) ≡ generation h
same_generation h event answer a r = generation_stays (generation h) answer.last r

pub same_under_way : (h : History) (event : Event) (answer : Answer) → Answers h event answer → IsRefusal answer →
    under_way (step event answer ∷ h) ≡ under_way h
same_under_way h event answer a r = rw (alone h event answer a r) (under_way_stays (under_way h) answer.last r)

same_conf : (h : History) (event : Event) (answer : Answer) → IsRefusal answer → conf (step event answer ∷ h) ≡ conf h
same_conf h event answer r = conf_stays (conf h) event answer.last r

same_heard : (h : History) (event : Event) (answer : Answer) → IsRefusal answer → (peer : Addr) →
    heard_from peer (step event answer ∷ h) ≡ heard_from peer h
same_heard h event answer r peer = heard_stays peer (heard_from peer h) event answer.last r

pub same_sent : (h : History) (event : Event) (answer : Answer) → Answers h event answer → IsRefusal answer → (peer : Addr) →
    sent_to peer (step event answer ∷ h) ≡ sent_to peer h
same_sent h event answer a r peer = rw (alone h event answer a r) (begin_stays peer (sent_to peer h) event answer.last r)

pub same_stalled : (h : History) (event : Event) (answer : Answer) → Answers h event answer → IsRefusal answer → (peer : Addr) →
    is_stalled peer (step event answer ∷ h) ≡ is_stalled peer h
same_stalled h event answer a r peer = rw (alone h event answer a r) (stall_stays peer (is_stalled peer h) event answer.last r)

pub same_tables : (h : History) (event : Event) (answer : Answer) → Answers h event answer → IsRefusal answer →
    kernel_tables (step event answer ∷ h) ≡ kernel_tables h
same_tables h event answer a r = rw (alone h event answer a r) (tables_stay (kernel_tables h) event answer.last r)

same_up : (h : History) (event : Event) (answer : Answer) → Answers h event answer → IsRefusal answer →
    peers_up (step event answer ∷ h) ≡ peers_up h
same_up h event answer a r = ap (λ lines. fold up_told (peers_up h) lines) (alone h event answer a r)

same_sessions : {A B : Type 0} (f g : A → List B) → ((x : A) → f x ≡ g x) → (xs : List A) → flat_map f xs ≡ flat_map g xs
same_sessions f g same [] = refl
same_sessions f g same (x ∷ xs) =
    flat_map-cons f x xs ∙ ap (λ here. here ++ flat_map f xs) (same x) ∙ ap (λ rest. g x ++ rest) (same_sessions f g same xs) ∙ sym (flat_map-cons g x xs)

session_stays : (h : History) (event : Event) (answer : Answer) → IsRefusal answer → (peer : Addr) →
    option_to_list (session_at (step event answer ∷ h) peer) ≡ option_to_list (session_at h peer)
session_stays h event answer r peer =
    ap (λ c. option_to_list (session_by c peer (heard_from peer (step event answer ∷ h)))) (same_conf h event answer r)
    ∙ ap (λ heard. option_to_list (session_by (conf h) peer heard)) (same_heard h event answer r peer)

sessions_stay : (h : History) (event : Event) (answer : Answer) → Answers h event answer → IsRefusal answer →
    flat_map (λ peer. option_to_list (session_at (step event answer ∷ h) peer)) (peers_up (step event answer ∷ h))
    ≡ flat_map (λ peer. option_to_list (session_at h peer)) (peers_up h)
sessions_stay h event answer a r =
    ap (flat_map (λ peer. option_to_list (session_at (step event answer ∷ h) peer))) (same_up h event answer a r)
    ∙ same_sessions _ _ (session_stays h event answer r) (peers_up h)

abbrev world_with : Conf → List Session → List Prefix → World
world_with c sessions routes = record { conf = c; sessions = sessions; hops = Routed routes }

pub same_world : (h : History) (event : Event) (answer : Answer) → Answers h event answer → IsRefusal answer →
    world_of (step event answer ∷ h) ≡ world_of h
unfolding world_of
same_world h event answer a r =
    let later : History = step event answer ∷ h in
    let sessions : List Session = flat_map (λ peer. option_to_list (session_at h peer)) (peers_up h) in
    let later_sessions : List Session = flat_map (λ peer. option_to_list (session_at later peer)) (peers_up later) in
    ap (λ c. world_with c later_sessions (kernel_routes later)) (same_conf h event answer r)
    ∙ ap (λ ones. world_with (conf h) ones (kernel_routes later)) (sessions_stay h event answer a r)
    ∙ ap (λ routes. world_with (conf h) sessions routes) (route_stays (kernel_routes h) event answer.last r)
