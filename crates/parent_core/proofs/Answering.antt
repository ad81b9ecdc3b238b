-- Each tracked next hop was answered, and the last answer is its validity now.
use Rattle.std.proofs.Common.{◌≡◌, ◌+◌, Bool, true, false, ◌&&◌, ◌||◌, ◌==◌, cond, List, [], ◌∷◌, ◌++◌, map, Option, Some, None, if◌then◌else◌, refl, sym, ap, ◌∙◌, true≢false}
use Rattle.std.specs.List.{filter_map, cons_option}
use Rattle.std.specs.BTreeMap.{is_at}
use Rattle.std.specs.BTreeSet.{insert_key}
use Rattle.std.specs.Ordering.{eq_by_cmp, match_ordering}
use Rattle.std.specs.Set.{remove_key}
use Rattle.std.specs.declared.cmp.Ordering.{Ordering}
use Rattle.std.specs.declared.cmp.Ordering.TheVariants.{Less, Equal, Greater}
use Rattle.net_base.specs.declared.addr.Addr.{Addr}
use Rattle.net_base.specs.Order.{addr_cmp}
use Rattle.net_base.proofs.Order.{addr_cmp-Equal}
use Rattle.conf_tree.specs.Canonical.{canonical}
use Rattle.core_msgs.specs.declared.frame.Frame.{Frame}
use Rattle.core_msgs.specs.declared.frame.Frame.TheVariants as frames
use Rattle.core_msgs.specs.declared.parts.Core.{Core}
use Rattle.core_msgs.specs.declared.parts.Core.TheVariants.{Session, Decision}
use Rattle.nexthop_track.specs.Answers.{differ}
use Rattle.nexthop_track.specs.Hops.{Hops, is_tracked_in, is_valid, with_route}
use Rattle.nexthop_track.specs.Changes.{answer_changed, answer_of, answers_changed}
use Rattle.reload_stage.specs.declared.item.StageItem.{StageItem}
use Rattle.reload_stage.specs.declared.item.StageItem.TheVariants.{Begin, Piece, Commit}
use Rattle.reload_stage.specs.Stages.{stage_items}
use Rattle.parent_core.specs.declared.reloads.Stage.{Stage}
use Rattle.parent_core.specs.declared.reloads.Stage.TheVariants.{Idle, AtSession, AtDecision}
use Rattle.parent_core.specs.Answered.{last_answer, last_said, or_older, said_of}
use Rattle.parent_core.specs.Frames.{answered, frame_of, nothing, staged}
use Rattle.parent_core.specs.History.{Kept, kept, History, Accepted, Took, Routed, Worked, Arranged, advanced, after_frame, given_at, given_by}

-- ---- frames one after another

or_none : (x : Option Bool) → or_older x None ≡ x
or_none (Some valid) = refl
or_none None = refl

or_chain : (x y z : Option Bool) → or_older (or_older x y) z ≡ or_older x (or_older y z)
or_chain (Some valid) y z = refl
or_chain None y z = refl

said_both : (a : Addr) (xs ys : List (Core × Frame)) → last_said a (xs ++ ys) ≡ or_older (last_said a ys) (last_said a xs)
said_both a [] ys = sym (or_none (last_said a ys))
said_both a (x ∷ xs) ys = ap (λ (o : Option Bool). or_older o (said_of a x.1)) (said_both a xs ys) ∙ or_chain (last_said a ys) (last_said a xs) (said_of a x.1)

item_says : (a : Addr) (item : StageItem) → said_of a (frame_of item) ≡ None
item_says a (Begin generation size) = refl
item_says a (Piece piece) = refl
item_says a (Commit generation) = refl

stage_says : (a : Addr) (core : Core) (items : List StageItem) → last_said a (staged core items) ≡ None
stage_says a core [] = refl
stage_says a core (item ∷ items) = ap (λ (o : Option Bool). or_older o (said_of a (frame_of item))) (stage_says a core items) ∙ item_says a item

-- ---- the answers that change

changed_is : (old new : Hops) → answers_changed old new ≡ filter_map (answer_changed old new) new.tracked
unfolding answers_changed
changed_is old new = refl

same_valid : (hops : Hops) (tracked : List Addr) (a : Addr) → is_valid hops a ≡ is_valid (record hops { tracked = tracked }) a
unfolding is_valid
same_valid hops tracked a = refl

abbrev says_if : Bool → Bool → Option Bool
says_if true valid = Some valid
says_if false valid = None

again : (t changed v w : Bool) → changed ≡ true → w ≡ v → or_older (says_if (t && changed) v) (Some w) ≡ says_if changed v
again true true v w is same = refl
again false true v w is same = ap Some same
again t false v w is same = absurd (true≢false (sym is))

silent : (t changed v : Bool) → changed ≡ false → says_if (t && changed) v ≡ says_if changed v
silent true false v is = refl
silent false false v is = refl
silent t true v is = absurd (true≢false is)

changes_say : (old new : Hops) (a : Addr) (tracked : List Addr) → last_said a (map answered (filter_map (answer_changed old new) tracked))
    ≡ says_if (is_tracked_in tracked a && differ (is_valid old a) (is_valid new a)) (is_valid new a)
changes_say old new a [] = refl
changes_say old new a (b ∷ more) = go (changes_say old new a more) (differ (is_valid old b) (is_valid new b)) refl (eq_by_cmp addr_cmp a b) refl
  where
    rest : Option Bool
    rest = says_if (is_tracked_in more a && differ (is_valid old a) (is_valid new a)) (is_valid new a)

    go : last_said a (map answered (filter_map (answer_changed old new) more)) ≡ says_if (is_tracked_in more a && differ (is_valid old a) (is_valid new a)) (is_valid new a)
        → (changed : Bool) → differ (is_valid old b) (is_valid new b) ≡ changed → (here : Bool) → eq_by_cmp addr_cmp a b ≡ here
        → last_said a (map answered (cons_option (if changed then Some (answer_of new b) else None) (filter_map (answer_changed old new) more)))
        ≡ says_if ((here || is_tracked_in more a) && differ (is_valid old a) (is_valid new a)) (is_valid new a)
    go was true d true e = ap (λ (o : Option Bool). or_older o (if eq_by_cmp addr_cmp a b then Some (is_valid new b) else None)) was
        ∙ ap (λ (here : Bool). or_older rest (if here then Some (is_valid new b) else None)) e
        ∙ again (is_tracked_in more a) (differ (is_valid old a) (is_valid new a)) (is_valid new a) (is_valid new b)
        (ap (λ (x : Addr). differ (is_valid old x) (is_valid new x)) (addr_cmp-Equal a b e) ∙ d) (ap (is_valid new) (sym (addr_cmp-Equal a b e)))
    go was true d false e = ap (λ (o : Option Bool). or_older o (if eq_by_cmp addr_cmp a b then Some (is_valid new b) else None)) was
        ∙ ap (λ (here : Bool). or_older rest (if here then Some (is_valid new b) else None)) e
        ∙ or_none rest
    go was false d true e = was ∙ silent (is_tracked_in more a) (differ (is_valid old a) (is_valid new a)) (is_valid new a)
        (ap (λ (x : Addr). differ (is_valid old x) (is_valid new x)) (addr_cmp-Equal a b e) ∙ d)
    go was false d false e = was

now_says : (t v w : Bool) (older : Option Bool) → t ≡ true → older ≡ Some v → or_older (says_if (t && differ v w) w) older ≡ Some w
now_says false v w older is was = absurd (true≢false (sym is))
now_says true true true older is was = was
now_says true true false older is was = refl
now_says true false true older is was = refl
now_says true false false older is was = was

changes_answer : (old new : Hops) (a : Addr) (older : Option Bool) → is_tracked_in new.tracked a ≡ true → older ≡ Some (is_valid old a)
    → or_older (last_said a (map answered (answers_changed old new))) older ≡ Some (is_valid new a)
changes_answer old new a older tracked was =
    ap (λ o. or_older o older) (ap (λ changes. last_said a (map answered changes)) (changed_is old new) ∙ changes_say old new a new.tracked)
    ∙ now_says (is_tracked_in new.tracked a) (is_valid old a) (is_valid new a) older tracked was

-- ---- what is tracked

tracked_more : (a b : Addr) (tracked : List Addr) → eq_by_cmp addr_cmp a b ≡ false → is_tracked_in (insert_key addr_cmp tracked b) a ≡ is_tracked_in tracked a
tracked_more a b [] e = ap (λ (x : Bool). x || false) e
tracked_more a b (c ∷ more) e = go (tracked_more a b more e) (addr_cmp b c)
  where
    go : is_tracked_in (insert_key addr_cmp more b) a ≡ is_tracked_in more a → (order : Ordering)
        → is_tracked_in (match_ordering order (b ∷ c ∷ more) (c ∷ more) (c ∷ insert_key addr_cmp more b)) a ≡ is_tracked_in (c ∷ more) a
    go rest Less = ap (λ (x : Bool). x || is_tracked_in (c ∷ more) a) e
    go rest Equal = refl
    go rest Greater = ap (λ (x : Bool). eq_by_cmp addr_cmp a c || x) rest

or_right : (x y : Bool) → y ≡ true → (x || y) ≡ true
or_right true y h = refl
or_right false y h = h

or_either : (x y z : Bool) → (y ≡ true → z ≡ true) → (x || y) ≡ true → (x || z) ≡ true
or_either true y z h e = refl
or_either false y z h e = h e

tracked_before : (a b : Addr) (tracked : List Addr) → is_tracked_in (remove_key (is_at (addr_cmp b)) tracked) a ≡ true → is_tracked_in tracked a ≡ true
tracked_before a b [] h = h
tracked_before a b (c ∷ more) h = go (tracked_before a b more) (is_at (addr_cmp b) c) h
  where
    go : (is_tracked_in (remove_key (is_at (addr_cmp b)) more) a ≡ true → is_tracked_in more a ≡ true) → (test : Bool)
        → is_tracked_in (cond test more (c ∷ remove_key (is_at (addr_cmp b)) more)) a ≡ true → is_tracked_in (c ∷ more) a ≡ true
    go rest true h = or_right (eq_by_cmp addr_cmp a c) (is_tracked_in more a) h
    go rest false h = or_either (eq_by_cmp addr_cmp a c) (is_tracked_in (remove_key (is_at (addr_cmp b)) more) a) (is_tracked_in more a) rest h

-- ---- the steps

abbrev WasAnswered : Kept → Addr → Option Bool → Type 0
WasAnswered k a older = is_tracked_in k.hops.tracked a ≡ true → older ≡ Some (is_valid k.hops a)

track_answers : (b : Addr) (k : Kept) (a : Addr) (older : Option Bool) → WasAnswered k a older
    → is_tracked_in (insert_key addr_cmp k.hops.tracked b) a ≡ true
    → or_older (if eq_by_cmp addr_cmp a b then Some (is_valid k.hops b) else None) older ≡ Some (is_valid k.hops a)
track_answers b k a older was tracked = go (eq_by_cmp addr_cmp a b) refl
  where
    go : (here : Bool) → eq_by_cmp addr_cmp a b ≡ here → or_older (if here then Some (is_valid k.hops b) else None) older ≡ Some (is_valid k.hops a)
    go true e = ap Some (ap (is_valid k.hops) (sym (addr_cmp-Equal a b e)))
    go false e = was (sym (tracked_more a b k.hops.tracked e) ∙ tracked)

ack_answers : (last : Bool) (stage : Stage) (k : Kept) (a : Addr) (older : Option Bool) → WasAnswered k a older
    → is_tracked_in (if last then advanced stage k else k).hops.tracked a ≡ true
    → or_older (last_said a (if last then given_at stage k else nothing).frames) older ≡ Some (is_valid (if last then advanced stage k else k).hops a)
ack_answers false stage k a older was tracked = was tracked
ack_answers true Idle k a older was tracked = was tracked
ack_answers true AtDecision k a older was tracked = was tracked
ack_answers true (AtSession conf items) k a older was tracked =
    ap (λ (o : Option Bool). or_older o older) (said_both a changes (staged Decision items) ∙ ap (λ (o : Option Bool). or_older o (last_said a changes)) (stage_says a Decision items))
    ∙ changes_answer k.hops (record k.hops { qualify_default = conf.qualify_default }) a older tracked (was tracked)
  where
    changes : List (Core × Frame)
    changes = map answered (answers_changed k.hops (record k.hops { qualify_default = conf.qualify_default }))

frame_answers : (frame : Frame) (k : Kept) (a : Addr) (older : Option Bool) → WasAnswered k a older
    → is_tracked_in (after_frame frame k).hops.tracked a ≡ true
    → or_older (last_said a (given_by frame k).frames) older ≡ Some (is_valid (after_frame frame k).hops a)
frame_answers (frames.Ack generation) k a older was tracked = ack_answers (generation == k.reloads.generation) k.reloads.stage k a older was tracked
frame_answers (frames.Track b) k a older was tracked =
    track_answers b k a older was tracked ∙ ap Some (same_valid k.hops (insert_key addr_cmp k.hops.tracked b) a)
frame_answers (frames.Untrack b) k a older was tracked =
    was (tracked_before a b k.hops.tracked tracked) ∙ ap Some (same_valid k.hops (remove_key (is_at (addr_cmp b)) k.hops.tracked) a)
frame_answers (frames.FibSet n p hop) k a older was tracked = was tracked
frame_answers (frames.FibDel n p) k a older was tracked = was tracked
frame_answers (frames.Couple n on) k a older was tracked = was tracked
frame_answers (frames.Begin generation size) k a older was tracked = was tracked
frame_answers (frames.Piece piece) k a older was tracked = was tracked
frame_answers (frames.Commit generation) k a older was tracked = was tracked
frame_answers (frames.Up session peer asn id agreed) k a older was tracked = was tracked
frame_answers (frames.Down session) k a older was tracked = was tracked
frame_answers (frames.Routes session family withdrawn announced) k a older was tracked = was tracked
frame_answers (frames.Credit session messages) k a older was tracked = was tracked
frame_answers (frames.Refresh session family) k a older was tracked = was tracked
frame_answers (frames.Close session code sub held most) k a older was tracked = was tracked
frame_answers (frames.Nexthop hop valid) k a older was tracked = was tracked
frame_answers (frames.CtlWords words) k a older was tracked = was tracked
frame_answers (frames.CtlText text) k a older was tracked = was tracked
frame_answers (frames.CtlEnd status) k a older was tracked = was tracked

pub tracked_was_answered : (h : History) (a : Addr) → is_tracked_in (kept h).hops.tracked a ≡ true → last_answer a h ≡ Some (is_valid (kept h).hops a)
tracked_was_answered [] a tracked = absurd (true≢false (sym tracked))
tracked_was_answered (Accepted conf ∷ h) a tracked =
    ap (λ (o : Option Bool). or_older o (last_answer a h)) (stage_says a Session (stage_items ((kept h).reloads.generation + 1) (canonical conf))) ∙ tracked_was_answered h a tracked
tracked_was_answered (Took frame ∷ h) a tracked = frame_answers frame (kept h) a (last_answer a h) (tracked_was_answered h a) tracked
tracked_was_answered (Routed p up ∷ h) a tracked =
    changes_answer (kept h).hops (record (kept h).hops { routes = with_route up (kept h).hops.routes p }) a (last_answer a h) tracked (tracked_was_answered h a tracked)
tracked_was_answered (Worked None ∷ h) a tracked = tracked_was_answered h a tracked
tracked_was_answered (Worked (Some n) ∷ h) a tracked = tracked_was_answered h a tracked
tracked_was_answered (Arranged table calls ∷ h) a tracked = tracked_was_answered h a tracked
