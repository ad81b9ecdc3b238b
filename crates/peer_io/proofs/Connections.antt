-- What a connection sends, message by message.
use Rattle.std.proofs.Common.{◌≡◌, ◌∙◌, ℕ, zero, suc, ◌+◌, ◌-◌, ◌<◌, ◌≤◌, ◌==◌, Bool, true, false, cond, eqb, leb, List, [], ◌∷◌, ◌++◌, length, take, drop, map, min, refl, sym, ap, arith, rules, tests, append_assoc, append-nil, length-append, length-drop}
use Rattle.std.specs.Prelude.{flat_map}
use Rattle.std.specs.List.{AllByRecursion}
use Rattle.std.specs.Result.{OnOk}
use Rattle.std.proofs.Common.{Ok, Err, Result, subst}
use Rattle.std.proofs.lemmas.Bool.{leb-true, leb-false, eqb-true, eqb-false}
use Rattle.std.proofs.lemmas.Bool.Decides.{nat_tests}
use Rattle.std.proofs.lemmas.List.{length-take-le, take-append-drop}
use Rattle.std.proofs.lemmas.List.Concat.{flat_map-append}
use Rattle.std.proofs.lemmas.List.Sums.{sum_by-cons}
use Rattle.std.proofs.Math.Seq.{take-append-add, take-nil}
use Rattle.bgp_wire.specs.Message.{IsMessage, Message, message_bytes}
use Rattle.peer_io.specs.declared.outbox.Waiting.{Waiting}
use Rattle.peer_io.specs.Queue.{IsQueue, Queue, begun_of, ended, rest_of, unsent}
use Rattle.peer_io.specs.Sending.{Pushes, Sends, mark, marks, started, updates_sent, with_message}
use Rattle.peer_io.proofs.Marks.{begun_more, begun_push, ended_more, first_unsent, total, total_unsent, unsent_more, unsent_push}

abbrev size_of : Message → ℕ
size_of m = 19 + length m.body

message_length : (m : Message) → length (message_bytes m) ≡ 19 + length m.body
message_length m = omega arith

marks_push : (ms : List Message) (m : Message) → marks (ms ++ m ∷ []) ≡ marks ms ++ mark m ∷ []
marks_push [] m = refl
marks_push (x ∷ xs) m = ap (λ (ws : List Waiting). mark x ∷ ws) (marks_push xs m)

-- the bytes of messages are as many as their marks say
pub total_marks : (ms : List Message) → total (marks ms) ≡ length (flat_map message_bytes ms)
total_marks [] = refl
total_marks (m ∷ ms) =
    sum_by-cons (λ w. w.size) (mark m) (marks ms) ∙ ap (λ (n : ℕ). (19 + length m.body) + n) (total_marks ms)
    ∙ ap (λ (n : ℕ). n + length (flat_map message_bytes ms)) (sym (message_length m)) ∙ sym (length-append (message_bytes m) (flat_map message_bytes ms))

-- no more was sent than there is
sent_le : (q : Queue) (sent : List ℕ) (ms : List Message) → Sends q sent ms → length sent ≤ total (marks ms)
sent_le q sent ms s =
    let all = ap length s.whole in
    omega (arith, all, total_marks ms, length-append sent q.bytes)

each_on : (ms : List Message) (m : Message) → AllByRecursion IsMessage ms → IsMessage m → AllByRecursion IsMessage (ms ++ m ∷ [])
each_on [] m a b = (b, tt)
each_on (x ∷ xs) m a b = (a.0, each_on xs m a.1 b)

-- a message that is put behind the others is the last
pub sends_push : (m : Message) (old new : Queue) → new ≡ with_message m old → IsMessage m → Pushes m old new
sends_push m old new e is = record {
  state = e;
  sends = λ sent ms s. rw e (record {
    whole = sym (append_assoc sent old.bytes (message_bytes m)) ∙ ap (λ (x : List ℕ). x ++ message_bytes m) s.whole
        ∙ ap (λ (x : List ℕ). flat_map message_bytes ms ++ x) (sym (append-nil (message_bytes m))) ∙ sym (flat_map-append message_bytes ms (m ∷ []));
    each = each_on ms m s.each is;
    waiting = ap (λ (ws : List Waiting). ws ++ mark m ∷ []) s.waiting
        ∙ sym (unsent_push (length sent) (marks ms) (mark m) (sent_le old sent ms s) (omega arith)) ∙ ap (unsent (length sent)) (sym (marks_push ms m));
    begun = s.begun ∙ sym (begun_push (length sent) (marks ms) (mark m) (sent_le old sent ms s) (omega arith)) ∙ ap (begun_of (length sent)) (sym (marks_push ms m));
  });
}

length_sent : (sent bytes : List ℕ) (n : ℕ) → n ≤ length bytes → length (sent ++ take n bytes) ≡ length sent + n
length_sent sent bytes n h = length-append sent (take n bytes) ∙ ap (λ (k : ℕ). length sent + k) (length-take-le n bytes h)

-- bytes that are sent
pub sends_more : (q new : Queue) (n : ℕ) (sent : List ℕ) (ms : List Message) → n ≤ length q.bytes →
    new ≡ record { bytes = drop n q.bytes; waiting = unsent (q.begun + n) q.waiting; begun = begun_of (q.begun + n) q.waiting } → Sends q sent ms → Sends new (sent ++ take n q.bytes) ms
sends_more q new n sent ms h e s =
    let place = length_sent sent q.bytes n h in
    rw e (record {
      whole = append_assoc sent (take n q.bytes) (drop n q.bytes) ∙ ap (λ (x : List ℕ). sent ++ x) (take-append-drop n q.bytes) ∙ s.whole;
      each = s.each;
      waiting = ap (λ (b : ℕ). unsent (b + n) q.waiting) s.begun ∙ ap (unsent (begun_of (length sent) (marks ms) + n)) s.waiting
          ∙ unsent_more (length sent) n (marks ms) ∙ ap (λ (k : ℕ). unsent k (marks ms)) (sym place);
      begun = ap (λ (b : ℕ). begun_of (b + n) q.waiting) s.begun ∙ ap (begun_of (begun_of (length sent) (marks ms) + n)) s.waiting
          ∙ begun_more (length sent) n (marks ms) ∙ ap (λ (k : ℕ). begun_of k (marks ms)) (sym place);
    })

pub ends_more : (q : Queue) (n : ℕ) (sent : List ℕ) (ms : List Message) → n ≤ length q.bytes → Sends q sent ms →
    updates_sent (sent ++ take n q.bytes) ms ≡ updates_sent sent ms + ended (q.begun + n) q.waiting
ends_more q n sent ms h s =
    ap (λ (k : ℕ). ended k (marks ms)) (length_sent sent q.bytes n h) ∙ ended_more (length sent) n (marks ms)
    ∙ ap (λ (b : ℕ). ended (length sent) (marks ms) + ended (b + n) (unsent (length sent) (marks ms))) (sym s.begun)
    ∙ ap (λ (ws : List Waiting). ended (length sent) (marks ms) + ended (q.begun + n) ws) (sym s.waiting)

-- the messages of which a byte was sent are the bytes up to the end of the one that is begun
none_started : (ms : List Message) → started 0 ms ≡ []
none_started [] = refl
none_started (m ∷ ms) = refl

take_more_of : (m : Message) (rest : List ℕ) (n r : ℕ) → 19 + length m.body ≤ n → take (n + r) (message_bytes m ++ rest) ≡ message_bytes m ++ take ((n - (19 + length m.body)) + r) rest
take_more_of m rest n r h =
    let e : n + r ≡ length (message_bytes m) + ((n - (19 + length m.body)) + r) = omega (arith, h, message_length m) in
    ap (λ (k : ℕ). take k (message_bytes m ++ rest)) e ∙ take-append-add (message_bytes m) rest ((n - (19 + length m.body)) + r)

take_one_of : (m : Message) (rest : List ℕ) (n : ℕ) → n < 19 + length m.body → take (n + ((19 + length m.body) - n)) (message_bytes m ++ rest) ≡ message_bytes m ++ []
take_one_of m rest n h =
    let e : n + ((19 + length m.body) - n) ≡ length (message_bytes m) + 0 = omega (arith, h, message_length m) in
    ap (λ (k : ℕ). take k (message_bytes m ++ rest)) e ∙ take-append-add (message_bytes m) rest 0

none_begun : (m : Message) (ms : List Message) → rest_of (begun_of 0 (marks (m ∷ ms))) (unsent 0 (marks (m ∷ ms))) ≡ 0
none_begun m ms = let t : leb (19 + length m.body) 0 ≡ false = grind (arith, nat_tests) in rw t refl

started_bytes : (n : ℕ) (ms : List Message) → flat_map message_bytes (started n ms) ≡ take (n + rest_of (begun_of n (marks ms)) (unsent n (marks ms))) (flat_map message_bytes ms)
started_bytes n [] = sym (take-nil (n + 0))
started_bytes n (m ∷ ms) = nothing (started_bytes (n - (19 + length m.body)) ms) (eqb n 0) refl
  where
    some : flat_map message_bytes (started (n - (19 + length m.body)) ms)
        ≡ take ((n - (19 + length m.body)) + rest_of (begun_of (n - (19 + length m.body)) (marks ms)) (unsent (n - (19 + length m.body)) (marks ms))) (flat_map message_bytes ms) → (b : Bool) → leb (19 + length m.body) n ≡ b → 0 < n →
        message_bytes m ++ flat_map message_bytes (started (n - (19 + length m.body)) ms)
        ≡ take (n + rest_of (cond b (begun_of (n - (19 + length m.body)) (marks ms)) n) (cond b (unsent (n - (19 + length m.body)) (marks ms)) (mark m ∷ marks ms))) (message_bytes m ++ flat_map message_bytes ms)
    some rec true e p =
        ap (λ (x : List ℕ). message_bytes m ++ x) rec
        ∙ sym (take_more_of m (flat_map message_bytes ms) n (rest_of (begun_of (n - (19 + length m.body)) (marks ms)) (unsent (n - (19 + length m.body)) (marks ms))) (leb-true _ _ e))
    some rec false e p =
        let low = leb-false _ _ e in
        let z : n - (19 + length m.body) ≡ 0 = omega (arith, low) in
        let t : eqb n 0 ≡ false = search (rules, tests) in
        ap (λ (k : ℕ). message_bytes m ++ flat_map message_bytes (started k ms)) z ∙ ap (λ (x : List Message). message_bytes m ++ flat_map message_bytes x) (none_started ms)
        ∙ sym (ap (λ (b : Bool). take (n + cond b 0 ((19 + length m.body) - n)) (message_bytes m ++ flat_map message_bytes ms)) t ∙ take_one_of m (flat_map message_bytes ms) n (omega (arith, low)))

    nothing : flat_map message_bytes (started (n - (19 + length m.body)) ms)
        ≡ take ((n - (19 + length m.body)) + rest_of (begun_of (n - (19 + length m.body)) (marks ms)) (unsent (n - (19 + length m.body)) (marks ms))) (flat_map message_bytes ms) → (b : Bool) → eqb n 0 ≡ b →
        flat_map message_bytes (cond b [] (m ∷ started (n - (19 + length m.body)) ms))
        ≡ take (n + rest_of (begun_of n (marks (m ∷ ms))) (unsent n (marks (m ∷ ms)))) (message_bytes m ++ flat_map message_bytes ms)
    nothing rec true e =
        let z = eqb-true _ _ e in
        sym (ap (λ (k : ℕ). take (k + rest_of (begun_of k (marks (m ∷ ms))) (unsent k (marks (m ∷ ms)))) (message_bytes m ++ flat_map message_bytes ms)) z
        ∙ ap (λ (r : ℕ). take (0 + r) (message_bytes m ++ flat_map message_bytes ms)) (none_begun m ms))
    nothing rec false e = some rec (leb (19 + length m.body) n) refl (omega (arith, eqb-false _ _ e))

-- the last bytes of a connection are whole messages behind those that were sent
pub sends_last : (q : Queue) (sent : List ℕ) (ms : List Message) (note : Message) → Sends q sent ms →
    sent ++ (take (rest_of q.begun q.waiting) q.bytes ++ message_bytes note) ≡ flat_map message_bytes (started (length sent) ms ++ note ∷ [])
sends_last q sent ms note s =
    let r = rest_of q.begun q.waiting in
    let same : rest_of q.begun q.waiting ≡ rest_of (begun_of (length sent) (marks ms)) (unsent (length sent) (marks ms)) =
    ap (λ (b : ℕ). rest_of b q.waiting) s.begun ∙ ap (rest_of (begun_of (length sent) (marks ms))) s.waiting in
    let front : sent ++ take (rest_of q.begun q.waiting) q.bytes ≡ flat_map message_bytes (started (length sent) ms) =
    sym (take-append-add sent q.bytes (rest_of q.begun q.waiting)) ∙ ap (take (length sent + rest_of q.begun q.waiting)) s.whole
    ∙ ap (λ (k : ℕ). take (length sent + k) (flat_map message_bytes ms)) same ∙ sym (started_bytes (length sent) ms) in
    sym (append_assoc sent (take (rest_of q.begun q.waiting) q.bytes) (message_bytes note)) ∙ ap (λ (x : List ℕ). x ++ message_bytes note) front
    ∙ ap (λ (x : List ℕ). flat_map message_bytes (started (length sent) ms) ++ x) (sym (append-nil (message_bytes note)))
    ∙ sym (flat_map-append message_bytes (started (length sent) ms) (note ∷ []))

same_queue : (b b' : List ℕ) (w w' : List Waiting) (g g' : ℕ) → b ≡ b' → w ≡ w' → g ≡ g' → ◌≡◌ {A = Queue} (record { bytes = b; waiting = w; begun = g }) (record { bytes = b'; waiting = w'; begun = g' })
same_queue b b' w w' g g' eb ew eg = rw (eb, ew, eg) refl

-- a write, by what it did to each part
pub written_sends : (old new : Queue) (n : ℕ) (bytes : List ℕ) → n ≤ length old.bytes → bytes ≡ take n old.bytes →
    new.bytes ≡ drop n old.bytes → new.waiting ≡ unsent (old.begun + n) old.waiting → new.begun ≡ begun_of (old.begun + n) old.waiting →
    (sent : List ℕ) (ms : List Message) → Sends old sent ms → Sends new (sent ++ bytes) ms
written_sends old new n bytes h e eb ew eg sent ms s =
    rw e (sends_more old new n sent ms h (same_queue new.bytes (drop n old.bytes) new.waiting (unsent (old.begun + n) old.waiting) new.begun (begun_of (old.begun + n) old.waiting) eb ew eg) s)

pub written_ends : (old : Queue) (n : ℕ) (bytes : List ℕ) (updates : ℕ) → n ≤ length old.bytes → bytes ≡ take n old.bytes → updates ≡ ended (old.begun + n) old.waiting →
    (sent : List ℕ) (ms : List Message) → Sends old sent ms → updates_sent (sent ++ bytes) ms ≡ updates_sent sent ms + updates
written_ends old n bytes updates h e u sent ms s = rw (e, u) (ends_more old n sent ms h s)

pub queue_more : (bytes : List ℕ) (ws : List Waiting) (begun n : ℕ) → n ≤ length bytes → IsQueue bytes ws begun → IsQueue (drop n bytes) (unsent (begun + n) ws) (begun_of (begun + n) ws)
queue_more bytes ws begun n h q = record {
  total = let all : total ws ≡ begun + length bytes = q.total in
      omega (arith, total_unsent (begun + n) ws (omega (arith, all, h)), all, h, length-drop n bytes);
  first = first_unsent (begun + n) ws;
}

length_put : (bytes : List ℕ) (m : Message) → length (bytes ++ message_bytes m) - length bytes ≡ 19 + length m.body
length_put bytes m = omega (arith, length-append bytes (message_bytes m), message_length m)

same_mark : (s s' : ℕ) (u u' : Bool) → s ≡ s' → u ≡ u' → ◌≡◌ {A = Waiting} (record { size = s; is_update = u }) (record { size = s'; is_update = u' })
same_mark s s' u u' a b = rw (a, b) refl

-- a push, by what it did to each part
pub pushed : {A E : Type 0} (r : Result A E) (m : Message) (was old new : Queue) (out : List ℕ) (held : ℕ) (u : Bool) →
    was ≡ old → out ≡ was.bytes ++ message_bytes m → held ≡ length was.bytes → u ≡ (m.kind == 2) → IsMessage m → new.begun ≡ was.begun →
    OnOk r (new.waiting ≡ was.waiting ++ record { size = length out - held; is_update = u } ∷ []) → OnOk r (new.bytes ≡ out) → OnOk r (Pushes m old new)
pushed (Ok _) m was old new out held u e put h k is b ws bs =
    let size : length out - held ≡ 19 + length m.body = ap (λ (x : List ℕ). length x - held) put ∙ ap (λ (n : ℕ). length (was.bytes ++ message_bytes m) - n) h ∙ length_put was.bytes m in
    let marked : new.waiting ≡ was.waiting ++ mark m ∷ [] = ws ∙ ap (λ (w : Waiting). was.waiting ++ w ∷ []) (same_mark (length out - held) (19 + length m.body) u (m.kind == 2) size k) in
    subst (λ (q : Queue). Pushes m q new) e (sends_push m was new (same_queue new.bytes (was.bytes ++ message_bytes m) new.waiting (was.waiting ++ mark m ∷ []) new.begun was.begun (bs ∙ put) marked b) is)
pushed (Err _) m was old new out held u e put h k is b ws bs = tt
