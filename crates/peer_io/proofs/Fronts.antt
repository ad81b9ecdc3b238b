-- What stands at the front of a peer's bytes.
use Rattle.std.proofs.Common.{◌≡◌, ◌∙◌, ℕ, zero, suc, ◌+◌, ◌-◌, ◌<◌, ◌≤◌, List, [], ◌∷◌, ◌++◌, length, take, drop, None, refl, sym, ap, arith, append_assoc, append-nil, length-append, inl, inr, ◌⊎◌}
use Rattle.std.specs.Prelude.{flat_map, slice_index}
use Rattle.std.specs.List.{AllByRecursion}
use Rattle.std.specs.Result.{OnOk, OnErr}
use Rattle.std.proofs.Common.{Ok, Err, Result, subst, Bool, true, false, Option, Some}
use Rattle.std.specs.Option.{ForSome, IsSomeAnd}
use Rattle.std.proofs.lemmas.List.{get_or-drop, take-append-le}
use Rattle.std.proofs.Math.ListN.{get_or-append}
use Rattle.std.proofs.lemmas.List.Concat.{flat_map-append}
use Rattle.bgp_wire.specs.declared.front.Cut.{Cut}
use Rattle.bgp_wire.specs.declared.front.Cut.TheVariants as cuts
use Rattle.bgp_wire.specs.declared.notify.Notify.{Notify}
use Rattle.bgp_wire.specs.Message.{AreBytes, BeginsFault, BeginsMessage, Header, IsGood, IsMessage, IsUnfinished, Message, Splits, after_cut, behind, cut_of, header_fault, header_of, message_bytes, messages}
use Rattle.bgp_wire.proofs.Stream.{all_written, cut_more, fault_cut, message_cut, messages_as, partial_cut, split_so}
use Rattle.peer_io.specs.Reading.{CameAs, IsJudged, message_in}

-- an answer with these clauses is what stands in front
pub cut_is : (bytes : List ℕ) (c : Cut) → (c ≡ cuts.More → IsUnfinished bytes) → ((kind n : ℕ) → c ≡ cuts.Message kind n → BeginsMessage bytes kind n) → ((fault : Notify) → c ≡ cuts.Notify fault → BeginsFault bytes fault) → c ≡ cut_of bytes
cut_is bytes cuts.More more message fault = sym (partial_cut bytes (more refl))
cut_is bytes (cuts.Message kind n) more message fault = sym (message_cut bytes kind n (message kind n refl))
cut_is bytes (cuts.Notify why) more message fault = sym (fault_cut bytes why (fault why refl))

-- a message that was judged and isn't whole
pub awaited : (bytes : List ℕ) (size : ℕ) → IsJudged bytes size → length bytes < size → cut_of bytes ≡ cuts.More
awaited bytes size j h =
    let says : size ≡ (header_of bytes).size = j.says in
    partial_cut bytes (inr (j.good, omega (arith, h, says)))

judged_from : (bytes : List ℕ) (size : ℕ) → 19 ≤ length bytes → size ≡ (header_of bytes).size → IsUnfinished bytes → IsJudged bytes size
judged_from bytes size h e (inl short) = absurd (omega (arith, h, short))
judged_from bytes size h e (inr good) = record { there = h; good = good.0; says = e }

pub judged_more : (bytes : List ℕ) (size : ℕ) → 19 ≤ length bytes → size ≡ (header_of bytes).size → cut_of bytes ≡ cuts.More → IsJudged bytes size
judged_more bytes size h e c = judged_from bytes size h e (cut_more bytes c)

same_header : (m m' : List ℕ) (s s' k k' : ℕ) → m ≡ m' → s ≡ s' → k ≡ k' → ◌≡◌ {A = Header} (record { marker = m; size = s; kind = k }) (record { marker = m'; size = s'; kind = k' })
same_header m m' s s' k k' a b c = rw (a, b, c) refl

-- the header of some bytes stands in their first 19
header_on : (rest more : List ℕ) → 19 ≤ length rest → header_of (rest ++ more) ≡ header_of rest
header_on rest more h =
    let marker : take 16 (rest ++ more) ≡ take 16 rest = take-append-le 16 rest more (omega (arith, h)) in
    let place : (i : ℕ) → 16 + i < length rest → slice_index (drop 16 (rest ++ more)) i ≡ slice_index (drop 16 rest) i = λ i low.
    get_or-drop 16 (rest ++ more) i 0 ∙ get_or-append rest more 0 (16 + i) low ∙ sym (get_or-drop 16 rest i 0) in
    let first = place 0 (omega (arith, h)) in
    let second = place 1 (omega (arith, h)) in
    let size : (header_of (rest ++ more)).size ≡ (header_of rest).size = rw (first, second) refl in
    same_header (take 16 (rest ++ more)) (take 16 rest) (header_of (rest ++ more)).size (header_of rest).size (slice_index (rest ++ more) 18) (slice_index rest 18) marker size (get_or-append rest more 0 18 (omega (arith, h)))

-- a header stays judged where bytes come
pub judged_on : (bytes more : List ℕ) (size : ℕ) → IsJudged bytes size → IsJudged (bytes ++ more) size
judged_on bytes more size j = record {
  there = omega (arith, j.there, length-append bytes more);
  good = ap header_fault (header_on bytes more j.there) ∙ j.good;
  says = j.says ∙ sym (ap (λ (h : Header). h.size) (header_on bytes more j.there));
}

first_is : (x : ℕ) (xs : List ℕ) → x < 256 → AreBytes xs → AreBytes (x ∷ xs)
first_is x xs a b zero = a
first_is x xs a b (suc n) = b n

-- each of some bytes and each of others are bytes
are_on : (bytes more : List ℕ) → AreBytes bytes → AreBytes more → AreBytes (bytes ++ more)
are_on [] more a b = b
are_on (x ∷ xs) more a b = first_is x (xs ++ more) (a 0) (are_on xs more (λ k. a (suc k)) b)

pub came_on : (before more : List ℕ) (given : List Message) (held : List ℕ) → AreBytes more → CameAs before given held → CameAs (before ++ more) given (held ++ more)
came_on before more given held b h = record {
  are = are_on before more h.are b;
  whole = ap (λ (x : List ℕ). x ++ more) h.whole ∙ append_assoc (flat_map message_bytes given) held more;
  each = h.each;
}

are_behind : (front rest : List ℕ) → AreBytes (front ++ rest) → AreBytes rest
are_behind [] rest a = a
are_behind (x ∷ xs) rest a = are_behind xs rest (λ i. a (suc i))

-- a message that is cut off stands in front
cut_off : (bytes : List ℕ) (kind size : ℕ) → AreBytes bytes → cut_of bytes ≡ cuts.Message kind size →
    (bytes ≡ message_bytes (message_in kind size bytes) ++ drop size bytes) × IsMessage (message_in kind size bytes)
cut_off bytes kind size a c =
    let rest = drop size bytes in
    let here : Splits bytes (after_cut (cuts.Message kind size) bytes) = rw (← messages_as bytes (cuts.Message kind size) (sym c)) (split_so bytes a) in
    let there : Splits (drop size bytes) (messages (drop size bytes)) = split_so (drop size bytes) (λ i. rw (get_or-drop size bytes i 0) (a (size + i))) in
    let m : Message = message_in kind size bytes in
    let others = messages (drop size bytes) in (
      here.all
          ∙ append_assoc (message_bytes (message_in kind size bytes)) (flat_map message_bytes (messages (drop size bytes)).whole) (messages (drop size bytes)).rest
          ∙ ap (λ (x : List ℕ). message_bytes (message_in kind size bytes) ++ x) (sym there.all),
      here.each.0,
    )

each_on : (ms : List Message) (m : Message) → AllByRecursion IsMessage ms → IsMessage m → AllByRecursion IsMessage (ms ++ m ∷ [])
each_on [] m a b = (b, tt)
each_on (x ∷ xs) m a b = (a.0, each_on xs m a.1 b)

pub came_off : (came : List ℕ) (given : List Message) (held : List ℕ) (kind size : ℕ) → cut_of held ≡ cuts.Message kind size → CameAs came given held → CameAs came (given ++ message_in kind size held ∷ []) (drop size held)
came_off came given held kind size c h =
    let a = are_behind (flat_map message_bytes given) held (rw (← h.whole) h.are) in
    let off = cut_off held kind size a c in
    let m = message_in kind size held in
    let one : flat_map message_bytes (given ++ message_in kind size held ∷ []) ≡ flat_map message_bytes given ++ message_bytes (message_in kind size held) =
    flat_map-append message_bytes given (message_in kind size held ∷ []) ∙ ap (λ (x : List ℕ). flat_map message_bytes given ++ x) (append-nil (message_bytes (message_in kind size held))) in
    record {
      are = h.are;
      whole = h.whole ∙ ap (λ (x : List ℕ). flat_map message_bytes given ++ x) off.0
          ∙ sym (append_assoc (flat_map message_bytes given) (message_bytes (message_in kind size held)) (drop size held))
          ∙ ap (λ (x : List ℕ). x ++ drop size held) (sym one);
      each = each_on given (message_in kind size held) h.each off.1;
    }

-- what was given is what the bytes that came say, as far as they are whole
pub came_says : (came : List ℕ) (given : List Message) (held : List ℕ) → CameAs came given held → messages came ≡ behind given (messages held)
came_says came given held h = ap messages h.whole ∙ all_written given held h.each

pub judged_fed : {A E : Type 0} (r : Result A E) (old more new : List ℕ) (size : ℕ) → OnOk r (new ≡ old ++ more) → OnErr r (new ≡ old) → IsJudged old size → IsJudged new size
judged_fed (Ok _) old more new size ok err j = rw ok (judged_on old more size j)
judged_fed (Err _) old more new size ok err j = rw err j

pub came_fed : {A E : Type 0} (r : Result A E) (was old more new : List ℕ) → AreBytes more → was ≡ old → OnOk r (new ≡ was ++ more) →
    OnOk r ((before : List ℕ) (given : List Message) → CameAs before given old → CameAs (before ++ more) given new)
came_fed (Ok _) was old more new b v ok = λ before given h.
    subst (λ (held : List ℕ). CameAs (before ++ more) given held) (sym (ok ∙ ap (λ (x : List ℕ). x ++ more) v)) (came_on before more given old b h)
came_fed (Err _) was old more new b v ok = tt

pub awaited_by : (bytes : List ℕ) (judged : Option ℕ) (held : ℕ) → held ≡ length bytes → ((size : ℕ) → judged ≡ Some size → IsJudged bytes size) → IsSomeAnd judged (λ size. held < size) → cut_of bytes ≡ cuts.More
awaited_by bytes (Some size) held e j h = awaited bytes size (j size refl) (omega (arith, e, h))
awaited_by bytes None held e j h = elim h [ ]
