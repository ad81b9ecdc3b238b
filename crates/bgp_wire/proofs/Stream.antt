-- A string of bytes is its messages one behind the other, and a rest.
use Rattle.std.proofs.Common.{◌≡◌, ◌∙◌, ℕ, zero, suc, ◌+◌, ◌-◌, ◌*◌, ◌/◌, ◌%◌, ◌<◌, ◌≤◌, ◌^◌, Bool, true, false, List, [], ◌∷◌, ◌++◌, length, drop, take, replicate, Option, Some, None, refl, ap, sym, arith, append_assoc, append-nil, length-append, length-drop, inl, inr}
use Rattle.std.specs.Prelude.{◌&&◌, ◌||◌, not, nat_lt, nat_eq, cond, flat_map, slice_index, ◌⊎◌, IsSome}
use Rattle.std.specs.List.{AllByRecursion}
use Rattle.std.proofs.lemmas.Bool.Decides.{nat_tests}
use Rattle.std.proofs.lemmas.Option.{none-some}
use Rattle.std.proofs.Math.Nat.{mod-eq_of_lt}
use Rattle.std.proofs.Math.ListN.{get_or-append}
use Rattle.std.proofs.lemmas.List.{take-append-le, drop-take, drop-drop, get_or-drop, take-append-drop, length-take-le}
use Rattle.std.proofs.Math.Seq.{take-append_seam, drop-append_seam}
use Rattle.byteorder.specs.Endian.{big_number}
use Rattle.byteorder.specs.Numbers.{big_number-reads_back}
use Rattle.bgp_wire.specs.declared.notify.Notify.{Notify}
use Rattle.bgp_wire.specs.declared.front.Cut.{Cut}
use Rattle.bgp_wire.specs.declared.front.Cut.TheVariants as cuts
use Rattle.bgp_wire.specs.Message.{Header, header_of, header_fault, IsGood, IsUnfinished, BeginsMessage, BeginsFault, Message, message_bytes, IsMessage, Messages, EndsSo, Splits, cut_by, cut_of, messages_by, messages_in, messages, behind, AreBytes, is_all_ones}

row_none : (b : Bool) (fault : Notify) (others : Option Notify) → cond b (Some fault) others ≡ None → (b ≡ false) × (others ≡ None)
row_none true fault others h = absurd (none-some fault (sym h))
row_none false fault others h = (refl, h)

neither : (a b : Bool) → (a || b) ≡ false → (a ≡ false) × (b ≡ false)
neither true b h = cc
neither false b h = (refl, h)

-- the length of a good header
pub good_size : (h : Header) → IsGood h → (19 ≤ h.size) × (h.size ≤ 4096)
good_size h g =
    let past_marker = row_none (not (is_all_ones h.marker)) _ _ g in
    let past_size = row_none (nat_lt h.size 19 || nat_lt 4096 h.size) _ _ past_marker.1 in
    let both = neither (nat_lt h.size 19) (nat_lt 4096 h.size) past_size.0 in
    (grind (arith, nat_tests, both.0), grind (arith, nat_tests, both.1))

-- the header of a message that was written
header_back : (m : Message) (rest : List ℕ) → 19 + length m.body < 2 ^ 16 →
    header_of (message_bytes m ++ rest) ≡ record { marker = replicate 16 255; size = 19 + length m.body; kind = m.kind }
header_back m rest fits =
    let size : big_number 2 (drop 16 (message_bytes m ++ rest)) ≡ 19 + length m.body = big_number-reads_back 2 (19 + length m.body) (m.kind ∷ (m.body ++ rest)) fits in
    rw size refl

cut_good : (bytes : List ℕ) (h : Header) → header_of bytes ≡ h → IsGood h → 19 ≤ length bytes → h.size ≤ length bytes → cut_of bytes ≡ cuts.Message h.kind h.size
cut_good bytes h e good long whole =
    let there : nat_lt (length bytes) 19 ≡ false = grind (arith, nat_tests) in
    let all : nat_lt (length bytes) h.size ≡ false = grind (arith, nat_tests) in
    rw there (ap (λ (x : Header). cut_by (header_fault x) x (length bytes)) e ∙ ap (λ (f : Option Notify). cut_by f h (length bytes)) good ∙ rw all refl)

-- a message in front is cut off
cut_back : (m : Message) (rest : List ℕ) → IsMessage m → cut_of (message_bytes m ++ rest) ≡ cuts.Message m.kind (19 + length m.body)
cut_back m rest good =
    let h : Header = record { marker = replicate 16 255; size = 19 + length m.body; kind = m.kind } in
    let size = good_size (record { marker = replicate 16 255; size = 19 + length m.body; kind = m.kind }) good in
    let body = length-append m.body rest in
    cut_good (message_bytes m ++ rest) (record { marker = replicate 16 255; size = 19 + length m.body; kind = m.kind }) (header_back m rest (omega arith)) good (omega arith) (omega arith)

-- from the answer to what it was decided by
more_of : (c : Bool) (k n : ℕ) → cond c cuts.More (cuts.Message k n) ≡ cuts.More → c ≡ true
more_of true k n e = refl
more_of false k n e = cc

chosen_more : (b : Bool) (f : Option Notify) (h : Header) (held : ℕ) → cond b cuts.More (cut_by f h held) ≡ cuts.More → (b ≡ true) ⊎ ((f ≡ None) × (nat_lt held h.size ≡ true))
chosen_more true f h held e = inl refl
chosen_more false None h held e = inr (refl, more_of (nat_lt held h.size) h.kind h.size e)
chosen_more false (Some fault) h held e = cc

message_of : (c : Bool) (k n kind size : ℕ) → cond c cuts.More (cuts.Message k n) ≡ cuts.Message kind size → (c ≡ false) × ((kind ≡ k) × (size ≡ n))
message_of true k n kind size e = cc
message_of false k n kind size e = (refl, (cc, cc))

chosen_message : (b : Bool) (f : Option Notify) (h : Header) (held kind size : ℕ) → cond b cuts.More (cut_by f h held) ≡ cuts.Message kind size →
    (b ≡ false) × ((f ≡ None) × ((nat_lt held h.size ≡ false) × ((kind ≡ h.kind) × (size ≡ h.size))))
chosen_message true f h held kind size e = cc
chosen_message false None h held kind size e = (refl, (refl, message_of (nat_lt held h.size) h.kind h.size kind size e))
chosen_message false (Some fault) h held kind size e = cc

fault_of : (c : Bool) (k n : ℕ) (fault : Notify) → cond c cuts.More (cuts.Message k n) ≡ cuts.Notify fault → ⊥
fault_of true k n fault e = cc
fault_of false k n fault e = cc

chosen_fault : (b : Bool) (f : Option Notify) (h : Header) (held : ℕ) (fault : Notify) → cond b cuts.More (cut_by f h held) ≡ cuts.Notify fault → (b ≡ false) × (f ≡ Some fault)
chosen_fault true f h held fault e = cc
chosen_fault false None h held fault e = absurd (fault_of (nat_lt held h.size) h.kind h.size fault e)
chosen_fault false (Some found) h held fault e = (refl, cc)

pub cut_more : (bytes : List ℕ) → cut_of bytes ≡ cuts.More → IsUnfinished bytes
cut_more bytes h =
    elim (chosen_more (nat_lt (length bytes) 19) (header_fault (header_of bytes)) (header_of bytes) (length bytes) h)
    [ inl short ↦ inl (grind (arith, nat_tests, short)) | inr rest ↦ inr (rest.0, grind (arith, nat_tests, rest.1)) ]

pub cut_message : (bytes : List ℕ) (kind size : ℕ) → cut_of bytes ≡ cuts.Message kind size → BeginsMessage bytes kind size
cut_message bytes kind size h =
    let found = chosen_message (nat_lt (length bytes) 19) (header_fault (header_of bytes)) (header_of bytes) (length bytes) kind size h in
    let whole : (header_of bytes).size ≤ length bytes = grind (arith, nat_tests, found.1.1.0) in
    record {
      header = grind (arith, nat_tests, found.0);
      good = found.1.0;
      kind = found.1.1.1.0;
      size = found.1.1.1.1;
      whole = rw found.1.1.1.1 whole;
    }

pub cut_fault : (bytes : List ℕ) (fault : Notify) → cut_of bytes ≡ cuts.Notify fault → BeginsFault bytes fault
cut_fault bytes fault h =
    let found = chosen_fault (nat_lt (length bytes) 19) (header_fault (header_of bytes)) (header_of bytes) (length bytes) fault h in
    (grind (arith, nat_tests, found.0), found.1)

-- and back
more_chosen : (b : Bool) (f : Option Notify) (h : Header) (held : ℕ) → f ≡ None → nat_lt held h.size ≡ true → cond b cuts.More (cut_by f h held) ≡ cuts.More
more_chosen true f h held e low = refl
more_chosen false f h held e low = ap (λ (f : Option Notify). cut_by f h held) e ∙ rw low refl

pub partial_cut : (bytes : List ℕ) → IsUnfinished bytes → cut_of bytes ≡ cuts.More
partial_cut bytes (inl short) = let t : nat_lt (length bytes) 19 ≡ true = grind (arith, nat_tests) in rw t refl
partial_cut bytes (inr rest) =
    let low : nat_lt (length bytes) (header_of bytes).size ≡ true = grind (arith, nat_tests, rest.1) in
    more_chosen (nat_lt (length bytes) 19) (header_fault (header_of bytes)) (header_of bytes) (length bytes) rest.0 low

pub fault_cut : (bytes : List ℕ) (fault : Notify) → BeginsFault bytes fault → cut_of bytes ≡ cuts.Notify fault
fault_cut bytes fault h =
    let t : nat_lt (length bytes) 19 ≡ false = grind (arith, nat_tests, h.0) in
    rw t (ap (λ (f : Option Notify). cut_by f (header_of bytes) (length bytes)) h.1)

pub message_cut : (bytes : List ℕ) (kind size : ℕ) → BeginsMessage bytes kind size → cut_of bytes ≡ cuts.Message kind size
message_cut bytes kind size h = rw (h.kind, h.size) (cut_good bytes (header_of bytes) refl h.good h.header (rw (← h.size) h.whole))

-- enough steps are all steps
same_by : (f g : List ℕ → Messages) (c : Cut) (bytes : List ℕ) → ((kind size : ℕ) → c ≡ cuts.Message kind size → f (drop size bytes) ≡ g (drop size bytes)) → messages_by f c bytes ≡ messages_by g c bytes
same_by f g cuts.More bytes h = refl
same_by f g (cuts.Message kind size) bytes h = rw (h kind size refl) refl
same_by f g (cuts.Notify fault) bytes h = refl

behind_shorter : (bytes : List ℕ) (kind size : ℕ) → cut_of bytes ≡ cuts.Message kind size → length (drop size bytes) + 19 ≤ length bytes
behind_shorter bytes kind size h =
    let found = cut_message bytes kind size h in
    let good = good_size (header_of bytes) found.good in
    let long : 19 ≤ size = rw found.size good.0 in
    let whole : size ≤ length bytes = found.whole in
    simp length-drop (omega arith)

nothing_cut : (f : List ℕ → Messages) (bytes : List ℕ) → length bytes ≤ 0 → record { whole = []; rest = bytes; fault = None } ≡ messages_by f (cut_of bytes) bytes
nothing_cut f bytes h = sym (ap (λ (c : Cut). messages_by f c bytes) (partial_cut bytes (inl (omega arith))))

enough : (n m : ℕ) (bytes : List ℕ) → length bytes ≤ n → length bytes ≤ m → messages_in n bytes ≡ messages_in m bytes
unfolding messages_in
enough zero zero bytes a b = refl
enough zero (suc m) bytes a b = nothing_cut (messages_in m) bytes a
enough (suc n) zero bytes a b = sym (nothing_cut (messages_in n) bytes b)
enough (suc n) (suc m) bytes a b =
    same_by (messages_in n) (messages_in m) (cut_of bytes) bytes
    (λ kind size h. let s = behind_shorter bytes kind size h in enough n m (drop size bytes) (omega arith) (omega arith))

-- the messages are the first one and those behind it
pub messages_step : (bytes : List ℕ) → messages bytes ≡ messages_by messages (cut_of bytes) bytes
unfolding messages messages_in
messages_step bytes =
    enough (length bytes) (suc (length bytes)) bytes (omega arith) (omega arith)
    ∙ same_by (messages_in (length bytes)) messages (cut_of bytes) bytes
    (λ kind size h. let s = behind_shorter bytes kind size h in enough (length bytes) (length (drop size bytes)) (drop size bytes) (omega arith) (omega arith))

-- the messages, by what stands in front
pub messages_as : (bytes : List ℕ) (c : Cut) → c ≡ cut_of bytes → messages bytes ≡ messages_by messages c bytes
messages_as bytes c e = messages_step bytes ∙ ap (λ (c : Cut). messages_by messages c bytes) (sym e)

-- what was written in front is the first message
pub message_written : (m : Message) (rest : List ℕ) → IsMessage m → messages (message_bytes m ++ rest) ≡ behind (m ∷ []) (messages rest)
message_written m rest good =
    let size : length (message_bytes m) ≡ 19 + length m.body = omega arith in
    let after : drop (19 + length m.body) (message_bytes m ++ rest) ≡ rest = rw (← size) (drop-append_seam (message_bytes m) rest) in
    let body : drop 19 (take (19 + length m.body) (message_bytes m ++ rest)) ≡ m.body = rw (← size) (take-append_seam m.body rest) in
    messages_as (message_bytes m ++ rest) (cuts.Message m.kind (19 + length m.body)) (sym (cut_back m rest good))
    ∙ ap (λ (b : List ℕ). behind (record { kind = m.kind; body = b } ∷ []) (messages (drop (19 + length m.body) (message_bytes m ++ rest)))) body
    ∙ ap (λ (x : List ℕ). behind (m ∷ []) (messages x)) after

-- what was written is read as these messages, whatever follows
pub all_written : (ms : List Message) (rest : List ℕ) → AllByRecursion IsMessage ms → messages (flat_map message_bytes ms ++ rest) ≡ behind ms (messages rest)
all_written [] rest each = refl
all_written (m ∷ ms) rest each =
    ap messages (append_assoc (message_bytes m) (flat_map message_bytes ms) rest)
    ∙ message_written m (flat_map message_bytes ms ++ rest) each.0
    ∙ ap (behind (m ∷ [])) (all_written ms rest each.1)

-- a rest that holds no message
rest_only : (rest : List ℕ) (fault : Option Notify) → EndsSo rest fault → messages rest ≡ record { whole = []; rest = rest; fault = fault }
rest_only rest None ends = messages_as rest cuts.More (sym (partial_cut rest ends))
rest_only rest (Some fault) ends = messages_as rest (cuts.Notify fault) (sym (fault_cut rest fault ends))

-- a string splits in one way
pub split_only : (bytes : List ℕ) (ms : Messages) → Splits bytes ms → messages bytes ≡ ms
split_only bytes ms s = ap messages s.all ∙ all_written ms.whole ms.rest s.each ∙ ap (behind ms.whole) (rest_only ms.rest ms.fault s.ending) ∙ ap (λ (w : List Message). record { whole = w; rest = ms.rest; fault = ms.fault }) (append-nil ms.whole)

not_not : (b : Bool) → not b ≡ false → b ≡ true
not_not true h = refl
not_not false h = cc

-- the marker
both_true : (a b : Bool) → (a && b) ≡ true → (a ≡ true) × (b ≡ true)
both_true true b h = (refl, h)
both_true false b h = cc

ones_are : (bytes : List ℕ) → is_all_ones bytes ≡ true → bytes ≡ replicate (length bytes) 255
ones_are [] h = refl
ones_are (b ∷ bs) h =
    let parts = both_true (nat_eq b 255) (is_all_ones bs) h in
    let same : b ≡ 255 = grind (arith, nat_tests, parts.0) in
    rw same (ap (λ (xs : List ℕ). 255 ∷ xs) (ones_are bs parts.1))

three_first : (t : List ℕ) → 3 ≤ length t → t ≡ slice_index t 0 ∷ slice_index t 1 ∷ slice_index t 2 ∷ drop 3 t
three_first [] h = absurd (omega arith)
three_first (a ∷ []) h = absurd (omega arith)
three_first (a ∷ b ∷ []) h = absurd (omega arith)
three_first (a ∷ b ∷ c ∷ t) h = refl

-- a number of two bytes is written as these
two_bytes : (a b n : ℕ) → a < 256 → b < 256 → n ≡ a * 256 + (b * 1 + 0) → (n / 256 % 256 ≡ a) × (n % 256 ≡ b)
two_bytes a b n ha hb e =
    let high : n / 256 ≡ a = omega arith in
    (rw high (mod-eq_of_lt ha), omega arith)

-- a message whose header and length are known stands in front
front_parts : (a b k size : ℕ) (r : List ℕ) → a < 256 → b < 256 → IsGood (record { marker = replicate 16 255; size = size; kind = k }) → size ≡ a * 256 + (b * 1 + 0) → 19 ≤ size → size ≤ 19 + length r →
    (replicate 16 255 ++ (a ∷ b ∷ k ∷ r) ≡ message_bytes (record { kind = k; body = take (size - 19) r }) ++ drop (size - 19) r) × IsMessage (record { kind = k; body = take (size - 19) r })
front_parts a b k size r ha hb good e low whole =
    let body : length (take (size - 19) r) ≡ size - 19 = length-take-le (size - 19) r (omega arith) in
    let all : 19 + length (take (size - 19) r) ≡ size = omega arith in
    let parts = two_bytes a b size ha hb e in
    (rw (all, parts.0, parts.1, take-append-drop (size - 19) r) refl, rw all good)

same_header : (m m' : List ℕ) (s s' k k' : ℕ) → m ≡ m' → s ≡ s' → k ≡ k' → ◌≡◌ {A = Header} (record { marker = m; size = s; kind = k }) (record { marker = m'; size = s'; kind = k' })
same_header m m' s s' k k' a b c = rw (a, b, c) refl

-- the front of a string is the message that is cut off
front_is : (bytes : List ℕ) (kind size : ℕ) → AreBytes bytes → BeginsMessage bytes kind size →
    (bytes ≡ message_bytes (record { kind = kind; body = drop 19 (take size bytes) }) ++ drop size bytes) × IsMessage (record { kind = kind; body = drop 19 (take size bytes) })
front_is bytes kind size are found =
    let long : 19 ≤ length bytes = found.header in
    let low : 19 ≤ size = rw found.size (good_size (header_of bytes) found.good).0 in
    let ones : is_all_ones (take 16 bytes) ≡ true = not_not (is_all_ones (take 16 bytes)) (row_none (not (is_all_ones (take 16 bytes))) _ _ found.good).0 in
    let sixteen : length (take 16 bytes) ≡ 16 = length-take-le 16 bytes (omega arith) in
    let marker : take 16 bytes ≡ replicate 16 255 = ones_are (take 16 bytes) ones ∙ ap (λ (n : ℕ). replicate n 255) sixteen in
    let good : IsGood (record { marker = replicate 16 255; size = size; kind = kind }) =
    ap header_fault (same_header (replicate 16 255) (take 16 bytes) size (header_of bytes).size kind (header_of bytes).kind (sym marker) found.size found.kind) ∙ found.good in
    let three : 3 ≤ length (drop 16 bytes) = simp length-drop (omega arith) in
    let last : slice_index (drop 16 bytes) 2 ≡ kind = get_or-drop 16 bytes 2 0 ∙ sym found.kind in
    let after : drop 3 (drop 16 bytes) ≡ drop 19 bytes = drop-drop 3 16 bytes in
    let tail : drop 16 bytes ≡ slice_index (drop 16 bytes) 0 ∷ slice_index (drop 16 bytes) 1 ∷ kind ∷ drop 19 bytes =
    three_first (drop 16 bytes) three ∙ ap (λ (k : ℕ). slice_index (drop 16 bytes) 0 ∷ slice_index (drop 16 bytes) 1 ∷ k ∷ drop 3 (drop 16 bytes)) last
    ∙ ap (λ (r : List ℕ). slice_index (drop 16 bytes) 0 ∷ slice_index (drop 16 bytes) 1 ∷ kind ∷ r) after in
    let shape : bytes ≡ replicate 16 255 ++ (slice_index (drop 16 bytes) 0 ∷ slice_index (drop 16 bytes) 1 ∷ kind ∷ drop 19 bytes) =
    sym (take-append-drop 16 bytes) ∙ ap (λ (m : List ℕ). m ++ drop 16 bytes) marker ∙ ap (λ (t : List ℕ). replicate 16 255 ++ t) tail in
    let high : slice_index (drop 16 bytes) 0 < 256 = rw (get_or-drop 16 bytes 0 0) (are 16) in
    let lower : slice_index (drop 16 bytes) 1 < 256 = rw (get_or-drop 16 bytes 1 0) (are 17) in
    let left : size ≤ 19 + length (drop 19 bytes) = simp length-drop (let w = found.whole in omega arith) in
    let parts = front_parts (slice_index (drop 16 bytes) 0) (slice_index (drop 16 bytes) 1) kind size (drop 19 bytes) high lower good found.size low left in
    let all : 19 + (size - 19) ≡ size = omega arith in
    let body : take (size - 19) (drop 19 bytes) ≡ drop 19 (take size bytes) = sym (drop-take 19 (size - 19) bytes) ∙ ap (λ (n : ℕ). drop 19 (take n bytes)) all in
    let behind_it : drop (size - 19) (drop 19 bytes) ≡ drop size bytes = drop-drop (size - 19) 19 bytes ∙ ap (λ (n : ℕ). drop n bytes) all in (
      shape ∙ parts.0
          ∙ ap (λ (b : List ℕ). message_bytes (record { kind = kind; body = b }) ++ drop (size - 19) (drop 19 bytes)) body
          ∙ ap (λ (t : List ℕ). message_bytes (record { kind = kind; body = drop 19 (take size bytes) }) ++ t) behind_it,
      rw (← body) parts.1,
    )

-- the messages of a string split it, by what stands in front
splits_by : (bytes : List ℕ) → AreBytes bytes → (c : Cut) → c ≡ cut_of bytes →
    ((kind size : ℕ) → c ≡ cuts.Message kind size → Splits (drop size bytes) (messages (drop size bytes))) → Splits bytes (messages bytes)
splits_by bytes are cuts.More e others =
    rw (messages_as bytes cuts.More e) (record { all = refl; each = tt; ending = cut_more bytes (sym e) })
splits_by bytes are (cuts.Notify fault) e others =
    rw (messages_as bytes (cuts.Notify fault) e) (record { all = refl; each = tt; ending = cut_fault bytes fault (sym e) })
splits_by bytes are (cuts.Message kind size) e others =
    let m : Message = record { kind = kind; body = drop 19 (take size bytes) } in
    let front = front_is bytes kind size are (cut_message bytes kind size (sym e)) in
    let rest : Splits (drop size bytes) (messages (drop size bytes)) = others kind size refl in
    rw (messages_as bytes (cuts.Message kind size) e) (record {
      all = front.0 ∙ ap (λ (t : List ℕ). message_bytes (record { kind = kind; body = drop 19 (take size bytes) }) ++ t) rest.all
          ∙ sym (append_assoc (message_bytes (record { kind = kind; body = drop 19 (take size bytes) })) (flat_map message_bytes (messages (drop size bytes)).whole) (messages (drop size bytes)).rest);
      each = (front.1, rest.each);
      ending = rest.ending;
    })

splits_in : (n : ℕ) (bytes : List ℕ) → length bytes ≤ n → AreBytes bytes → Splits bytes (messages bytes)
splits_in zero bytes h are =
    splits_by bytes are (cut_of bytes) refl (λ kind size e. let s = behind_shorter bytes kind size e in absurd (omega arith))
splits_in (suc n) bytes h are =
    splits_by bytes are (cut_of bytes) refl
    (λ kind size e. let s = behind_shorter bytes kind size e in
    splits_in n (drop size bytes) (omega arith) (λ i. rw (get_or-drop size bytes i 0) (are (size + i))))

-- the messages of a string split it
pub split_so : (bytes : List ℕ) → AreBytes bytes → Splits bytes (messages bytes)
split_so bytes are = splits_in (length bytes) bytes (omega arith) are

-- bytes that come later go on where the first ended
pub goes_on : (bytes more : List ℕ) → AreBytes bytes → (messages bytes).fault ≡ None →
    messages (bytes ++ more) ≡ behind (messages bytes).whole (messages ((messages bytes).rest ++ more))
goes_on bytes more are none =
    let s : Splits bytes (messages bytes) = split_so bytes are in
    ap messages (ap (λ (x : List ℕ). x ++ more) s.all ∙ append_assoc (flat_map message_bytes (messages bytes).whole) (messages bytes).rest more)
    ∙ all_written (messages bytes).whole ((messages bytes).rest ++ more) s.each

-- the header of some bytes stands in their first 19
header_on : (rest more : List ℕ) → 19 ≤ length rest → header_of (rest ++ more) ≡ header_of rest
header_on rest more h =
    let marker : take 16 (rest ++ more) ≡ take 16 rest = take-append-le 16 rest more (omega (arith, h)) in
    let place : (i : ℕ) → 16 + i < length rest → slice_index (drop 16 (rest ++ more)) i ≡ slice_index (drop 16 rest) i = λ i low.
    get_or-drop 16 (rest ++ more) i 0 ∙ get_or-append rest more 0 (16 + i) low ∙ sym (get_or-drop 16 rest i 0) in
    let first = place 0 (omega (arith, h)) in
    let second = place 1 (omega (arith, h)) in
    let size : (header_of (rest ++ more)).size ≡ (header_of rest).size = rw (first, second) refl in
    same_header (take 16 (rest ++ more)) (take 16 rest) (header_of (rest ++ more)).size (header_of rest).size (slice_index (rest ++ more) 18) (slice_index rest 18) marker size (get_or-append rest more 0 18 (omega (arith, h)))

ends_on : (rest more : List ℕ) (fault : Option Notify) → IsSome fault → EndsSo rest fault → EndsSo (rest ++ more) fault
ends_on rest more None some h = absurd cc
ends_on rest more (Some fault) some h = (omega (arith, h.0, length-append rest more), ap header_fault (header_on rest more h.0) ∙ h.1)

-- bytes behind a bad header change neither the messages nor the fault
pub stays : (bytes more : List ℕ) → AreBytes bytes → IsSome (messages bytes).fault → messages (bytes ++ more) ≡ record (messages bytes) { rest = (messages bytes).rest ++ more }
stays bytes more are some =
    let s : Splits bytes (messages bytes) = split_so bytes are in
    split_only (bytes ++ more) (record (messages bytes) { rest = (messages bytes).rest ++ more }) (record {
      all = ap (λ (x : List ℕ). x ++ more) s.all ∙ append_assoc (flat_map message_bytes (messages bytes).whole) (messages bytes).rest more;
      each = s.each;
      ending = ends_on (messages bytes).rest more (messages bytes).fault some s.ending;
    })
