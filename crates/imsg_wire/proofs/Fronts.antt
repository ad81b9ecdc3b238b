-- What stands at the front of some bytes, when it was written and when more bytes come.
use Rattle.std.proofs.Common.{◌≡◌, ◌∙◌, ℕ, ◌+◌, ◌-◌, ◌<◌, ◌≤◌, Bool, true, false, List, [], ◌++◌, length, drop, take, Option, Some, None, Result, Ok, Err, refl, ap, sym, arith, append_assoc, length-append, length-drop}
use Rattle.std.specs.Prelude.{◌||◌, nat_lt, cond, OnOk, OnErr}
use Rattle.std.proofs.lemmas.Bool.Decides.{nat_tests}
use Rattle.std.proofs.lemmas.List.{drop-append-le, drop-take, take-append-le}
use Rattle.std.proofs.Math.Seq.{take-append_seam, drop-append_seam}
use Rattle.byteorder.specs.Endian.{little_number}
use Rattle.byteorder.specs.Numbers.{little_from-append, little_number-reads_back}
use Rattle.imsg_wire.specs.declared.header.Header.{Header}
use Rattle.imsg_wire.specs.declared.raw.Raw.{Raw}
use Rattle.imsg_wire.specs.Frame.{header_of, header_at, frame_header, frame_bytes, frame_behind, IsFrame, More, Whole, Bad, front_by, front_of}

-- a number is the same when more bytes come
number-append : (n at : ℕ) (bytes more : List ℕ) → at + n ≤ length bytes → little_number n (drop at (bytes ++ more)) ≡ little_number n (drop at bytes)
number-append n at bytes more h =
    let enough : at ≤ length bytes = omega arith in
    let left : n ≤ length (drop at bytes) = simp length-drop (omega arith) in
    ap (λ (x : List ℕ). little_number n x) (drop-append-le at bytes more enough) ∙ little_from-append n (drop at bytes) more left

header-append : (bytes more : List ℕ) → 16 ≤ length bytes → header_of (bytes ++ more) ≡ header_of bytes
unfolding header_of
header-append bytes more h =
    rw (
      number-append 4 0 bytes more (omega arith),
      number-append 2 4 bytes more (omega arith),
      number-append 4 8 bytes more (omega arith),
      number-append 4 12 bytes more (omega arith),
    ) refl

there : {A : Type 0} (short : Bool) (x y : A) → cond short None (Some x) ≡ Some y → (short ≡ false) × (x ≡ y)
there true x y h = cc
there false x y h = (refl, cc)

-- a whole header stays
pub header_at-append : (bytes more : List ℕ) (h : Header) → header_at bytes ≡ Some h → header_at (bytes ++ more) ≡ Some h
header_at-append bytes more h e =
    let found = there (nat_lt (length bytes) 16) (header_of bytes) h e in
    let long : 16 ≤ length bytes = grind (arith, nat_tests, found.0) in
    let l = length-append bytes more in
    let still : nat_lt (length (bytes ++ more)) 16 ≡ false = grind (arith, nat_tests) in
    rw still (ap Some (header-append bytes more long ∙ found.1))

-- a header with these bytes makes this frame and leaves this rest
pub record IsWhole (h : Header) (bytes : List ℕ) (its : Raw) (left : List ℕ) : Type 0 where
  pub good : (nat_lt h.size 16 || nat_lt 16384 h.size) ≡ false
  pub there : h.size ≤ length bytes
  pub raw : frame_behind h bytes ≡ its
  pub rest : drop h.size bytes ≡ left

chosen_whole : (bad short : Bool) (size : ℕ) (one other : Raw) (ones others : List ℕ) → cond bad (Bad size) (cond short More (Whole one ones)) ≡ Whole other others → (bad ≡ false) × ((short ≡ false) × ((one ≡ other) × (ones ≡ others)))
chosen_whole true short size one other ones others h = cc
chosen_whole false true size one other ones others h = cc
chosen_whole false false size one other ones others h = (refl, (refl, (cc, cc)))

pub whole_by : (h : Header) (bytes : List ℕ) (raw : Raw) (rest : List ℕ) → front_by (Some h) bytes ≡ Whole raw rest → IsWhole h bytes raw rest
whole_by h bytes raw rest e =
    let found = chosen_whole (nat_lt h.size 16 || nat_lt 16384 h.size) (nat_lt (length bytes) h.size) h.size (frame_behind h bytes) raw (drop h.size bytes) rest e in
    record { good = found.0; there = grind (arith, nat_tests, found.1.0); raw = found.1.1.0; rest = found.1.1.1 }

pub by_whole : (h : Header) (bytes : List ℕ) (raw : Raw) (rest : List ℕ) → IsWhole h bytes raw rest → front_by (Some h) bytes ≡ Whole raw rest
by_whole h bytes raw rest w =
    let all : nat_lt (length bytes) h.size ≡ false = grind (arith, nat_tests, w.there) in
    rw (w.good, all, w.raw, w.rest) refl

whole_append : (h : Header) (bytes more : List ℕ) (raw : Raw) (rest : List ℕ) → IsWhole h bytes raw rest → IsWhole h (bytes ++ more) raw (rest ++ more)
whole_append h bytes more raw rest w =
    let here : h.size ≤ length bytes = w.there in
    record {
      good = w.good;
      there = simp length-append (omega arith);
      raw = ap (λ (x : List ℕ). record { kind = h.kind; peer = h.peer; pid = h.pid; payload = drop 16 x }) (take-append-le h.size bytes more here) ∙ w.raw;
      rest = drop-append-le h.size bytes more here ∙ ap (λ (x : List ℕ). x ++ more) w.rest;
    }

whole_append_by : (o : Option Header) (bytes more : List ℕ) (raw : Raw) (rest : List ℕ) → header_at bytes ≡ o → front_by o bytes ≡ Whole raw rest → front_by (header_at (bytes ++ more)) (bytes ++ more) ≡ Whole raw (rest ++ more)
whole_append_by None bytes more raw rest e f = cc
whole_append_by (Some h) bytes more raw rest e f =
    ap (λ (o : Option Header). front_by o (bytes ++ more)) (header_at-append bytes more h e)
    ∙ by_whole h (bytes ++ more) raw (rest ++ more) (whole_append h bytes more raw rest (whole_by h bytes raw rest f))

-- a whole frame at the front stays there
pub front_of-append_whole : (bytes more : List ℕ) (raw : Raw) (rest : List ℕ) → front_of bytes ≡ Whole raw rest → front_of (bytes ++ more) ≡ Whole raw (rest ++ more)
unfolding front_of
front_of-append_whole bytes more raw rest f = whole_append_by (header_at bytes) bytes more raw rest refl f

chosen_bad : (bad short : Bool) (size n : ℕ) (raw : Raw) (rest : List ℕ) → cond bad (Bad size) (cond short More (Whole raw rest)) ≡ Bad n → (bad ≡ true) × (size ≡ n)
chosen_bad true short size n raw rest h = (refl, cc)
chosen_bad false true size n raw rest h = cc
chosen_bad false false size n raw rest h = cc

bad_append_by : (o : Option Header) (bytes more : List ℕ) (n : ℕ) → header_at bytes ≡ o → front_by o bytes ≡ Bad n → front_by (header_at (bytes ++ more)) (bytes ++ more) ≡ Bad n
bad_append_by None bytes more n e f = cc
bad_append_by (Some h) bytes more n e f =
    let found = chosen_bad (nat_lt h.size 16 || nat_lt 16384 h.size) (nat_lt (length bytes) h.size) h.size n (frame_behind h bytes) (drop h.size bytes) f in
    ap (λ (o : Option Header). front_by o (bytes ++ more)) (header_at-append bytes more h e) ∙ rw found.0 (ap Bad found.1)

-- a bad length at the front stays there
pub front_of-append_bad : (bytes more : List ℕ) (n : ℕ) → front_of bytes ≡ Bad n → front_of (bytes ++ more) ≡ Bad n
unfolding front_of
front_of-append_bad bytes more n f = bad_append_by (header_at bytes) bytes more n refl f

-- a frame is shorter than the bytes at whose front it stands
shorter_by : (o : Option Header) (bytes : List ℕ) (raw : Raw) (rest : List ℕ) → front_by o bytes ≡ Whole raw rest → length rest + 16 ≤ length bytes
shorter_by None bytes raw rest f = cc
shorter_by (Some h) bytes raw rest f =
    let w = whole_by h bytes raw rest f in
    let low : 16 ≤ h.size = neither (nat_lt 16384 h.size) h.size w.good in
    let here : h.size ≤ length bytes = w.there in
    rw (← w.rest) (simp length-drop (omega arith))
  where
    neither : (b : Bool) (n : ℕ) → (nat_lt n 16 || b) ≡ false → 16 ≤ n
    neither b n e = grind (arith, nat_tests, either (nat_lt n 16) b e)
      where
        either : (a b : Bool) → (a || b) ≡ false → a ≡ false
        either true b e = cc
        either false b e = refl

pub front_of-shorter : (bytes : List ℕ) (raw : Raw) (rest : List ℕ) → front_of bytes ≡ Whole raw rest → length rest + 16 ≤ length bytes
unfolding front_of
front_of-shorter bytes raw rest f = shorter_by (header_at bytes) bytes raw rest f

-- the header of a frame that was written
header_back : (raw : Raw) (rest : List ℕ) → IsFrame raw → header_at (frame_bytes raw ++ rest) ≡ Some (record { kind = raw.kind; size = 16 + length raw.payload; peer = raw.peer; pid = raw.pid })
unfolding frame_bytes header_of
header_back raw rest fits =
    let few : length raw.payload ≤ 16368 = fits.payload in
    let kind : little_number 4 (frame_bytes raw ++ rest) ≡ raw.kind = little_number-reads_back 4 raw.kind (drop 4 (frame_bytes raw ++ rest)) fits.kind in
    let size : little_number 2 (drop 4 (frame_bytes raw ++ rest)) ≡ 16 + length raw.payload = little_number-reads_back 2 (16 + length raw.payload) (drop 6 (frame_bytes raw ++ rest)) (omega arith) in
    let peer : little_number 4 (drop 8 (frame_bytes raw ++ rest)) ≡ raw.peer = little_number-reads_back 4 raw.peer (drop 12 (frame_bytes raw ++ rest)) fits.peer in
    let pid : little_number 4 (drop 12 (frame_bytes raw ++ rest)) ≡ raw.pid = little_number-reads_back 4 raw.pid (drop 16 (frame_bytes raw ++ rest)) fits.pid in
    let long : nat_lt (length (frame_bytes raw ++ rest)) 16 ≡ false = grind (arith, nat_tests) in
    rw (long, kind, size, peer, pid) refl

-- a frame that was written stands at the front
pub front_of-written : (raw : Raw) (rest : List ℕ) → IsFrame raw → front_of (frame_bytes raw ++ rest) ≡ Whole raw rest
unfolding front_of frame_bytes
front_of-written raw rest fits =
    let few : length raw.payload ≤ 16368 = fits.payload in
    let low : nat_lt (16 + length raw.payload) 16 ≡ false = grind (arith, nat_tests) in
    let high : nat_lt 16384 (16 + length raw.payload) ≡ false = grind (arith, nat_tests) in
    let size : length (frame_bytes raw) ≡ 16 + length raw.payload = omega arith in
    let all = length-append (frame_bytes raw) rest in
    let payload : drop 16 (take (16 + length raw.payload) (frame_bytes raw ++ rest)) ≡ raw.payload = rw (← size) (ap (λ (x : List ℕ). drop 16 x) (take-append_seam (frame_bytes raw) rest)) in
    let after : drop (16 + length raw.payload) (frame_bytes raw ++ rest) ≡ rest = rw (← size) (drop-append_seam (frame_bytes raw) rest) in
    ap (λ (o : Option Header). front_by o (frame_bytes raw ++ rest)) (header_back raw rest fits)
    ∙ by_whole (record { kind = raw.kind; size = 16 + length raw.payload; peer = raw.peer; pid = raw.pid }) (frame_bytes raw ++ rest) raw rest (record {
      good = rw (low, high) refl;
      there = omega arith;
      raw = ap (λ (x : List ℕ). record { kind = raw.kind; peer = raw.peer; pid = raw.pid; payload = x }) payload;
      rest = after;
    })

-- a frame has a header of 16 bytes and its payload
pub frame_size : (raw : Raw) → length (frame_bytes raw) ≡ 16 + length raw.payload
unfolding frame_bytes
frame_size raw = omega arith

-- nothing stands at the front of no bytes
pub front_of-nil : front_of [] ≡ More
unfolding front_of
front_of-nil = refl

-- what stands at the front, by the header
pub none_there : (bytes : List ℕ) → header_at bytes ≡ None → front_of bytes ≡ More
unfolding front_of
none_there bytes e = ap (λ (o : Option Header). front_by o bytes) e

by_header : (h : Header) (bytes : List ℕ) → header_at bytes ≡ Some h → front_of bytes ≡ front_by (Some h) bytes
unfolding front_of
by_header h bytes e = ap (λ (o : Option Header). front_by o bytes) e

pub too_low : (h : Header) (bytes : List ℕ) → header_at bytes ≡ Some h → h.size < 16 → front_of bytes ≡ Bad h.size
too_low h bytes e l =
    let low : nat_lt h.size 16 ≡ true = grind (arith, nat_tests) in
    by_header h bytes e ∙ rw low refl

pub too_high : (h : Header) (bytes : List ℕ) → header_at bytes ≡ Some h → 16 ≤ h.size → 16384 < h.size → front_of bytes ≡ Bad h.size
too_high h bytes e l g =
    let low : nat_lt h.size 16 ≡ false = grind (arith, nat_tests) in
    let high : nat_lt 16384 h.size ≡ true = grind (arith, nat_tests) in
    by_header h bytes e ∙ rw (low, high) refl

pub too_few : (h : Header) (bytes : List ℕ) → header_at bytes ≡ Some h → 16 ≤ h.size → h.size ≤ 16384 → length bytes < h.size → front_of bytes ≡ More
too_few h bytes e l g f =
    let low : nat_lt h.size 16 ≡ false = grind (arith, nat_tests) in
    let high : nat_lt 16384 h.size ≡ false = grind (arith, nat_tests) in
    let few : nat_lt (length bytes) h.size ≡ true = grind (arith, nat_tests) in
    by_header h bytes e ∙ rw (low, high, few) refl

pub all_there : (h : Header) (bytes : List ℕ) → header_at bytes ≡ Some h → 16 ≤ h.size → h.size ≤ 16384 → h.size ≤ length bytes →
    front_of bytes ≡ Whole (frame_behind h bytes) (drop h.size bytes)
all_there h bytes e l g f =
    let low : nat_lt h.size 16 ≡ false = grind (arith, nat_tests) in
    let high : nat_lt 16384 h.size ≡ false = grind (arith, nat_tests) in
    let few : nat_lt (length bytes) h.size ≡ false = grind (arith, nat_tests) in
    by_header h bytes e ∙ rw (low, high, few) refl

-- the payload as it is cut out
pub payload_cut : (h : Header) (bytes payload : List ℕ) → 16 ≤ h.size → payload ≡ take (h.size - 16) (drop 16 bytes) →
    record { kind = h.kind; peer = h.peer; pid = h.pid; payload = payload } ≡ frame_behind h bytes
payload_cut h bytes payload low e =
    let all : 16 + (h.size - 16) ≡ h.size = omega arith in
    ap (λ (x : List ℕ). record { kind = h.kind; peer = h.peer; pid = h.pid; payload = x })
    (e ∙ sym (drop-take 16 (h.size - 16) bytes) ∙ ap (λ (n : ℕ). drop 16 (take n bytes)) all)

-- a header that is known is still known behind a push that may have been refused
pub header_at-fed : {A B : Type 0} (pushed : Result A B) (old more new : List ℕ) (h : Header) → OnOk pushed (new ≡ old ++ more) → OnErr pushed (new ≡ old) →
    header_at old ≡ Some h → header_at new ≡ Some h
header_at-fed (Ok x) old more new h ok err e = ap header_at ok ∙ header_at-append old more h e
header_at-fed (Err x) old more new h ok err e = ap header_at err ∙ e

-- a header and a payload, put one behind the other, are a frame
pub frame_put : (raw : Raw) (old header mid new : List ℕ) → header ≡ frame_header (record { kind = raw.kind; size = 16 + length raw.payload; peer = raw.peer; pid = raw.pid }) →
    mid ≡ old ++ header → new ≡ mid ++ raw.payload → new ≡ old ++ frame_bytes raw
unfolding frame_bytes
frame_put raw old header mid new h m n =
    n ∙ ap (λ (x : List ℕ). x ++ raw.payload) m ∙ append_assoc old header raw.payload ∙ ap (λ (x : List ℕ). old ++ (x ++ raw.payload)) h
