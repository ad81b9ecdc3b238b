-- A payload and its frame: each is the other's only one.
use Rattle.std.proofs.Common.{◌≡◌, ◌∙◌, ℕ, ◌≤◌, Bool, true, false, List, [], ◌∷◌, ◌++◌, length, ◌⊎◌, inl, inr, Option, Some, None, Result, Ok, Err, refl, ap, sym, arith, append-nil}
use Rattle.std.specs.Prelude.{IfOk, nat_lt, nat_eq, cond}
use Rattle.std.specs.Str.{is_utf8}
use Rattle.std.proofs.lemmas.Bool.Decides.{nat_tests}
use Rattle.std.proofs.lemmas.Option.{none-some, option_and_then_some}
use Rattle.byteorder.specs.Endian.{big_bytes}
use Rattle.wire_buf.specs.Field.{number_at}
use Rattle.net_base.specs.declared.addr.Addr.{Addr}
use Rattle.net_base.specs.declared.prefix.Prefix.{Prefix}
use Rattle.bgp_wire.specs.Message.{AreBytes}
use Rattle.core_msgs.specs.declared.frame.Agreed.{Agreed}
use Rattle.core_msgs.specs.declared.frame.Frame.{Frame}
use Rattle.core_msgs.specs.declared.frame.Frame.TheVariants as frames
use Rattle.frame_codec.specs.declared.kind.Kind.{Kind}
use Rattle.frame_codec.specs.declared.kind.Kind.TheVariants.{Begin, Piece, Commit, Ack, Up, Down, Routes, Credit, Refresh, Close, Track, Untrack, Nexthop, FibSet, FibDel, Couple, CtlWords, CtlText, CtlEnd}
use Rattle.frame_codec.specs.Fields.{both, mapped, whole, truth_byte, truth_at, family_byte, family_at, addr_bytes, addr_at}
use Rattle.frame_codec.specs.Grammar.{Fits, IsPayloadOf, IsNumber, AreParts, agreed_bytes, agreed_at, placed_bytes, placed_at, some_at, rest_if, is_piece, field_of, frame_of, kind_of, kind_numbered, number_of, payload_of, session_of}
use Rattle.frame_codec.proofs.Fields.{IsField, number_field, both_field, if_some}
use Rattle.frame_codec.proofs.Places.{truth_field, family_field, addr_field}
use Rattle.frame_codec.proofs.Parts.{placed_field, some_field, agreed_field}
use Rattle.frame_codec.proofs.Routes.{routes_there, routes_only}

-- the fields of the kinds that have several
up_field : IsField (λ (x : Addr × (ℕ × (ℕ × Agreed))). addr_bytes x.0 ++ (big_bytes 4 x.1.0 ++ (big_bytes 4 x.1.1.0 ++ agreed_bytes x.1.1.1))) (both addr_at (both (number_at 4) (both (number_at 4) agreed_at))) (λ (x : Addr × (ℕ × (ℕ × Agreed))). Unit {0} × (IsNumber 4 x.1.0 × (IsNumber 4 x.1.1.0 × Unit {0})))
up_field =
    both_field addr_bytes addr_at (λ a. Unit {0}) (λ (x : ℕ × (ℕ × Agreed)). big_bytes 4 x.0 ++ (big_bytes 4 x.1.0 ++ agreed_bytes x.1.1)) (both (number_at 4) (both (number_at 4) agreed_at)) (λ (x : ℕ × (ℕ × Agreed)). IsNumber 4 x.0 × (IsNumber 4 x.1.0 × Unit {0})) addr_field
    (both_field (big_bytes 4) (number_at 4) (IsNumber 4) (λ (x : ℕ × Agreed). big_bytes 4 x.0 ++ agreed_bytes x.1) (both (number_at 4) agreed_at) (λ (x : ℕ × Agreed). IsNumber 4 x.0 × Unit {0}) (number_field 4)
    (both_field (big_bytes 4) (number_at 4) (IsNumber 4) agreed_bytes agreed_at (λ a. Unit {0}) (number_field 4) agreed_field))

close_field : IsField (λ (x : ℕ × (ℕ × (ℕ × ℕ))). big_bytes 1 x.0 ++ (big_bytes 1 x.1.0 ++ (big_bytes 8 x.1.1.0 ++ big_bytes 4 x.1.1.1))) (both (number_at 1) (both (number_at 1) (both (number_at 8) (number_at 4)))) (λ (x : ℕ × (ℕ × (ℕ × ℕ))). IsNumber 1 x.0 × (IsNumber 1 x.1.0 × (IsNumber 8 x.1.1.0 × IsNumber 4 x.1.1.1)))
close_field =
    both_field (big_bytes 1) (number_at 1) (IsNumber 1) (λ (x : ℕ × (ℕ × ℕ)). big_bytes 1 x.0 ++ (big_bytes 8 x.1.0 ++ big_bytes 4 x.1.1)) (both (number_at 1) (both (number_at 8) (number_at 4))) (λ (x : ℕ × (ℕ × ℕ)). IsNumber 1 x.0 × (IsNumber 8 x.1.0 × IsNumber 4 x.1.1)) (number_field 1)
    (both_field (big_bytes 1) (number_at 1) (IsNumber 1) (λ (x : ℕ × ℕ). big_bytes 8 x.0 ++ big_bytes 4 x.1) (both (number_at 8) (number_at 4)) (λ (x : ℕ × ℕ). IsNumber 8 x.0 × IsNumber 4 x.1) (number_field 1)
    (both_field (big_bytes 8) (number_at 8) (IsNumber 8) (big_bytes 4) (number_at 4) (IsNumber 4) (number_field 8) (number_field 4)))

two_field : IsField (λ (x : ℕ × ℕ). big_bytes 4 x.0 ++ big_bytes 4 x.1) (both (number_at 4) (number_at 4)) (λ (x : ℕ × ℕ). IsNumber 4 x.0 × IsNumber 4 x.1)
two_field = both_field (big_bytes 4) (number_at 4) (IsNumber 4) (big_bytes 4) (number_at 4) (IsNumber 4) (number_field 4) (number_field 4)

hop_field : IsField (λ (x : Addr × Bool). addr_bytes x.0 ++ truth_byte x.1) (both addr_at truth_at) (λ (x : Addr × Bool). Unit {0} × Unit {0})
hop_field = both_field addr_bytes addr_at (λ a. Unit {0}) truth_byte truth_at (λ b. Unit {0}) addr_field truth_field

row_field : IsField (λ (x : ℕ × (Prefix × Addr)). big_bytes 4 x.0 ++ (placed_bytes x.1.0 ++ addr_bytes x.1.1)) (both (number_at 4) (both placed_at addr_at)) (λ (x : ℕ × (Prefix × Addr)). IsNumber 4 x.0 × (Unit {0} × Unit {0}))
row_field =
    both_field (big_bytes 4) (number_at 4) (IsNumber 4) (λ (x : Prefix × Addr). placed_bytes x.0 ++ addr_bytes x.1) (both placed_at addr_at) (λ (x : Prefix × Addr). Unit {0} × Unit {0}) (number_field 4)
    (both_field placed_bytes placed_at (λ p. Unit {0}) addr_bytes addr_at (λ a. Unit {0}) placed_field addr_field)

gone_field : IsField (λ (x : ℕ × Prefix). big_bytes 4 x.0 ++ placed_bytes x.1) (both (number_at 4) placed_at) (λ (x : ℕ × Prefix). IsNumber 4 x.0 × Unit {0})
gone_field = both_field (big_bytes 4) (number_at 4) (IsNumber 4) placed_bytes placed_at (λ p. Unit {0}) (number_field 4) placed_field

couple_field : IsField (λ (x : ℕ × Bool). big_bytes 4 x.0 ++ truth_byte x.1) (both (number_at 4) truth_at) (λ (x : ℕ × Bool). IsNumber 4 x.0 × Unit {0})
couple_field = both_field (big_bytes 4) (number_at 4) (IsNumber 4) truth_byte truth_at (λ b. Unit {0}) (number_field 4) truth_field

-- a field that is all of a payload
mapped_there : {X : Type 0} (put : X → List ℕ) (get : List ℕ → Option (X × List ℕ)) (IsIn : X → Type 0) → IsField put get IsIn → (made : X → Frame) (x : X) → IsIn x → whole (mapped made get) (put x) ≡ Some (made x)
mapped_there {X = X} put get IsIn field made x h =
    let read : get (put x) ≡ Some (x, []) = ap get (sym (append-nil (put x))) ∙ field.there x [] h in
    rw read refl

rest_there : (test : List ℕ → Bool) (made : List ℕ → Frame) (bytes : List ℕ) → test bytes ≡ true → whole (mapped made (rest_if test)) bytes ≡ Some (made bytes)
rest_there test made bytes h = rw h refl

-- what is read of a kind, at the front of some bytes
mapped_only : {X : Type 0} (put : X → List ℕ) (get : List ℕ → Option (X × List ℕ)) (IsIn : X → Type 0) → IsField put get IsIn → (made : X → Frame) (kind : Kind) →
    ((x : X) → payload_of (made x) ≡ put x) → ((x : X) → IsIn x → AreParts (made x)) → ((x : X) → kind_of (made x) ≡ kind) →
    (bytes : List ℕ) (x : Frame × List ℕ) → AreBytes bytes → mapped made get bytes ≡ Some x → (bytes ≡ payload_of x.0 ++ x.1) × (AreParts x.0 × (kind_of x.0 ≡ kind))
mapped_only {X = X} put get IsIn field made kind payload parts kinds bytes x are e =
    option_and_then_some _ (get bytes) x e (λ y hy h1.
    let p : (made y.0, y.1) ≡ x = cc in
    let is = field.only bytes y are hy in
    rw (← p) (is.0 ∙ ap (λ (z : List ℕ). z ++ y.1) (sym (payload y.0)), (parts y.0 is.1, kinds y.0)))

rest_only : (test : List ℕ → Bool) (made : List ℕ → Frame) (kind : Kind) → ((x : List ℕ) → payload_of (made x) ≡ x) → ((x : List ℕ) → test x ≡ true → AreParts (made x)) → ((x : List ℕ) → kind_of (made x) ≡ kind) →
    (bytes : List ℕ) (x : Frame × List ℕ) → mapped made (rest_if test) bytes ≡ Some x → (bytes ≡ payload_of x.0 ++ x.1) × (AreParts x.0 × (kind_of x.0 ≡ kind))
rest_only test made kind payload parts kinds bytes x e =
    option_and_then_some _ (rest_if test bytes) x e (λ y hy h1.
    let p : (made y.0, y.1) ≡ x = cc in
    let kept = if_some (test bytes) (bytes, []) y hy in
    let front : y.0 ≡ bytes = ap (λ (z : List ℕ × List ℕ). z.0) (sym kept.1) in
    let rest : y.1 ≡ [] = ap (λ (z : List ℕ × List ℕ). z.1) (sym kept.1) in
    rw (← p) (
      sym (payload bytes) ∙ ap (λ (z : List ℕ). payload_of (made z)) (sym front) ∙ sym (append-nil (payload_of (made y.0))) ∙ ap (λ (z : List ℕ). payload_of (made y.0) ++ z) (sym rest),
      (parts y.0 (ap test front ∙ kept.0), kinds y.0),
    ))

part_only : (kind : Kind) (session : ℕ) (bytes : List ℕ) (x : Frame × List ℕ) → AreBytes bytes → field_of kind session bytes ≡ Some x → (bytes ≡ payload_of x.0 ++ x.1) × (AreParts x.0 × (kind_of x.0 ≡ kind))
part_only Begin session bytes x are e = mapped_only _ (both (number_at 4) (number_at 4)) _ two_field (λ (x : ℕ × ℕ). frames.Begin x.0 x.1) Begin (λ x. refl) (λ x h. h) (λ x. refl) bytes x are e
part_only Piece session bytes x are e = rest_only is_piece frames.Piece Piece (λ x. refl) (λ x h. h) (λ x. refl) bytes x e
part_only Commit session bytes x are e = mapped_only (big_bytes 4) (number_at 4) (IsNumber 4) (number_field 4) frames.Commit Commit (λ x. refl) (λ x h. h) (λ x. refl) bytes x are e
part_only Ack session bytes x are e = mapped_only (big_bytes 4) (number_at 4) (IsNumber 4) (number_field 4) frames.Ack Ack (λ x. refl) (λ x h. h) (λ x. refl) bytes x are e
part_only Up session bytes x are e =
    mapped_only _ (both addr_at (both (number_at 4) (both (number_at 4) agreed_at))) _ up_field (λ (x : Addr × (ℕ × (ℕ × Agreed))). frames.Up session x.0 x.1.0 x.1.1.0 x.1.1.1) Up (λ x. refl) (λ x h. (h.1.0, h.1.1.0)) (λ x. refl) bytes x are e
part_only Down session bytes x are e = let p : (frames.Down session, bytes) ≡ x = cc in rw (← p) (refl, (tt, refl))
part_only Routes session bytes x are e = routes_only session bytes x are e
part_only Credit session bytes x are e = mapped_only (big_bytes 4) some_at _ some_field (frames.Credit session) Credit (λ x. refl) (λ x h. h) (λ x. refl) bytes x are e
part_only Refresh session bytes x are e = mapped_only family_byte family_at _ family_field (frames.Refresh session) Refresh (λ x. refl) (λ x h. tt) (λ x. refl) bytes x are e
part_only Close session bytes x are e =
    mapped_only _ (both (number_at 1) (both (number_at 1) (both (number_at 8) (number_at 4)))) _ close_field (λ (x : ℕ × (ℕ × (ℕ × ℕ))). frames.Close session x.0 x.1.0 x.1.1.0 x.1.1.1) Close (λ x. refl) (λ x h. (h.0, h.1.0, h.1.1.0, h.1.1.1)) (λ x. refl) bytes x are e
part_only Track session bytes x are e = mapped_only addr_bytes addr_at _ addr_field frames.Track Track (λ x. refl) (λ x h. tt) (λ x. refl) bytes x are e
part_only Untrack session bytes x are e = mapped_only addr_bytes addr_at _ addr_field frames.Untrack Untrack (λ x. refl) (λ x h. tt) (λ x. refl) bytes x are e
part_only Nexthop session bytes x are e = mapped_only _ (both addr_at truth_at) _ hop_field (λ (x : Addr × Bool). frames.Nexthop x.0 x.1) Nexthop (λ x. refl) (λ x h. tt) (λ x. refl) bytes x are e
part_only FibSet session bytes x are e = mapped_only _ (both (number_at 4) (both placed_at addr_at)) _ row_field (λ (x : ℕ × (Prefix × Addr)). frames.FibSet x.0 x.1.0 x.1.1) FibSet (λ x. refl) (λ x h. h.0) (λ x. refl) bytes x are e
part_only FibDel session bytes x are e = mapped_only _ (both (number_at 4) placed_at) _ gone_field (λ (x : ℕ × Prefix). frames.FibDel x.0 x.1) FibDel (λ x. refl) (λ x h. h.0) (λ x. refl) bytes x are e
part_only Couple session bytes x are e = mapped_only _ (both (number_at 4) truth_at) _ couple_field (λ (x : ℕ × Bool). frames.Couple x.0 x.1) Couple (λ x. refl) (λ x h. h.0) (λ x. refl) bytes x are e
part_only CtlWords session bytes x are e = rest_only is_utf8 frames.CtlWords CtlWords (λ x. refl) (λ x h. h) (λ x. refl) bytes x e
part_only CtlText session bytes x are e = rest_only is_utf8 frames.CtlText CtlText (λ x. refl) (λ x h. h) (λ x. refl) bytes x e
part_only CtlEnd session bytes x are e = mapped_only (big_bytes 1) (number_at 1) (IsNumber 1) (number_field 1) frames.CtlEnd CtlEnd (λ x. refl) (λ x h. h) (λ x. refl) bytes x are e

part_there : (f : Frame) → AreParts f → whole (field_of (kind_of f) (session_of f)) (payload_of f) ≡ Some f
part_there (frames.Begin generation size) h = mapped_there _ (both (number_at 4) (number_at 4)) _ two_field (λ (x : ℕ × ℕ). frames.Begin x.0 x.1) (generation, size) h
part_there (frames.Piece bytes) h = rest_there is_piece frames.Piece bytes h
part_there (frames.Commit generation) h = mapped_there (big_bytes 4) (number_at 4) (IsNumber 4) (number_field 4) frames.Commit generation h
part_there (frames.Ack generation) h = mapped_there (big_bytes 4) (number_at 4) (IsNumber 4) (number_field 4) frames.Ack generation h
part_there (frames.Up session peer asn id agreed) h =
    mapped_there _ (both addr_at (both (number_at 4) (both (number_at 4) agreed_at))) _ up_field (λ (x : Addr × (ℕ × (ℕ × Agreed))). frames.Up session x.0 x.1.0 x.1.1.0 x.1.1.1) (peer, (asn, (id, agreed))) (tt, (h.0, (h.1, tt)))
part_there (frames.Down session) h = refl
part_there (frames.Routes session family withdrawn announced) h = rw (routes_there session family withdrawn announced h.0 h.1) refl
part_there (frames.Credit session messages) h = mapped_there (big_bytes 4) some_at _ some_field (frames.Credit session) messages h
part_there (frames.Refresh session family) h = mapped_there family_byte family_at _ family_field (frames.Refresh session) family tt
part_there (frames.Close session code sub held most) h =
    mapped_there _ (both (number_at 1) (both (number_at 1) (both (number_at 8) (number_at 4)))) _ close_field (λ (x : ℕ × (ℕ × (ℕ × ℕ))). frames.Close session x.0 x.1.0 x.1.1.0 x.1.1.1) (code, (sub, (held, most))) (h.0, (h.1, (h.2, h.3)))
part_there (frames.Track hop) h = mapped_there addr_bytes addr_at _ addr_field frames.Track hop tt
part_there (frames.Untrack hop) h = mapped_there addr_bytes addr_at _ addr_field frames.Untrack hop tt
part_there (frames.Nexthop hop valid) h = mapped_there _ (both addr_at truth_at) _ hop_field (λ (x : Addr × Bool). frames.Nexthop x.0 x.1) (hop, valid) (tt, tt)
part_there (frames.FibSet table prefix hop) h = mapped_there _ (both (number_at 4) (both placed_at addr_at)) _ row_field (λ (x : ℕ × (Prefix × Addr)). frames.FibSet x.0 x.1.0 x.1.1) (table, (prefix, hop)) (h, (tt, tt))
part_there (frames.FibDel table prefix) h = mapped_there _ (both (number_at 4) placed_at) _ gone_field (λ (x : ℕ × Prefix). frames.FibDel x.0 x.1) (table, prefix) (h, tt)
part_there (frames.Couple table on) h = mapped_there _ (both (number_at 4) truth_at) _ couple_field (λ (x : ℕ × Bool). frames.Couple x.0 x.1) (table, on) (h, tt)
part_there (frames.CtlWords text) h = rest_there is_utf8 frames.CtlWords text h
part_there (frames.CtlText text) h = rest_there is_utf8 frames.CtlText text h
part_there (frames.CtlEnd status) h = mapped_there (big_bytes 1) (number_at 1) (IsNumber 1) (number_field 1) frames.CtlEnd status h

-- the numbers of the kinds
numbered_back : (k : Kind) → kind_numbered (number_of k) ≡ Some k
numbered_back Begin = refl
numbered_back Piece = refl
numbered_back Commit = refl
numbered_back Ack = refl
numbered_back Up = refl
numbered_back Down = refl
numbered_back Routes = refl
numbered_back Credit = refl
numbered_back Refresh = refl
numbered_back Close = refl
numbered_back Track = refl
numbered_back Untrack = refl
numbered_back Nexthop = refl
numbered_back FibSet = refl
numbered_back FibDel = refl
numbered_back Couple = refl
numbered_back CtlWords = refl
numbered_back CtlText = refl
numbered_back CtlEnd = refl

next_row : (test : Bool) (k found : Kind) (others : Option Kind) → cond test (Some k) others ≡ Some found → ((test ≡ true) × (k ≡ found)) ⊎ (others ≡ Some found)
next_row true k found others h = inl (refl, cc)
next_row false k found others h = inr h

numbered_by : (n m : ℕ) (k found : Kind) → number_of k ≡ m → (nat_eq n m ≡ true) × (k ≡ found) → number_of found ≡ n
numbered_by n m k found e h =
    let same : n ≡ m = grind (arith, nat_tests, h.0) in
    ap number_of (sym h.1) ∙ e ∙ sym same

numbered_only : (n : ℕ) (found : Kind) → kind_numbered n ≡ Some found → number_of found ≡ n
numbered_only n found h0 =
    elim (next_row (nat_eq n 1) Begin found _ h0) [
      | inl h ↦ numbered_by n 1 Begin found refl h
      | inr h1 ↦
          elim (next_row (nat_eq n 2) Piece found _ h1) [
            | inl h ↦ numbered_by n 2 Piece found refl h
            | inr h2 ↦
                elim (next_row (nat_eq n 3) Commit found _ h2) [
                  | inl h ↦ numbered_by n 3 Commit found refl h
                  | inr h3 ↦
                      elim (next_row (nat_eq n 4) Ack found _ h3) [
                        | inl h ↦ numbered_by n 4 Ack found refl h
                        | inr h4 ↦
                            elim (next_row (nat_eq n 5) Up found _ h4) [
                              | inl h ↦ numbered_by n 5 Up found refl h
                              | inr h5 ↦
                                  elim (next_row (nat_eq n 6) Down found _ h5) [
                                    | inl h ↦ numbered_by n 6 Down found refl h
                                    | inr h6 ↦
                                        elim (next_row (nat_eq n 7) Routes found _ h6) [
                                          | inl h ↦ numbered_by n 7 Routes found refl h
                                          | inr h7 ↦
                                              elim (next_row (nat_eq n 8) Credit found _ h7) [
                                                | inl h ↦ numbered_by n 8 Credit found refl h
                                                | inr h8 ↦
                                                    elim (next_row (nat_eq n 9) Refresh found _ h8) [
                                                      | inl h ↦ numbered_by n 9 Refresh found refl h
                                                      | inr h9 ↦
                                                          elim (next_row (nat_eq n 10) Close found _ h9) [
                                                            | inl h ↦ numbered_by n 10 Close found refl h
                                                            | inr h10 ↦
                                                                elim (next_row (nat_eq n 11) Track found _ h10) [
                                                                  | inl h ↦ numbered_by n 11 Track found refl h
                                                                  | inr h11 ↦
                                                                      elim (next_row (nat_eq n 12) Untrack found _ h11) [
                                                                        | inl h ↦ numbered_by n 12 Untrack found refl h
                                                                        | inr h12 ↦
                                                                            elim (next_row (nat_eq n 13) Nexthop found _ h12) [
                                                                              | inl h ↦ numbered_by n 13 Nexthop found refl h
                                                                              | inr h13 ↦
                                                                                  elim (next_row (nat_eq n 14) FibSet found _ h13) [
                                                                                    | inl h ↦ numbered_by n 14 FibSet found refl h
                                                                                    | inr h14 ↦
                                                                                        elim (next_row (nat_eq n 15) FibDel found _ h14) [
                                                                                          | inl h ↦ numbered_by n 15 FibDel found refl h
                                                                                          | inr h15 ↦
                                                                                              elim (next_row (nat_eq n 16) Couple found _ h15) [
                                                                                                | inl h ↦ numbered_by n 16 Couple found refl h
                                                                                                | inr h16 ↦
                                                                                                    elim (next_row (nat_eq n 17) CtlWords found _ h16) [
                                                                                                      | inl h ↦ numbered_by n 17 CtlWords found refl h
                                                                                                      | inr h17 ↦
                                                                                                          elim (next_row (nat_eq n 18) CtlText found _ h17) [
                                                                                                            | inl h ↦ numbered_by n 18 CtlText found refl h
                                                                                                            | inr h18 ↦
                                                                                                                elim (next_row (nat_eq n 19) CtlEnd found _ h18) [
                                                                                                                  | inl h ↦ numbered_by n 19 CtlEnd found refl h
                                                                                                                  | inr h19 ↦
                                                                                                                      absurd (none-some found h19)
                                                                                                                ]
                                                                                                          ]
                                                                                                    ]
                                                                                              ]
                                                                                        ]
                                                                                  ]
                                                                            ]
                                                                      ]
                                                                ]
                                                          ]
                                                    ]
                                              ]
                                        ]
                                  ]
                            ]
                      ]
                ]
          ]
    ]

-- a frame that fits is read from its payload
pub frame_there : (frame : Frame) → Fits frame → frame_of (number_of (kind_of frame)) (session_of frame) (payload_of frame) ≡ Some frame
unfolding frame_of
frame_there frame fits =
    let short = fits.short in
    let few : nat_lt 16368 (length (payload_of frame)) ≡ false = grind (arith, nat_tests) in
    rw (numbered_back (kind_of frame), few) (part_there frame fits.parts)

-- what is read is a frame that fits, and the payload is its
pub frame_only : (number session : ℕ) (payload : List ℕ) (frame : Frame) → AreBytes payload → frame_of number session payload ≡ Some frame → IsPayloadOf number payload frame
unfolding frame_of
frame_only number session payload frame are e =
    option_and_then_some _ (kind_numbered number) frame e (λ kind hk h1.
    let few = long (nat_lt 16368 (length payload)) (whole (field_of kind session) payload) frame h1 in
    option_and_then_some _ (field_of kind session payload) frame few.1 (λ x hx h2.
    let all = if_some (nat_eq (length x.1) 0) x.0 frame h2 in
    let part = part_only kind session payload x are hx in
    let rest : x.1 ≡ [] = no_bytes x.1 all.0 in
    let written : payload_of frame ≡ payload = ap payload_of (sym all.1) ∙ sym (part.0 ∙ ap (λ (y : List ℕ). payload_of x.0 ++ y) rest ∙ append-nil (payload_of x.0)) in
    let short : length payload ≤ 16368 = grind (arith, nat_tests, few.0) in
    record {
      fits = record { parts = parts_as x.0 frame all.1 part.1.0; short = omega (arith, ap length written) };
      number = ap (λ (f : Frame). number_of (kind_of f)) (sym all.1) ∙ ap number_of part.1.1 ∙ numbered_only number kind hk;
      written = written;
    }))
  where
    long : (b : Bool) (o : Option Frame) (f : Frame) → cond b None o ≡ Some f → (b ≡ false) × (o ≡ Some f)
    long true o f h = cc
    long false o f h = (refl, h)

    no_bytes : (bytes : List ℕ) → nat_eq (length bytes) 0 ≡ true → bytes ≡ []
    no_bytes [] h = refl
    no_bytes (b ∷ bs) h = absurd (grind (arith, nat_tests, h))

    parts_as : (a b : Frame) → a ≡ b → AreParts a → AreParts b
    parts_as a b e h = rw (← e) h

-- what is read fits
pub read_fits : {E : Type 0} (number session : ℕ) (payload : List ℕ) (result : Result Frame E) → AreBytes payload → IfOk result (λ frame. frame_of number session payload ≡ Some frame) → IfOk result Fits
read_fits number session payload (Ok frame) are e = (frame_only number session payload frame are e).fits
read_fits number session payload (Err fault) are e = e
