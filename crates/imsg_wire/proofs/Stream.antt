-- A string of bytes is its frames one behind the other, and a rest.
use Rattle.std.proofs.Common.{◌≡◌, ◌∙◌, ℕ, zero, suc, ◌≤◌, List, [], ◌∷◌, ◌++◌, length, Option, Some, None, Ok, Err, Result, refl, ap, sym, arith, append_assoc}
use Rattle.std.specs.Prelude.{flat_map, ◌↔◌, IsErrAnd}
use Rattle.std.specs.List.{All}
use Rattle.std.proofs.lemmas.List.Elements.{All-head, All-tail}
use Rattle.std.proofs.lemmas.Option.{none-some}
use Rattle.imsg_wire.specs.declared.raw.Raw.{Raw}
use Rattle.imsg_wire.specs.declared.raw.ImsgFault.{ImsgFault}
use Rattle.imsg_wire.specs.declared.raw.ImsgFault.TheVariants as faults
use Rattle.imsg_wire.specs.Frame.{frame_bytes, IsFrame, Front, More, Whole, Bad, front_of, Frames, behind, frames_by, frames_in, frames, Takes, given}
use Rattle.imsg_wire.proofs.Fronts.{front_of-append_whole, front_of-shorter, front_of-written, front_of-nil}

-- enough steps are all steps
same_by : (f g : List ℕ → Frames) (c : Front) (bytes : List ℕ) → ((raw : Raw) (rest : List ℕ) → c ≡ Whole raw rest → f rest ≡ g rest) → frames_by f c bytes ≡ frames_by g c bytes
same_by f g More bytes h = refl
same_by f g (Whole raw rest) bytes h = ap (behind (raw ∷ [])) (h raw rest refl)
same_by f g (Bad size) bytes h = refl

-- no bytes have no frames
nothing : (f : List ℕ → Frames) (bytes : List ℕ) → length bytes ≤ 0 → record { whole = []; rest = bytes; bad = None } ≡ frames_by f (front_of bytes) bytes
nothing f [] h = sym (ap (λ (c : Front). frames_by f c []) front_of-nil)
nothing f (x ∷ xs) h = absurd (omega arith)

enough : (n m : ℕ) (bytes : List ℕ) → length bytes ≤ n → length bytes ≤ m → frames_in n bytes ≡ frames_in m bytes
unfolding frames_in
enough zero zero bytes a b = refl
enough zero (suc m) bytes a b = nothing (frames_in m) bytes a
enough (suc n) zero bytes a b = sym (nothing (frames_in n) bytes b)
enough (suc n) (suc m) bytes a b =
    same_by (frames_in n) (frames_in m) (front_of bytes) bytes
    (λ raw rest e. let s = front_of-shorter bytes raw rest e in enough n m rest (omega arith) (omega arith))

-- the frames are the one at the front and those behind it
pub frames_step : (bytes : List ℕ) → frames bytes ≡ frames_by frames (front_of bytes) bytes
unfolding frames frames_in
frames_step bytes =
    enough (length bytes) (suc (length bytes)) bytes (omega arith) (omega arith)
    ∙ same_by (frames_in (length bytes)) frames (front_of bytes) bytes
    (λ raw rest e. let s = front_of-shorter bytes raw rest e in enough (length bytes) (length rest) rest (omega arith) (omega arith))

-- the frames, by what stands at the front
frames_as : (bytes : List ℕ) (c : Front) → c ≡ front_of bytes → frames bytes ≡ frames_by frames c bytes
frames_as bytes c e = frames_step bytes ∙ ap (λ (c : Front). frames_by frames c bytes) (sym e)

-- what was written is read as these frames, whatever follows
pub frames_written : (raws : List Raw) (rest : List ℕ) → All IsFrame raws → frames (flat_map frame_bytes raws ++ rest) ≡ behind raws (frames rest)
frames_written [] rest each = refl
frames_written (raw ∷ raws) rest each =
    ap frames (append_assoc (frame_bytes raw) (flat_map frame_bytes raws) rest)
    ∙ frames_as (frame_bytes raw ++ (flat_map frame_bytes raws ++ rest)) (Whole raw (flat_map frame_bytes raws ++ rest))
    (sym (front_of-written raw (flat_map frame_bytes raws ++ rest) (All-head IsFrame raw raws each)))
    ∙ ap (behind (raw ∷ [])) (frames_written raws rest (All-tail IsFrame raw raws each))

on_by : (c : Front) (bytes more : List ℕ) → c ≡ front_of bytes → (frames_by frames c bytes).bad ≡ None →
    ((raw : Raw) (rest : List ℕ) → c ≡ Whole raw rest → (frames rest).bad ≡ None → frames (rest ++ more) ≡ behind (frames rest).whole (frames ((frames rest).rest ++ more))) →
    frames (bytes ++ more) ≡ behind (frames_by frames c bytes).whole (frames ((frames_by frames c bytes).rest ++ more))
on_by More bytes more e b h = refl
on_by (Bad size) bytes more e b h = absurd (none-some size (sym b))
on_by (Whole raw rest) bytes more e b h =
    frames_as (bytes ++ more) (Whole raw (rest ++ more)) (sym (front_of-append_whole bytes more raw rest (sym e)))
    ∙ ap (behind (raw ∷ [])) (h raw rest refl b)

on_in : (n : ℕ) (bytes more : List ℕ) → length bytes ≤ n → (frames bytes).bad ≡ None →
    frames (bytes ++ more) ≡ behind (frames bytes).whole (frames ((frames bytes).rest ++ more))
on_in zero bytes more l b =
    rw (frames_step bytes) (on_by (front_of bytes) bytes more refl (rw (← frames_step bytes) b)
    (λ raw rest e d. let s = front_of-shorter bytes raw rest e in absurd (omega arith)))
on_in (suc n) bytes more l b =
    rw (frames_step bytes) (on_by (front_of bytes) bytes more refl (rw (← frames_step bytes) b)
    (λ raw rest e d. let s = front_of-shorter bytes raw rest e in on_in n rest more (omega arith) d))

-- bytes that come later go on where the first ended
pub frames_on : (bytes more : List ℕ) → (frames bytes).bad ≡ None →
    frames (bytes ++ more) ≡ behind (frames bytes).whole (frames ((frames bytes).rest ++ more))
frames_on bytes more b = on_in (length bytes) bytes more (omega arith) b

-- what a reader answers is what its bytes say
pub frames_taken : (old new : List ℕ) (result : Result (Option Raw) ImsgFault) → Takes old new result → frames old ≡ behind (given result) (frames new)
frames_taken old new (Ok (Some raw)) t = frames_as old (Whole raw new) (sym t)
frames_taken old new (Ok None) t = ap frames (sym t.1)
frames_taken old new (Err (faults.BadLength size)) t = ap frames (sym t.1)
frames_taken old new (Err faults.NoMemory) t = ap frames (sym t.1)

pub taken_none : (old new : List ℕ) (result : Result (Option Raw) ImsgFault) → Takes old new result → (result ≡ Ok None) ↔ (front_of old ≡ More)
taken_none old new (Ok (Some raw)) t = (λ e. cc, λ e. cc)
taken_none old new (Ok None) t = (λ e. t.0, λ e. refl)
taken_none old new (Err (faults.BadLength size)) t = (λ e. cc, λ e. cc)
taken_none old new (Err faults.NoMemory) t = (λ e. cc, λ e. absurd (let w : front_of old ≡ Whole t.0.0 t.0.1.0 = t.0.1.1 in cc))

pub taken_bad : (old new : List ℕ) (result : Result (Option Raw) ImsgFault) → Takes old new result → (size : ℕ) → (result ≡ Err (faults.BadLength size)) ↔ (front_of old ≡ Bad size)
taken_bad old new (Ok (Some raw)) t size = (λ e. cc, λ e. cc)
taken_bad old new (Ok None) t size = (λ e. cc, λ e. cc)
taken_bad old new (Err (faults.BadLength n)) t size = (λ e. cc, λ e. cc)
taken_bad old new (Err faults.NoMemory) t size = (λ e. cc, λ e. absurd (let w : front_of old ≡ Whole t.0.0 t.0.1.0 = t.0.1.1 in cc))

-- where memory is refused, a whole frame stays where it is
pub takes_nothing : (old new : List ℕ) (raw : Raw) (rest : List ℕ) (result : Result (Option Raw) ImsgFault) → front_of old ≡ Whole raw rest → new ≡ old →
    IsErrAnd result (λ fault. fault ≡ faults.NoMemory) → Takes old new result
takes_nothing old new raw rest (Ok x) f e h = absurd h
takes_nothing old new raw rest (Err (faults.BadLength size)) f e h = cc
takes_nothing old new raw rest (Err faults.NoMemory) f e h = ((raw, (rest, f)), e)
