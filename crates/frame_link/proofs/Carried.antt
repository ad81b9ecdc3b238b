-- The frames that a link carries, one more and one less.
use Rattle.std.proofs.Common.{rules, arith, ◌≡◌, ◌∙◌, ℕ, zero, suc, ◌+◌, ◌≤◌, Bool, true, false, List, [], ◌∷◌, ◌++◌, length, take, Option, Some, None, Result, Ok, Err, refl, ap, sym, subst, append-nil, length-append}
use Rattle.std.specs.Prelude.{flat_map, ◌==◌, ◌&&◌, ◌↔◌, ◌<◌, IsTrue, IfOk, IfSome}
use Rattle.std.specs.List.{All}
use Rattle.std.proofs.lemmas.Bool.Decides.{nat_tests}
use Rattle.std.proofs.lemmas.List.Elements.{All-head, All-tail, All-push}
use Rattle.core_msgs.specs.declared.frame.Frame.{Frame}
use Rattle.imsg_wire.specs.declared.link.Link.{Link}
use Rattle.imsg_wire.specs.declared.raw.Raw.{Raw}
use Rattle.imsg_wire.specs.Frame.{frame_bytes, IsFrame, More, Whole, Takes, front_of}
use Rattle.imsg_wire.specs.Holding.{Holds, with_frame}
use Rattle.imsg_wire.specs.Holding as holding
use Rattle.imsg_wire.specs.declared.raw.ImsgFault.{ImsgFault}
use Rattle.imsg_wire.specs.declared.raw.ImsgFault.TheVariants as faults
use Rattle.frame_codec.specs.Grammar.{Fits, raw_of}
use Rattle.frame_link.specs.Carrying.{LinkState, Carries, GivesFirst, CompletesFirst, TakesFront, ReadsGiven, IsPartial, moved, bytes_of, written_by}

-- one frame more is written last
written_more : (writer : ℕ) (fs : List Frame) (f : Frame) → written_by writer (fs ++ f ∷ []) ≡ written_by writer fs ++ raw_of f writer ∷ []
written_more writer [] f = refl
written_more writer (g ∷ gs) f = ap (λ (x : List Raw). raw_of g writer ∷ x) (written_more writer gs f)

pub carries_more : (old new : LinkState) (fs : List Frame) (f : Frame) → new.writer ≡ old.writer → Fits f → Carries old fs →
    Holds (bytes_of new) (written_by old.writer fs ++ raw_of f old.writer ∷ []) → Carries new (fs ++ f ∷ [])
carries_more old new fs f w fits c h = record {
  holds = rw (w, written_more old.writer fs f) h;
  each = All-push Fits fs f c.each fits;
}

-- the first frame that is held is that of the first that is carried
pub first_carried : (s : LinkState) (fs : List Frame) (raw : Raw) (raws : List Raw) → Carries s fs → written_by s.writer fs ≡ raw ∷ raws →
    (f : Frame) × ((others : List Frame) × ((fs ≡ f ∷ others) × ((raw_of f s.writer ≡ raw) × ((written_by s.writer others ≡ raws) × (Fits f × All Fits others)))))
first_carried s [] raw raws c e = absurd cc
first_carried s (f ∷ others) raw raws c e =
    (f, (others, (refl, (cc, (cc, (All-head Fits f others c.each, All-tail Fits f others c.each))))))

-- what a link holds behind a frame that is appended
abbrev pub Appending : Type 0
Appending = (old new : Link) (raws : List Raw) (raw : Raw) → Holds old raws → IsFrame raw → new ≡ with_frame old raw → Holds new (raws ++ raw ∷ [])

-- a frame that is written behind the bytes that are still to come is carried last
pub pushed : Appending → (old : LinkState) (coming : List ℕ) (fs : List Frame) (f : Frame) → coming ≡ old.coming ++ frame_bytes (raw_of f old.writer) →
    IsFrame (raw_of f old.writer) → Fits f → Carries old fs → Carries (record old { coming = coming }) (fs ++ f ∷ [])
pushed law old coming fs f e is fits c =
    carries_more old (record old { coming = coming }) fs f refl fits c
    (law (bytes_of old) (bytes_of (record old { coming = coming })) (written_by old.writer fs) (raw_of f old.writer) c.holds is
    (ap (λ (x : List ℕ). record { reader = old.reader; coming = x }) e))

-- a link as its writer's
abbrev pub of_writer : ℕ → Link → LinkState
of_writer writer link = record { writer = writer; reader = link.reader; coming = link.coming }

given_by : {A : Type 0} (old new : LinkState) (fs : List Frame) (f : Frame) (others : List Frame) (r : Result (Option Frame) A) → fs ≡ f ∷ others →
    Carries new others → Fits f → IfOk r (λ o. o ≡ Some f) → GivesFirst old new fs r
given_by old new fs f others (Ok (Some g)) e c fits is =
    let same : f ≡ g = cc in
    (others, (e ∙ ap (λ (x : Frame). x ∷ others) same, c, subst Fits same fits))
given_by old new fs f others (Ok None) e c fits is = absurd cc
given_by old new fs f others (Err fault) e c fits is = search rules

-- what is read of the first frame is that frame
pub gives_some : {A : Type 0} (writer : ℕ) (old new : Link) (fs : List Frame) (raw : Raw) (r : Result (Option Frame) A) →
    holding.GivesFirst old new (written_by writer fs) (Ok (Some raw)) → Carries (of_writer writer old) fs →
    ((f : Frame) (w : ℕ) → Fits f → raw_of f w ≡ raw → IfOk r (λ o. o ≡ Some f)) → GivesFirst (of_writer writer old) (of_writer writer new) fs r
gives_some writer old new fs raw r (raws, (e, h)) c read =
    by (first_carried (of_writer writer old) fs raw raws c e)
  where
    by : ((f : Frame) × ((others : List Frame) × ((fs ≡ f ∷ others) × ((raw_of f writer ≡ raw) × ((written_by writer others ≡ raws) × (Fits f × All Fits others)))))) →
        GivesFirst (of_writer writer old) (of_writer writer new) fs r
    by (f, (others, (is, (its, (left, (fits, each)))))) =
        given_by (of_writer writer old) (of_writer writer new) fs f others r is
        (record { holds = subst (λ (x : List Raw). Holds new x) (sym left) h; each = each }) fits (read f writer fits its)

-- what a link gives, as frames
pub gives_as : {A : Type 0} (writer : ℕ) (old new : Link) (fs : List Frame) (given : Result (Option Raw) ImsgFault) (r : Result (Option Frame) A) →
    Takes old.reader new.reader given → ReadsGiven given r → holding.GivesFirst old new (written_by writer fs) given → Carries (of_writer writer old) fs →
    GivesFirst (of_writer writer old) (of_writer writer new) fs r
gives_as writer old new fs (Ok (Some raw)) r takes reads first c = gives_some writer old new fs raw r first c reads
gives_as writer old new fs (Ok None) (Ok None) takes reads first c = (ap (λ (x : Link). of_writer writer x) first.0, takes.0)
gives_as writer old new fs (Ok None) (Ok (Some f)) takes reads first c = absurd cc
gives_as writer old new fs (Ok None) (Err fault) takes reads first c = search rules
gives_as writer old new fs (Err faults.NoMemory) (Err fault) takes reads first c = search rules
gives_as writer old new fs (Err faults.NoMemory) (Ok x) takes reads first c = absurd (let no : false ≡ true = reads in cc)
gives_as writer old new fs (Err (faults.BadLength size)) r takes reads first c = absurd first

pub front_as : {A : Type 0} (old new : List ℕ) (given : Result (Option Raw) ImsgFault) (r : Result (Option Frame) A) → Takes old new given → ReadsGiven given r → TakesFront old new r
front_as old new given (Ok None) takes reads = search rules
front_as old new given (Err fault) takes reads = search rules
front_as old new (Ok (Some raw)) (Ok (Some f)) takes reads = (raw, takes)
front_as old new (Ok None) (Ok (Some f)) takes reads = absurd cc
front_as old new (Err faults.NoMemory) (Ok (Some f)) takes reads = absurd (let no : false ≡ true = reads in cc)
front_as old new (Err (faults.BadLength size)) (Ok (Some f)) takes reads = absurd cc

pub shorter_as : {A : Type 0} (old new : List ℕ) (given : Result (Option Raw) ImsgFault) (r : Result (Option Frame) A) →
    IfOk given (λ g. IfSome g (λ _. length new < length old)) → ReadsGiven given r → IfOk r (λ g. IfSome g (λ _. length new < length old))
shorter_as old new given (Ok None) less reads = search rules
shorter_as old new given (Err fault) less reads = search rules
shorter_as old new (Ok (Some raw)) (Ok (Some f)) less reads = less
shorter_as old new (Ok None) (Ok (Some f)) less reads = absurd cc
shorter_as old new (Err faults.NoMemory) (Ok (Some f)) less reads = absurd (let no : false ≡ true = reads in cc)
shorter_as old new (Err (faults.BadLength size)) (Ok (Some f)) less reads = absurd cc

abbrev pub Sizes : Type 0
Sizes = (raw : Raw) → length (frame_bytes raw) ≡ 16 + length raw.payload

abbrev pub Fronts : Type 0
Fronts = (raw : Raw) (rest : List ℕ) → IsFrame raw → front_of (frame_bytes raw ++ rest) ≡ Whole raw rest

-- frames have bytes
pub some_bytes : Sizes → (reader coming : List ℕ) (raw : Raw) (raws : List Raw) → reader ++ coming ≡ flat_map frame_bytes (raw ∷ raws) →
    16 ≤ length reader + length coming
some_bytes sizes reader coming raw raws e =
    let size : length (frame_bytes raw) ≡ 16 + length raw.payload = sizes raw in
    let all : length (reader ++ coming) ≡ length (frame_bytes raw ++ flat_map frame_bytes raws) = ap length e in
    let one = length-append reader coming in
    let other = length-append (frame_bytes raw) (flat_map frame_bytes raws) in
    omega (arith, size, all, one, other)

not_none : (xs : List ℕ) → (suc (length xs) == 0) ≡ false
not_none xs = grind (arith, nat_tests)

-- a link has no byte exactly where it carries no frame
pub empty_as : Sizes → (s : LinkState) (fs : List Frame) (b : Bool) → b ≡ (length s.reader == 0 && length s.coming == 0) → Carries s fs →
    IsTrue b ↔ (fs ≡ [])
empty_as sizes s fs b e c = by s.reader s.coming fs b e c.holds.whole
  where
    by : (reader coming : List ℕ) (fs : List Frame) (b : Bool) → b ≡ (length reader == 0 && length coming == 0) →
        reader ++ coming ≡ flat_map frame_bytes (written_by s.writer fs) → IsTrue b ↔ (fs ≡ [])
    by [] [] [] b e h = (λ _. refl, λ _. e)
    by (x ∷ xs) coming [] b e h = absurd cc
    by [] (x ∷ xs) [] b e h = absurd cc
    by [] [] (f ∷ fs) b e h =
        let some = some_bytes sizes [] [] (raw_of f s.writer) (written_by s.writer fs) h in
        absurd (omega (arith, some))
    by (x ∷ xs) coming (f ∷ fs) b e h = (λ t. absurd (let no = not_none xs in let is : b ≡ false = e ∙ ap (λ (y : Bool). y && length coming == 0) no in cc), λ n. absurd cc)
    by [] (x ∷ xs) (f ∷ fs) b e h = (λ t. absurd (let no = not_none xs in let is : b ≡ false = e ∙ no in cc), λ n. absurd cc)

-- the bytes of one frame stand whole at the front
alone : Fronts → (raw : Raw) → IsFrame raw → front_of (frame_bytes raw) ≡ Whole raw []
alone fronts raw fits = ap front_of (sym (append-nil (frame_bytes raw))) ∙ fronts raw [] fits

-- no bytes are moved where there are none
none_moved : (n : ℕ) (s : LinkState) → s.reader ++ s.coming ≡ [] → moved n s ≡ s
none_moved n s e = by n s.writer s.reader s.coming e
  where
    by : (n writer : ℕ) (reader coming : List ℕ) → reader ++ coming ≡ [] →
        moved n (record { writer = writer; reader = reader; coming = coming }) ≡ record { writer = writer; reader = reader; coming = coming }
    by n writer (x ∷ xs) coming e = absurd cc
    by n writer [] (x ∷ xs) e = absurd cc
    by zero writer [] [] e = refl
    by (suc n) writer [] [] e = refl

abbrev Completing : Link → ℕ → Type 0
Completing link n = (raw : Raw) (raws : List Raw) → Holds link (raw ∷ raws) → front_of link.reader ≡ More → link.reader ++ take n link.coming ≡ frame_bytes raw

-- what is given once the bytes that are missing have moved
pub completed : {A : Type 0} (fronts : Fronts) (old : LinkState) (new : LinkState) (n : ℕ) (fs : List Frame) (r : Result (Option Frame) A) →
    Completing (bytes_of old) n → Carries old fs → IsPartial old → GivesFirst (moved n old) new fs r →
    TakesFront (moved n old).reader new.reader r → CompletesFirst old new fs r
completed fronts old new n fs (Ok (Some frame)) done c more (others, (e, left, fits)) (raw, front) =
    let held : Holds (bytes_of old) (raw_of frame old.writer ∷ written_by old.writer others) =
    subst (λ (x : List Frame). Holds (bytes_of old) (written_by old.writer x)) e c.holds in
    let whole = done (raw_of frame old.writer) (written_by old.writer others) held more in
    let first = alone fronts (raw_of frame old.writer) (All-head IsFrame (raw_of frame old.writer) (written_by old.writer others) held.each) in
    let same : Whole raw new.reader ≡ Whole (raw_of frame old.writer) [] = sym front ∙ ap front_of whole ∙ first in
    let nothing : new.reader ≡ [] = cc in
    (others, (e, left, fits, nothing))
completed fronts old new n [] (Ok None) done c more (same, partial) front = (same ∙ none_moved n old c.holds.whole, refl)
completed fronts old new n (f ∷ fs) (Ok None) done c more (same, partial) front =
    let whole = done (raw_of f old.writer) (written_by old.writer fs) c.holds more in
    let first = alone fronts (raw_of f old.writer) (All-head IsFrame (raw_of f old.writer) (written_by old.writer fs) c.holds.each) in
    let one : front_of (old.reader ++ take n old.coming) ≡ Whole (raw_of f old.writer) [] = ap front_of whole ∙ first in
    absurd cc
completed fronts old new n fs (Err fault) done c more given front = search rules
