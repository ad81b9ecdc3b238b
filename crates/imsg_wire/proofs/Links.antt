-- The frames that a link holds.
use Rattle.std.proofs.Common.{rules, ◌≡◌, ◌∙◌, ℕ, ◌+◌, ◌<◌, ◌≤◌, Bool, true, false, arith, length, List, [], ◌∷◌, ◌++◌, take, drop, Option, Some, None, Ok, Err, Result, refl, ap, sym, append_assoc, append-nil}
use Rattle.std.specs.Prelude.{flat_map, nat_lt, IfOk, IfSome}
use Rattle.std.proofs.lemmas.Bool.Decides.{nat_tests}
use Rattle.std.proofs.Math.Seq.{take-append_seam, take-append-add}
use Rattle.byteorder.specs.Endian.{little_number}
use Rattle.byteorder.specs.Numbers.{little_number-reads_back}
use Rattle.std.specs.List.{All}
use Rattle.std.proofs.lemmas.List.{take-append-drop, take-append-le, get_or-drop}
use Rattle.std.proofs.lemmas.List.Concat.{flat_map-append}
use Rattle.std.proofs.lemmas.List.Elements.{All-head, All-tail, All-push}
use Rattle.imsg_wire.specs.declared.link.Link.{Link}
use Rattle.imsg_wire.specs.declared.raw.Raw.{Raw}
use Rattle.imsg_wire.specs.declared.raw.ImsgFault.{ImsgFault}
use Rattle.imsg_wire.specs.declared.raw.ImsgFault.TheVariants as faults
use Rattle.imsg_wire.specs.Frame.{frame_bytes, IsFrame, More, Whole, Bad, front_of, Takes}
use Rattle.imsg_wire.specs.Holding.{Holds, GivesFirst, size_in, missing_of}
use Rattle.imsg_wire.proofs.Fronts.{front_of-append_whole, front_of-append_bad, front_of-written, front_of-nil, front_of-shorter}

-- a frame that is appended is the last
pub holds_appended : (old new : Link) (raws : List Raw) (raw : Raw) → Holds old raws → IsFrame raw →
    new ≡ record old { coming = old.coming ++ frame_bytes raw } → Holds new (raws ++ raw ∷ [])
holds_appended old new raws raw h fits e =
    rw e (record {
      whole = sym (append_assoc old.reader old.coming (frame_bytes raw)) ∙ ap (λ (x : List ℕ). x ++ frame_bytes raw) h.whole
          ∙ sym (flat_map-append frame_bytes raws (raw ∷ []) ∙ ap (λ (x : List ℕ). flat_map frame_bytes raws ++ x) (append-nil (frame_bytes raw)));
      each = All-push IsFrame raws raw h.each fits;
    })

-- bytes that move change nothing
pub holds_moved : (n : ℕ) (old new : Link) (raws : List Raw) → new ≡ record { reader = old.reader ++ take n old.coming; coming = drop n old.coming } → Holds old raws → Holds new raws
holds_moved n old new raws e h =
    rw e (record {
      whole = append_assoc old.reader (take n old.coming) (drop n old.coming)
          ∙ ap (λ (x : List ℕ). old.reader ++ x) (take-append-drop n old.coming) ∙ h.whole;
      each = h.each;
    })

same_link : (one other : Link) → one.reader ≡ other.reader → one.coming ≡ other.coming → one ≡ other
same_link one other r c =
    ap (λ (x : List ℕ). record { reader = x; coming = one.coming }) r ∙ ap (λ (x : List ℕ). record { reader = other.reader; coming = x }) c

-- what stands at the front of frames that were written
no_front : (bytes : List ℕ) (raws : List Raw) → bytes ≡ flat_map frame_bytes raws → raws ≡ [] → front_of bytes ≡ More
no_front bytes raws e n = ap front_of (e ∙ ap (λ (x : List Raw). flat_map frame_bytes x) n) ∙ front_of-nil

first_front : (bytes : List ℕ) (raw : Raw) (raws : List Raw) → bytes ≡ flat_map frame_bytes (raw ∷ raws) → All IsFrame (raw ∷ raws) → front_of bytes ≡ Whole raw (flat_map frame_bytes raws)
first_front bytes raw raws e each = ap front_of e ∙ front_of-written raw (flat_map frame_bytes raws) (All-head IsFrame raw raws each)

some_given : (old new : Link) (raw : Raw) (raws : List Raw) → front_of old.reader ≡ Whole raw new.reader → new.coming ≡ old.coming → Holds old raws → (others : List Raw) × ((raws ≡ raw ∷ others) × Holds new others)
some_given old new raw [] t c h =
    let more = no_front (old.reader ++ old.coming) [] h.whole refl in
    let whole = front_of-append_whole old.reader old.coming raw new.reader t in
    absurd cc
some_given old new raw (first ∷ others) t c h =
    let front = first_front (old.reader ++ old.coming) first others h.whole h.each in
    let whole = front_of-append_whole old.reader old.coming raw new.reader t in
    let same : Whole raw (new.reader ++ old.coming) ≡ Whole first (flat_map frame_bytes others) = sym whole ∙ front in
    let is_first : first ≡ raw = cc in
    let left : new.reader ++ old.coming ≡ flat_map frame_bytes others = cc in (
      others,
      (
        ap (λ (x : Raw). x ∷ others) is_first,
        record {
          whole = ap (λ (x : List ℕ). new.reader ++ x) c ∙ left;
          each = All-tail IsFrame first others h.each;
        },
      ),
    )

none_left : (old : Link) (raws : List Raw) → front_of old.reader ≡ More → Holds old raws → old.coming ≡ [] → raws ≡ []
none_left old [] t h c = refl
none_left old (raw ∷ raws) t h c =
    let bytes : old.reader ≡ flat_map frame_bytes (raw ∷ raws) = sym (ap (λ (x : List ℕ). old.reader ++ x) c ∙ append-nil old.reader) ∙ h.whole in
    let front = first_front old.reader raw raws bytes h.each in
    absurd cc

none_bad : (old : Link) (raws : List Raw) (size : ℕ) → front_of old.reader ≡ Bad size → Holds old raws → ⊥
none_bad old [] size t h =
    let more = no_front (old.reader ++ old.coming) [] h.whole refl in
    let bad = front_of-append_bad old.reader old.coming size t in
    cc
none_bad old (raw ∷ raws) size t h =
    let front = first_front (old.reader ++ old.coming) raw raws h.whole h.each in
    let bad = front_of-append_bad old.reader old.coming size t in
    cc

-- the answers of a link that holds frames
pub gives_first : (old new : Link) (raws : List Raw) (result : Result (Option Raw) ImsgFault) → Takes old.reader new.reader result → new.coming ≡ old.coming → Holds old raws → GivesFirst old new raws result
gives_first old new raws (Ok (Some raw)) t c h = some_given old new raw raws t c h
gives_first old new raws (Ok None) t c h = (same_link new old t.1 c, λ e. none_left old raws t.0 h e)
gives_first old new raws (Err (faults.BadLength size)) t c h = none_bad old raws size t.0 h
gives_first old new raws (Err faults.NoMemory) t c h = same_link new old t.1 c

-- what is given leaves fewer bytes
pub given_shorter : (old new : List ℕ) (result : Result (Option Raw) ImsgFault) → Takes old new result → IfOk result (λ given. IfSome given (λ _. length new < length old))
given_shorter old new (Ok (Some raw)) t = let s = front_of-shorter old raw new t in omega arith
given_shorter old new (Ok None) t = search rules
given_shorter old new (Err fault) t = search rules

-- the header of a frame that was written says its length
size_written : (raw : Raw) (rest : List ℕ) → IsFrame raw → size_in (frame_bytes raw ++ rest) ≡ length (frame_bytes raw)
unfolding frame_bytes
size_written raw rest fits =
    let few : length raw.payload ≤ 16368 = fits.payload in
    let size : little_number 2 (drop 4 (frame_bytes raw ++ rest)) ≡ 16 + length raw.payload = little_number-reads_back 2 (16 + length raw.payload) (drop 6 (frame_bytes raw ++ rest)) (omega arith) in
    let all : length (frame_bytes raw) ≡ 16 + length raw.payload = omega arith in
    let low = get_or-drop 4 (frame_bytes raw ++ rest) 0 0 in
    let high = get_or-drop 4 (frame_bytes raw ++ rest) 1 0 in
    omega (arith, size, all, low, high)

-- a part of the first frame is shorter than that
part_shorter : (link : Link) (raw : Raw) (raws : List Raw) → Holds link (raw ∷ raws) → front_of link.reader ≡ More → length link.reader < length (frame_bytes raw)
part_shorter link raw raws h more = by (nat_lt (length link.reader) (length (frame_bytes raw))) refl
  where
    by : (b : Bool) → nat_lt (length link.reader) (length (frame_bytes raw)) ≡ b → length link.reader < length (frame_bytes raw)
    by true e = grind (arith, nat_tests, e)
    by false e =
        let long : length (frame_bytes raw) ≤ length link.reader = grind (arith, nat_tests, e) in
        let front : take (length (frame_bytes raw)) link.reader ≡ frame_bytes raw =
        sym (take-append-le (length (frame_bytes raw)) link.reader link.coming long)
        ∙ ap (λ (x : List ℕ). take (length (frame_bytes raw)) x) h.whole
        ∙ take-append_seam (frame_bytes raw) (flat_map frame_bytes raws) in
        let split : frame_bytes raw ++ drop (length (frame_bytes raw)) link.reader ≡ link.reader =
        ap (λ (x : List ℕ). x ++ drop (length (frame_bytes raw)) link.reader) (sym front)
        ∙ take-append-drop (length (frame_bytes raw)) link.reader in
        let whole : front_of link.reader ≡ Whole raw (drop (length (frame_bytes raw)) link.reader) =
        ap front_of (sym split) ∙ front_of-written raw (drop (length (frame_bytes raw)) link.reader) (All-head IsFrame raw raws h.each) in
        absurd cc

-- so many bytes complete the first frame
pub completes : (link : Link) (raw : Raw) (raws : List Raw) (n : ℕ) → n ≡ missing_of link → Holds link (raw ∷ raws) → front_of link.reader ≡ More →
    link.reader ++ take n link.coming ≡ frame_bytes raw
completes link raw raws n e h more =
    let size : size_in (link.reader ++ link.coming) ≡ length (frame_bytes raw) =
    ap size_in h.whole ∙ size_written raw (flat_map frame_bytes raws) (All-head IsFrame raw raws h.each) in
    let short = part_shorter link raw raws h more in
    let count : length link.reader + n ≡ length (frame_bytes raw) = omega (arith, e, size, short) in
    sym (take-append-add link.reader link.coming n)
    ∙ ap (λ (x : ℕ). take x (link.reader ++ link.coming)) count
    ∙ ap (λ (x : List ℕ). take (length (frame_bytes raw)) x) h.whole
    ∙ take-append_seam (frame_bytes raw) (flat_map frame_bytes raws)
