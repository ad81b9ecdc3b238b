-- Routes as a payload.
use Rattle.std.proofs.Common.{◌≡◌, ◌∙◌, ℕ, ◌^◌, ◌<◌, ◌≤◌, true, false, List, [], ◌∷◌, ◌++◌, length, Option, Some, None, refl, ap, sym, arith, append_assoc, append-nil}
use Rattle.std.specs.Prelude.{nat_eq}
use Rattle.std.proofs.lemmas.Bool.Decides.{nat_tests}
use Rattle.std.proofs.lemmas.Option.{option_and_then_some}
use Rattle.byteorder.specs.Endian.{big_bytes}
use Rattle.wire_buf.specs.Field.{number_at, bytes_at}
use Rattle.wire_buf.specs.Written.{number_at-written, bytes_at-written}
use Rattle.net_base.specs.Order.{same_family}
use Rattle.net_base.specs.declared.addr.Addr.{Addr}
use Rattle.net_base.specs.declared.addr.Family.{Family}
use Rattle.net_base.specs.declared.addr.Family.TheVariants.{V4, V6}
use Rattle.net_base.specs.declared.prefix.Prefix.{Prefix}
use Rattle.bgp_wire.specs.Message.{AreBytes}
use Rattle.attr_model.specs.declared.attrs.Attrs.{Attrs}
use Rattle.attr_codec.specs.Frame.{frame_attrs_bytes, frame_attrs_of}
use Rattle.attr_codec.proofs.Frames.{frame_only}
use Rattle.core_msgs.specs.declared.frame.Frame.{Frame}
use Rattle.core_msgs.specs.declared.frame.Frame.TheVariants as frames
use Rattle.frame_codec.specs.Fields.{both, family_byte, family_at, addr_bytes, addr_at, prefixes_bytes, prefixes_at}
use Rattle.frame_codec.specs.Grammar.{hop_at, attrs_bytes, attrs_at, announced_bytes, announced_at, routes_at, AreAttrs, ArePrefixes, IsAnnounced, payload_of, AreParts, kind_of}
use Rattle.frame_codec.proofs.Fields.{IsField, number_field, both_field, bytes_rest, if_some}
use Rattle.frame_codec.proofs.Places.{family_field, addr_field, bytes_before, value_first}
use Rattle.frame_codec.proofs.Parts.{prefixes_field}

same_yes : (f g : Family) → f ≡ g → same_family f g ≡ true
same_yes V4 g e = rw (← e) refl
same_yes V6 g e = rw (← e) refl

same_is : (f g : Family) → same_family f g ≡ true → f ≡ g
same_is V4 V4 e = refl
same_is V4 V6 e = cc
same_is V6 V4 e = cc
same_is V6 V6 e = refl

-- an address of a family
hop_field : (family : Family) → IsField addr_bytes (hop_at family) (λ a. a.family ≡ family)
unfolding hop_at
hop_field family = record {
  there = λ a rest h. rw (addr_field.there a rest tt, same_yes a.family family h) refl;
  only = λ bytes x are e.
      option_and_then_some _ (addr_at bytes) x e (λ hop hh h1.
      let first = addr_field.only bytes hop are hh in
      let kept = if_some (same_family hop.0.family family) hop x h1 in
      rw (← kept.1) (first.0, same_is hop.0.family family kept.0));
}

joined : (a b d e rest : List ℕ) → (a ++ (b ++ (d ++ e))) ++ rest ≡ a ++ (b ++ (d ++ (e ++ rest)))
joined a b d e rest = simp append_assoc

attrs_steps : (family : Family) (bytes : List ℕ) (w : ℕ × List ℕ) (hop : Addr × List ℕ) (size : ℕ × List ℕ) (field : List ℕ × List ℕ) (attrs : Attrs) →
    number_at 4 bytes ≡ Some w → hop_at family w.1 ≡ Some hop → number_at 4 hop.1 ≡ Some size → bytes_at size.0 size.1 ≡ Some field → frame_attrs_of hop.0 w.0 field.0 ≡ Some attrs →
    attrs_at family bytes ≡ Some (attrs, field.1)
unfolding attrs_at
attrs_steps family bytes w hop size field attrs e1 e2 e3 e4 e5 = rw (e1, e2, e3, e4, e5) refl

-- attributes with their weight and hop
pub attrs_field : (family : Family) → IsField attrs_bytes (attrs_at family) (AreAttrs family)
unfolding attrs_at attrs_bytes
attrs_field family = record {
  there = λ a rest h.
      let few : length (frame_attrs_bytes a) ≤ 65535 = h.0.short in
      let size : length (frame_attrs_bytes a) < 256 ^ 4 = omega arith in
      ap (attrs_at family) (joined (big_bytes 4 a.weight) (addr_bytes a.hop) (big_bytes 4 (length (frame_attrs_bytes a))) (frame_attrs_bytes a) rest)
      ∙ attrs_steps family (big_bytes 4 a.weight ++ (addr_bytes a.hop ++ (big_bytes 4 (length (frame_attrs_bytes a)) ++ (frame_attrs_bytes a ++ rest))))
      (a.weight, addr_bytes a.hop ++ (big_bytes 4 (length (frame_attrs_bytes a)) ++ (frame_attrs_bytes a ++ rest)))
      (a.hop, big_bytes 4 (length (frame_attrs_bytes a)) ++ (frame_attrs_bytes a ++ rest))
      (length (frame_attrs_bytes a), frame_attrs_bytes a ++ rest)
      (frame_attrs_bytes a, rest) a
      (number_at-written 4 a.weight (addr_bytes a.hop ++ (big_bytes 4 (length (frame_attrs_bytes a)) ++ (frame_attrs_bytes a ++ rest))) h.0.weight)
      ((hop_field family).there a.hop (big_bytes 4 (length (frame_attrs_bytes a)) ++ (frame_attrs_bytes a ++ rest)) h.1)
      (number_at-written 4 (length (frame_attrs_bytes a)) (frame_attrs_bytes a ++ rest) size)
      (bytes_at-written (length (frame_attrs_bytes a)) (frame_attrs_bytes a) rest refl)
      h.0.back;
  only = λ bytes x are e.
      option_and_then_some _ (number_at 4 bytes) x e (λ w hw h1.
      option_and_then_some _ (hop_at family w.1) x h1 (λ hop hh h2.
      option_and_then_some _ (number_at 4 hop.1) x h2 (λ size hs h3.
      option_and_then_some _ (bytes_at size.0 size.1) x h3 (λ field hf h4.
      option_and_then_some _ (frame_attrs_of hop.0 w.0 field.0) x h4 (λ attrs ha h5.
      let p : (attrs, field.1) ≡ x = cc in
      let a = (number_field 4).only bytes w are hw in
      let are1 = bytes_rest bytes (big_bytes 4 w.0) w.1 are a.0 in
      let b = (hop_field family).only w.1 hop are1 hh in
      let are2 = bytes_rest w.1 (addr_bytes hop.0) hop.1 are1 b.0 in
      let d = (number_field 4).only hop.1 size are2 hs in
      let are3 = bytes_rest hop.1 (big_bytes 4 size.0) size.1 are2 d.0 in
      let cut = value_first size.0 size.1 field hf in
      let are4 = bytes_before field.0 field.1 size.1 are3 cut.0 in
      let f = frame_only hop.0 w.0 field.0 attrs are4 ha in
      let spelt : bytes ≡ big_bytes 4 w.0 ++ (addr_bytes hop.0 ++ (big_bytes 4 size.0 ++ (field.0 ++ field.1))) =
      a.0 ∙ ap (λ (y : List ℕ). big_bytes 4 w.0 ++ y) (b.0 ∙ ap (λ (y : List ℕ). addr_bytes hop.0 ++ y) (d.0 ∙ ap (λ (y : List ℕ). big_bytes 4 size.0 ++ y) cut.0)) in
      let joint : bytes ≡ (big_bytes 4 w.0 ++ (addr_bytes hop.0 ++ (big_bytes 4 size.0 ++ field.0))) ++ field.1 =
      spelt ∙ sym (joined (big_bytes 4 w.0) (addr_bytes hop.0) (big_bytes 4 size.0) field.0 field.1) in
      let size_is : size.0 ≡ length (frame_attrs_bytes attrs) = sym cut.1 ∙ ap length f.written in
      rw (← p) (
        joint
            ∙ ap (λ (n : ℕ). (big_bytes 4 n ++ (addr_bytes hop.0 ++ (big_bytes 4 size.0 ++ field.0))) ++ field.1) (sym f.weight)
            ∙ ap (λ (h : Addr). (big_bytes 4 attrs.weight ++ (addr_bytes h ++ (big_bytes 4 size.0 ++ field.0))) ++ field.1) (sym f.hop)
            ∙ ap (λ (n : ℕ). (big_bytes 4 attrs.weight ++ (addr_bytes attrs.hop ++ (big_bytes 4 n ++ field.0))) ++ field.1) size_is
            ∙ ap (λ (y : List ℕ). (big_bytes 4 attrs.weight ++ (addr_bytes attrs.hop ++ (big_bytes 4 (length (frame_attrs_bytes attrs)) ++ y))) ++ field.1) f.written,
        (
          record {
            valid = f.valid;
            short = omega (arith, ap length f.written, f.short);
            weight = rw f.weight a.1;
            back = ap (λ (h : Addr). frame_attrs_of h attrs.weight (frame_attrs_bytes attrs)) f.hop
                ∙ ap (λ (n : ℕ). frame_attrs_of hop.0 n (frame_attrs_bytes attrs)) f.weight
                ∙ ap (λ (y : List ℕ). frame_attrs_of hop.0 w.0 y) (sym f.written)
                ∙ ha;
          },
          ap (λ (h : Addr). h.family) f.hop ∙ b.1,
        ),
      ))))));
}

one_field : (family : Family) → IsField (λ (x : Attrs × List Prefix). attrs_bytes x.0 ++ prefixes_bytes x.1) (both (attrs_at family) (prefixes_at family)) (λ (x : Attrs × List Prefix). AreAttrs family x.0 × ArePrefixes family x.1)
one_field family = both_field attrs_bytes (attrs_at family) (AreAttrs family) prefixes_bytes (prefixes_at family) (ArePrefixes family) (attrs_field family) (prefixes_field family)

some_bytes : (a : Attrs) (rest : List ℕ) → nat_eq (length (attrs_bytes a ++ rest)) 0 ≡ false
unfolding attrs_bytes
some_bytes a rest = grind (arith, nat_tests)

announced_there : (family : Family) (x : Option (Attrs × List Prefix)) → IsAnnounced family x → announced_at family (announced_bytes x) ≡ Some (x, [])
unfolding announced_at
announced_there family None h = refl
announced_there family (Some one) h =
    let read = (one_field family).there one [] h in
    rw (some_bytes one.0 (prefixes_bytes one.1)) (rw (rw (append-nil (attrs_bytes one.0 ++ prefixes_bytes one.1)) at read) refl)

announced_only : (family : Family) (bytes : List ℕ) (x : Option (Attrs × List Prefix) × List ℕ) → AreBytes bytes → announced_at family bytes ≡ Some x → (bytes ≡ announced_bytes x.0 ++ x.1) × IsAnnounced family x.0
unfolding announced_at
announced_only family [] x are e = let p : (None, []) ≡ x = cc in rw (← p) (refl, tt)
announced_only family (b ∷ bs) x are e =
    let t : nat_eq (length (b ∷ bs)) 0 ≡ false = grind (arith, nat_tests) in
    option_and_then_some _ (both (attrs_at family) (prefixes_at family) (b ∷ bs)) x (rw t at e) (λ one ho h1.
    let p : (Some one.0, one.1) ≡ x = cc in
    let is = (one_field family).only (b ∷ bs) one are ho in
    rw (← p) is)

pub routes_there : (session : ℕ) (family : Family) (withdrawn : List Prefix) (announced : Option (Attrs × List Prefix)) → ArePrefixes family withdrawn → IsAnnounced family announced →
    routes_at session (family_byte family ++ (prefixes_bytes withdrawn ++ announced_bytes announced)) ≡ Some (frames.Routes session family withdrawn announced, [])
unfolding routes_at
routes_there session family withdrawn announced w a =
    rw (
      family_field.there family (prefixes_bytes withdrawn ++ announced_bytes announced) tt,
      (prefixes_field family).there withdrawn (announced_bytes announced) w,
      announced_there family announced a,
    ) refl

pub routes_only : (session : ℕ) (bytes : List ℕ) (x : Frame × List ℕ) → AreBytes bytes → routes_at session bytes ≡ Some x → (bytes ≡ payload_of x.0 ++ x.1) × (AreParts x.0 × (kind_of x.0 ≡ kind_of (frames.Routes 0 V4 [] None)))
unfolding routes_at
routes_only session bytes x are e =
    option_and_then_some _ (family_at bytes) x e (λ f hf h1.
    option_and_then_some _ (prefixes_at f.0 f.1) x h1 (λ w hw h2.
    option_and_then_some _ (announced_at f.0 w.1) x h2 (λ a ha h3.
    let p : (frames.Routes session f.0 w.0 a.0, a.1) ≡ x = cc in
    let first = family_field.only bytes f are hf in
    let are1 = bytes_rest bytes (family_byte f.0) f.1 are first.0 in
    let gone = (prefixes_field f.0).only f.1 w are1 hw in
    let told = announced_only f.0 w.1 a (bytes_rest f.1 (prefixes_bytes w.0) w.1 are1 gone.0) ha in
    rw (← p) (
      first.0 ∙ ap (λ (y : List ℕ). family_byte f.0 ++ y) (gone.0 ∙ ap (λ (y : List ℕ). prefixes_bytes w.0 ++ y) told.0)
          ∙ sym (append_assoc (family_byte f.0) (prefixes_bytes w.0 ++ announced_bytes a.0) a.1 ∙ ap (λ (y : List ℕ). family_byte f.0 ++ y) (append_assoc (prefixes_bytes w.0) (announced_bytes a.0) a.1)),
      ((gone.1, told.1), refl),
    ))))
