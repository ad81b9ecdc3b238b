-- Truth values, families, addresses and prefixes as fields.
use Rattle.std.proofs.Common.{◌≡◌, ◌∙◌, ℕ, zero, suc, ◌+◌, ◌*◌, ◌/◌, ◌%◌, ◌^◌, ◌<◌, ◌≤◌, min, Bool, true, false, List, [], ◌∷◌, ◌++◌, length, take, drop, ◌⊎◌, inl, inr, Option, Some, None, refl, ap, sym, arith, append_assoc, length-take}
use Rattle.std.specs.Prelude.{nat_lt, nat_eq, cond, flat_map}
use Rattle.std.specs.List.{All}
use Rattle.std.proofs.lemmas.Bool.Decides.{nat_tests}
use Rattle.std.proofs.lemmas.Option.{none-some, option_and_then_some}
use Rattle.std.proofs.lemmas.List.{take-append-drop}
use Rattle.std.proofs.lemmas.List.Elements.{All-nil, All-cons, All-head, All-tail}
use Rattle.std.proofs.Math.Nat.{mod-eq_of_lt}
use Rattle.std.proofs.Math.Seq.{take-append_seam}
use Rattle.attr_codec.proofs.Bytes.{bytes_front}
use Rattle.byteorder.specs.Endian.{big_number, big_bytes}
use Rattle.byteorder.specs.Numbers.{big_from-lt, length-bytes_high_first}
use Rattle.byteorder.proofs.Bytes.{pow256}
use Rattle.wire_buf.specs.Field.{number_at, bytes_at}
use Rattle.wire_buf.specs.Written.{number_at-written, bytes_at-written}
use Rattle.net_base.specs.declared.addr.Addr.{Addr}
use Rattle.net_base.specs.declared.addr.Family.{Family}
use Rattle.net_base.specs.declared.addr.Family.TheVariants.{V4, V6}
use Rattle.net_base.specs.declared.prefix.Prefix.{Prefix}
use Rattle.net_base.specs.Width.{width_of}
use Rattle.net_base.specs.Bits.{addr_of, prefix_of}
use Rattle.net_base.proofs.Equal.{same_addr}
use Rattle.bgp_wire.specs.Message.{AreBytes}
use Rattle.attr_codec.specs.Prefixes.{octet_count, addr_with, prefix_bytes, IsOf}
use Rattle.attr_codec.proofs.PrefixesBack.{width_is, octets_back, read_back}
use Rattle.frame_codec.specs.Fields.{mapped, truth_byte, truth_at, family_byte, family_at, addr_bytes, addr_at, exactly, exact_prefix_at, items_at}
use Rattle.frame_codec.proofs.Numbers.{front_back}
use Rattle.frame_codec.proofs.Fields.{IsField, number_field, bytes_rest, unless, if_some}

-- a byte in front
pub byte_there : (b : ℕ) (rest : List ℕ) → number_at 1 (b ∷ rest) ≡ Some (b, rest)
byte_there b rest =
    let t : nat_lt (length (b ∷ rest)) 1 ≡ false = grind (arith, nat_tests) in
    let v : b * 1 + 0 ≡ b = omega arith in
    rw (t, v) refl

pub byte_first : (bytes : List ℕ) (x : ℕ × List ℕ) → number_at 1 bytes ≡ Some x → bytes ≡ x.0 ∷ x.1
byte_first [] x h = absurd (none-some x h)
byte_first (b ∷ bs) x h =
    let s : Some (b, bs) ≡ Some x = sym (byte_there b bs) ∙ h in
    let p : (b, bs) ≡ x = cc in
    rw (← p) refl

-- one of two bytes
two_ways : {A : Type 0} (first second : Bool) (a b x : A) → cond first (Some a) (cond second (Some b) None) ≡ Some x → (first ≡ true × a ≡ x) ⊎ (second ≡ true × b ≡ x)
two_ways true second a b x h = inl (refl, cc)
two_ways false true a b x h = inr (refl, cc)
two_ways false false a b x h = cc

truth_there : (b : Bool) (rest : List ℕ) → truth_at (truth_byte b ++ rest) ≡ Some (b, rest)
truth_there true rest = rw (byte_there 1 rest) refl
truth_there false rest = rw (byte_there 0 rest) refl

pub truth_field : IsField truth_byte truth_at (λ b. Unit {0})
truth_field = record {
  there = λ b rest h. truth_there b rest;
  only = λ bytes x are e.
      option_and_then_some _ (number_at 1 bytes) x e (λ code hc h1.
      let front = byte_first bytes code hc in
      elim (two_ways (nat_eq code.0 0) (nat_eq code.0 1) (false, code.1) (true, code.1) x h1) [
        | inl f ↦ let z : code.0 ≡ 0 = grind (arith, nat_tests, f.0) in (front ∙ rw (← f.1) (ap (λ (n : ℕ). n ∷ code.1) z), tt)
        | inr f ↦ let z : code.0 ≡ 1 = grind (arith, nat_tests, f.0) in (front ∙ rw (← f.1) (ap (λ (n : ℕ). n ∷ code.1) z), tt)
      ]);
}

family_there : (f : Family) (rest : List ℕ) → family_at (family_byte f ++ rest) ≡ Some (f, rest)
family_there V4 rest = rw (byte_there 1 rest) refl
family_there V6 rest = rw (byte_there 2 rest) refl

pub family_field : IsField family_byte family_at (λ f. Unit {0})
family_field = record {
  there = λ f rest h. family_there f rest;
  only = λ bytes x are e.
      option_and_then_some _ (number_at 1 bytes) x e (λ code hc h1.
      let front = byte_first bytes code hc in
      elim (two_ways (nat_eq code.0 1) (nat_eq code.0 2) (V4, code.1) (V6, code.1) x h1) [
        | inl f ↦ let z : code.0 ≡ 1 = grind (arith, nat_tests, f.0) in (front ∙ rw (← f.1) (ap (λ (n : ℕ). n ∷ code.1) z), tt)
        | inr f ↦ let z : code.0 ≡ 2 = grind (arith, nat_tests, f.0) in (front ∙ rw (← f.1) (ap (λ (n : ℕ). n ∷ code.1) z), tt)
      ]);
}

-- an address has as many bits as its octets
widths : (f : Family) → 256 ^ octet_count f ≡ 2 ^ width_of f
widths f = pow256 (octet_count f) ∙ ap (λ (n : ℕ). 2 ^ n) (sym (width_is f))

addr_back : (a : Addr) → addr_of a.family a.bits ≡ a
addr_back a = same_addr (addr_of a.family a.bits) a refl (mod-eq_of_lt a.in_family)

pub addr_field : IsField addr_bytes addr_at (λ a. Unit {0})
unfolding addr_at
addr_field = record {
  there = λ a rest h.
      let low : a.bits < 256 ^ octet_count a.family = rw (widths a.family) a.in_family in
      rw (
        append_assoc (family_byte a.family) (big_bytes (octet_count a.family) a.bits) rest,
        family_there a.family (big_bytes (octet_count a.family) a.bits ++ rest),
        number_at-written (octet_count a.family) a.bits rest low,
      ) (ap (λ (x : Addr). Some (x, rest)) (addr_back a));
  only = λ bytes x are e.
      option_and_then_some _ (family_at bytes) x e (λ f hf h1.
      option_and_then_some _ (number_at (octet_count f.0) f.1) x h1 (λ n hn h2.
      let p : (addr_of f.0 n.0, n.1) ≡ x = cc in
      let first = family_field.only bytes f are hf in
      let second = (number_field (octet_count f.0)).only f.1 n (bytes_rest bytes (family_byte f.0) f.1 are first.0) hn in
      let low : n.0 < 2 ^ width_of f.0 = rw (← widths f.0) second.1 in
      let bits : n.0 % 2 ^ width_of f.0 ≡ n.0 = mod-eq_of_lt low in
      rw (← p) (
        first.0 ∙ ap (λ (y : List ℕ). family_byte f.0 ++ y) (second.0 ∙ ap (λ (m : ℕ). big_bytes (octet_count f.0) m ++ n.1) (sym bits))
            ∙ sym (append_assoc (family_byte f.0) (big_bytes (octet_count f.0) (n.0 % 2 ^ width_of f.0)) n.1),
        tt,
      )));
}

-- a prefix
exactly_there : (a : Addr) (len : ℕ) (p : Prefix) → prefix_of a len ≡ p → a.bits ≡ p.bits → exactly a len ≡ Some p
exactly_there a len p h b =
    let same : (prefix_of a len).bits ≡ a.bits = ap (λ (q : Prefix). q.bits) h ∙ sym b in
    let t : nat_eq (prefix_of a len).bits a.bits ≡ true = grind (arith, nat_tests) in
    rw t (ap Some h)

exact_there : (p : Prefix) (rest : List ℕ) → exact_prefix_at p.family (prefix_bytes p ++ rest) ≡ Some (p, rest)
unfolding exact_prefix_at
exact_there p rest =
    let within = p.within in
    let size : nat_lt (width_of p.family) p.len ≡ false = grind (arith, nat_tests) in
    let all : length (big_bytes (octet_count p.family) p.bits) ≡ octet_count p.family = length-bytes_high_first (octet_count p.family) p.bits in
    let w = width_is p.family in
    let octets : List ℕ = take ((p.len + 7) / 8) (big_bytes (octet_count p.family) p.bits) in
    let long : length (take ((p.len + 7) / 8) (big_bytes (octet_count p.family) p.bits)) ≡ (p.len + 7) / 8 = omega (arith, length-take ((p.len + 7) / 8) (big_bytes (octet_count p.family) p.bits)) in
    let bits : (addr_with p.family (take ((p.len + 7) / 8) (big_bytes (octet_count p.family) p.bits))).bits ≡ p.bits =
    ap (λ (b : ℕ). b % 2 ^ width_of p.family) (octets_back p.family p.len p.bits p.within p.in_family p.host_bits_zero) ∙ mod-eq_of_lt p.in_family in
    rw (
      byte_there p.len (take ((p.len + 7) / 8) (big_bytes (octet_count p.family) p.bits) ++ rest),
      size,
      bytes_at-written ((p.len + 7) / 8) (take ((p.len + 7) / 8) (big_bytes (octet_count p.family) p.bits)) rest long,
      exactly_there (addr_with p.family (take ((p.len + 7) / 8) (big_bytes (octet_count p.family) p.bits))) p.len p (read_back p) bits,
    ) refl

exact_bytes : (family : Family) (len : ℕ) (octets : List ℕ) (p : Prefix) → len ≤ width_of family → length octets ≡ (len + 7) / 8 → AreBytes octets →
    p.family ≡ family → p.len ≡ len → p.bits ≡ big_number (octet_count family) octets → prefix_bytes p ≡ len ∷ octets
exact_bytes family len octets p within size are f l b =
    let w = width_is family in
    let few : length octets ≤ octet_count family = omega arith in
    rw (f, l, b) (ap (λ (y : List ℕ). len ∷ y)
    (ap (λ (k : ℕ). take k (big_bytes (octet_count family) (big_number (octet_count family) octets))) (sym size) ∙ front_back octets (octet_count family) few are))

pub value_first : (n : ℕ) (bytes : List ℕ) (x : List ℕ × List ℕ) → bytes_at n bytes ≡ Some x → (bytes ≡ x.0 ++ x.1) × (length x.0 ≡ n)
value_first n bytes x h =
    let g = unless (nat_lt (length bytes) n) (take n bytes, drop n bytes) x h in
    let long : n ≤ length bytes = grind (arith, nat_tests, g.0) in
    rw (← g.1) (sym (take-append-drop n bytes), omega (arith, length-take n bytes))

pub bytes_before : (front rest bytes : List ℕ) → AreBytes bytes → bytes ≡ front ++ rest → AreBytes front
bytes_before front rest bytes are e =
    let front_is : take (length front) bytes ≡ front = rw e (take-append_seam front rest) in
    rw (← front_is) (bytes_front (length front) bytes are)

pub prefix_field : (family : Family) → IsField prefix_bytes (exact_prefix_at family) (IsOf family)
unfolding exact_prefix_at
prefix_field family = record {
  there = λ p rest f. ap (λ (g : Family). exact_prefix_at g (prefix_bytes p ++ rest)) (sym f) ∙ exact_there p rest;
  only = λ bytes x are e.
      option_and_then_some _ (number_at 1 bytes) x e (λ len hl h1.
      option_and_then_some _ (cond (nat_lt (width_of family) len.0) None (Some ((len.0 + 7) / 8))) x h1 (λ size hs h2.
      option_and_then_some _ (bytes_at size len.1) x h2 (λ octets ho h3.
      option_and_then_some _ (exactly (addr_with family octets.0) len.0) x h3 (λ prefix hp h4.
      let p : (prefix, octets.1) ≡ x = cc in
      let first = byte_first bytes len hl in
      let low = unless (nat_lt (width_of family) len.0) ((len.0 + 7) / 8) size hs in
      let within : len.0 ≤ width_of family = grind (arith, nat_tests, low.0) in
      let cut = value_first size len.1 octets ho in
      let are_left : AreBytes len.1 = bytes_rest bytes (len.0 ∷ []) len.1 are first in
      let are_octets : AreBytes octets.0 = bytes_before octets.0 octets.1 len.1 are_left cut.0 in
      let made = if_some (nat_eq (prefix_of (addr_with family octets.0) len.0).bits (addr_with family octets.0).bits) (prefix_of (addr_with family octets.0) len.0) prefix hp in
      let kept : min len.0 (width_of family) ≡ len.0 = omega arith in
      let same : (prefix_of (addr_with family octets.0) len.0).bits ≡ (addr_with family octets.0).bits = grind (arith, nat_tests, made.0) in
      let few : big_number (octet_count family) octets.0 < 2 ^ width_of family = rw (← widths family) (big_from-lt 0 (octet_count family) octets.0 are_octets) in
      let size_is : length octets.0 ≡ (len.0 + 7) / 8 = cut.1 ∙ sym low.1 in
      let bytes_are = exact_bytes family len.0 octets.0 prefix within size_is are_octets (ap (λ (q : Prefix). q.family) (sym made.1)) (ap (λ (q : Prefix). q.len) (sym made.1) ∙ kept)
      (ap (λ (q : Prefix). q.bits) (sym made.1) ∙ same ∙ mod-eq_of_lt few) in
      rw (← p) (first ∙ ap (λ (y : List ℕ). len.0 ∷ y) cut.0 ∙ ap (λ (y : List ℕ). y ++ octets.1) (sym bytes_are), ap (λ (q : Prefix). q.family) (sym made.1))))));
}

-- so many items
pub items_there : {X : Type 0} (put : X → List ℕ) (get : List ℕ → Option (X × List ℕ)) (IsIn : X → Type 0) → IsField put get IsIn → (xs : List X) (rest : List ℕ) → All IsIn xs →
    items_at get (length xs) (flat_map put xs ++ rest) ≡ Some (xs, rest)
unfolding items_at
items_there put get IsIn field [] rest each = refl
items_there put get IsIn field (x ∷ xs) rest each =
    rw (
      append_assoc (put x) (flat_map put xs) rest,
      field.there x (flat_map put xs ++ rest) (All-head IsIn x xs each),
      items_there put get IsIn field xs rest (All-tail IsIn x xs each),
    ) refl

pub items_only : {X : Type 0} (put : X → List ℕ) (get : List ℕ → Option (X × List ℕ)) (IsIn : X → Type 0) → IsField put get IsIn → (n : ℕ) (bytes : List ℕ) (x : List X × List ℕ) → AreBytes bytes →
    items_at get n bytes ≡ Some x → (bytes ≡ flat_map put x.0 ++ x.1) × ((length x.0 ≡ n) × All IsIn x.0)
unfolding items_at
items_only {X = X} put get IsIn field zero bytes x are e =
    let p : ([], bytes) ≡ x = cc in
    rw (← p) (refl, (refl, All-nil IsIn))
items_only {X = X} put get IsIn field (suc n) bytes x are e =
    option_and_then_some _ (get bytes) x e (λ first hf h1.
    option_and_then_some _ (items_at get n first.1) x h1 (λ others ho h2.
    let p : (first.0 ∷ others.0, others.1) ≡ x = cc in
    let one = field.only bytes first are hf in
    let rest = items_only put get IsIn field n first.1 others (bytes_rest bytes (put first.0) first.1 are one.0) ho in
    rw (← p) (
      one.0 ∙ ap (λ (y : List ℕ). put first.0 ++ y) rest.0 ∙ sym (append_assoc (put first.0) (flat_map put others.0) others.1),
      (omega (arith, rest.1.0), All-cons IsIn first.0 others.0 one.1 rest.1.1),
    )))

-- an address that was made of the bits that were read
pub addr_made : (family : Family) (n x : ℕ) (old new : List ℕ) (a : Addr) → number_at n old ≡ Some (x, new) → a.family ≡ family → a.bits ≡ x →
    mapped (addr_of family) (number_at n) old ≡ Some (a, new)
addr_made family n x old new a h f b =
    let bits : x % 2 ^ width_of family ≡ a.bits =
    ap (λ (y : ℕ). y % 2 ^ width_of family) (sym b) ∙ ap (λ (g : Family). a.bits % 2 ^ width_of g) (sym f) ∙ mod-eq_of_lt a.in_family in
    rw h (ap (λ (y : Addr). Some (y, new)) (same_addr (addr_of family x) a (sym f) bits))
