-- A text spells one address at most, the reader finds it, and what is printed is such a text.
use Rattle.std.proofs.Common.{◌≡◌, ℕ, ◌^◌, ◌%◌, ◌<◌, false, List, [], ◌∷◌, length, Option, Some, None, refl, sym, ap, ◌∙◌, subst, lit≤, arith, inl, inr, ◌⊎◌, append-nil}
use Rattle.std.proofs.lemmas.Option.{none-some, same_Some}
use Rattle.std.proofs.lemmas.Bool.Decides.{Decides-eqb}
use Rattle.std.proofs.Math.Nat.{mod-eq_of_lt}
use Rattle.std.proofs.NetLemmas.Options.{cond_some, cond_none, map_some}
use Rattle.std.proofs.NetLemmas.Ipv4.{read_ipv4_complete, read_ipv4_sound}
use Rattle.std.proofs.NetLemmas.Ipv6.{read_ipv6_complete, read_ipv6_sound, EndsGroups-nil, IsDotted-not_colon_hex}
use Rattle.std.proofs.NetLemmas.Texts.{IsDotted-ipv4_text, IsColonHex-hex_groups_text}
use Rattle.std.proofs.NetLemmas.Alphabet.{All-hex_groups_text}
use Rattle.std.specs.Int.{w32, w128, from_be_bytes}
use Rattle.std.specs.declared.net.ipv4_addr.Ipv4Addr.{Ipv4Addr}
use Rattle.std.specs.declared.net.ipv6_addr.Ipv6Addr.{Ipv6Addr}
use Rattle.std.specs.Net.Addr.{octets_of, ipv4_octets, ipv6_segments, IsIpv4OfBits, IsIpv6OfBits}
use Rattle.std.specs.Net.Text.{ipv4_text, hex_groups_text}
use Rattle.std.specs.Net.Grammar.{IsDotted, IsIpv4Text, IsIpv6Text}
use Rattle.std.specs.Net.Grammar as Std
use Rattle.std.specs.Net.Reader.{Read, whole_value, read_ipv4, read_ipv6}
use Rattle.net_base.specs.declared.addr.Family.{Family}
use Rattle.net_base.specs.declared.addr.Family.TheVariants.{V4, V6}
use Rattle.net_base.specs.declared.addr.Addr.{Addr}
use Rattle.std.specs.Option.{option_or}
use Rattle.net_base.specs.Width.{width_of}
use Rattle.net_base.specs.Bits.{octets_of_bits, groups_of_bits}
use Rattle.net_base.specs.Addr.{IsColonHex, SpellsBits, IsAddrText, has_byte, read_v4, read_addr, bits_text, addr_text, SpellsOnly}
use Rattle.net_base.proofs.Bits.{from_be_bytes-octets_of_bits, octets_of_bits-small, octets_back, from_be_bytes-groups_of_bits, groups_of_bits-small, groups_back}
use Rattle.net_base.proofs.Equal.{same_addr}
use Rattle.net_base.proofs.Groups.{std_from_plain, plain_from_std, colon_hex_lacks, dotted_lacks, dotted_octets, colon_hex_groups, hex_lacks_dot}
use Rattle.net_base.proofs.Lacks.{Lacks}

-- ---- a whole text

whole_is : {A : Type 0} (r : Read A) (x : A) → whole_value r ≡ Some x → r ≡ Some (x, [])
whole_is None x e = absurd (none-some x e)
whole_is (Some p) x e =
    let (test, same) = cond_some _ _ _ e in
    let nothing : p.1 ≡ [] = empty p.1 ((Decides-eqb (length p.1) 0).0 test) in
    λ i. Some (same i, nothing i)
  where
    empty : (xs : List ℕ) → length xs ≡ 0 → xs ≡ []
    empty [] h = refl
    empty (x ∷ xs) h = absurd (omega arith)

pub none_unless : {A : Type 0} (o : Option A) → ((x : A) → ¬ (o ≡ Some x)) → o ≡ None
none_unless None h = refl
none_unless (Some x) h = absurd (h x refl)

or_some : {A : Type 0} (o p : Option A) (x : A) → option_or o p ≡ Some x → (o ≡ Some x) ⊎ (p ≡ Some x)
or_some None p x e = inr e
or_some (Some y) p x e = inl e

v4_sound : (text octets : List ℕ) → whole_value (read_ipv4 text) ≡ Some octets → IsDotted text octets
v4_sound text octets e =
    let (front, split, h) = read_ipv4_sound text octets [] (whole_is _ octets e) in
    subst (λ (t : List ℕ). IsDotted t octets) (sym (split ∙ append-nil front)) h

v6_sound : (text groups : List ℕ) → whole_value (read_ipv6 text) ≡ Some groups → Std.IsColonHex text groups
v6_sound text groups e =
    let (front, split, h) = read_ipv6_sound text groups [] (whole_is _ groups e) in
    subst (λ (t : List ℕ). Std.IsColonHex t groups) (sym (split ∙ append-nil front)) h

-- ---- the reader finds what a text spells

found_at : (f : Family) (n : ℕ) (fits : n < 2 ^ width_of f) (text : List ℕ) → SpellsBits f n text → read_addr text ≡ Some (record { family = f; bits = n; in_family = fits })
unfolding SpellsBits read_addr
found_at V4 n fits text h =
    let read : read_ipv4 text ≡ Some (octets_of_bits n, []) = ap read_ipv4 (sym (append-nil text)) ∙ read_ipv4_complete text (octets_of_bits n) [] h (lit≤ tt) in
    let back = from_be_bytes-octets_of_bits n fits in
    let bits : from_be_bytes w32 (octets_of_bits n) % 2 ^ 32 ≡ n = ap (λ m. m % 2 ^ 32) back ∙ mod-eq_of_lt fits in
    rw read (ap Some (same_addr _ _ refl bits))
found_at V6 n fits text h =
    let groups = groups_of_bits n in
    let std = std_from_plain text groups h in
    let not_v4 : whole_value (read_ipv4 text) ≡ None = none_unless _ (λ octets e. IsDotted-not_colon_hex text octets groups (v4_sound text octets e) std) in
    let no_dot = (colon_hex_lacks 46 (lit≤ tt) (omega arith) text groups h).lacks in
    let read : read_ipv6 text ≡ Some (groups, []) = ap read_ipv6 (sym (append-nil text)) ∙ read_ipv6_complete text groups [] std EndsGroups-nil in
    let back = from_be_bytes-groups_of_bits n fits in
    let bits : from_be_bytes w128 (octets_of groups) % 2 ^ 128 ≡ n = ap (λ m. m % 2 ^ 128) back ∙ mod-eq_of_lt fits in
    rw (not_v4, no_dot, read) (ap Some (same_addr _ _ refl bits))

pub read_addr_complete : (text : List ℕ) (a : Addr) → IsAddrText text a → read_addr text ≡ Some a
read_addr_complete text a h = found_at a.family a.bits a.in_family text h

pub read_addr_sound : (text : List ℕ) (a : Addr) → read_addr text ≡ Some a → IsAddrText text a
unfolding SpellsBits read_addr
read_addr_sound text a e = elim (or_some (read_v4 text) _ a e) [
  | inl v4 ↦ map_some _ (whole_value (read_ipv4 text)) a v4 λ octets read is.
      let h = v4_sound text octets read in
      let (four, small) = dotted_octets text octets h in
      let back = octets_back octets four small in
      subst (IsAddrText text) is (subst (IsDotted text) (sym back) h)
  | inr v6 ↦
      let (no_dot, some) = cond_none _ _ a v6 in
      map_some _ (whole_value (read_ipv6 text)) a some λ groups read is.
      let h = plain_from_std text groups (v6_sound text groups read) (record { lacks = no_dot }) in
      let (eight, small) = colon_hex_groups text groups h in
      let back = groups_back groups eight small in
      subst (IsAddrText text) is (subst (IsColonHex text) (sym back) h)
]

pub IsAddrText_unique : (text : List ℕ) (a b : Addr) → IsAddrText text a → IsAddrText text b → a ≡ b
IsAddrText_unique text a b h k =
    same_Some a b (sym (read_addr_complete text a h) ∙ read_addr_complete text b k)

-- ---- what is printed

printed_at : (f : Family) (n : ℕ) → SpellsBits f n (bits_text f n)
unfolding SpellsBits bits_text
printed_at V4 n = let (four, small) = octets_of_bits-small n in IsDotted-ipv4_text _ four small
printed_at V6 n =
    let (eight, small) = groups_of_bits-small n in
    let groups = groups_of_bits n in
    plain_from_std _ groups (IsColonHex-hex_groups_text groups eight small) (hex_lacks_dot _ (All-hex_groups_text groups small))

pub addr_text-spells_only : (a : Addr) → SpellsOnly IsAddrText (addr_text a) a
addr_text-spells_only a =
    let h = printed_at a.family a.bits in
    (h, λ b k. IsAddrText_unique _ b a k h)

-- the text of an address has no slash
lacks_slash_at : (f : Family) (n : ℕ) (text : List ℕ) → SpellsBits f n text → Lacks 47 text
unfolding SpellsBits
lacks_slash_at V4 n text h = dotted_lacks 47 text _ h (lit≤ tt) (omega arith)
lacks_slash_at V6 n text h = colon_hex_lacks 47 (lit≤ tt) (omega arith) text _ h

pub addr_lacks_slash : (text : List ℕ) (a : Addr) → IsAddrText text a → Lacks 47 text
addr_lacks_slash text a h = lacks_slash_at a.family a.bits text h

-- ---- what std's readers and printers say

pub spells_v4 : (text : List ℕ) (ip : Ipv4Addr) (a : Addr) → IsIpv4Text text ip → (a.family ≡ V4) × (octets_of_bits a.bits ≡ ipv4_octets ip) → IsAddrText text a
unfolding SpellsBits
spells_v4 text ip a h from =
    subst (λ (f : Family). SpellsBits f a.bits text) (sym from.0) (subst (IsDotted text) (sym from.1) h)

pub spells_v6 : (text : List ℕ) (ip : Ipv6Addr) (a : Addr) → IsIpv6Text text ip → (a.family ≡ V6) × (groups_of_bits a.bits ≡ ipv6_segments ip) → has_byte 46 text ≡ false → IsAddrText text a
unfolding SpellsBits
spells_v6 text ip a h from no_dot =
    let plain = plain_from_std text (ipv6_segments ip) h (record { lacks = no_dot }) in
    subst (λ (f : Family). SpellsBits f a.bits text) (sym from.0) (subst (IsColonHex text) (sym from.1) plain)

spells_none_at : (f : Family) (n : ℕ) (text : List ℕ) → ((ip : Ipv4Addr) → ¬ (IsIpv4Text text ip)) → (has_byte 46 text ≡ false → (ip : Ipv6Addr) → ¬ (IsIpv6Text text ip)) → ¬ (SpellsBits f n text)
unfolding SpellsBits
spells_none_at V4 n text no_v4 no_v6 h = no_v4 (record { octets = octets_of_bits n }) h
spells_none_at V6 n text no_v4 no_v6 h =
    no_v6 (colon_hex_lacks 46 (lit≤ tt) (omega arith) text _ h).lacks (record { segments = groups_of_bits n }) (std_from_plain text _ h)

pub spells_none : (text : List ℕ) → ((ip : Ipv4Addr) → ¬ (IsIpv4Text text ip)) → (has_byte 46 text ≡ false → (ip : Ipv6Addr) → ¬ (IsIpv6Text text ip)) → (a : Addr) → ¬ (IsAddrText text a)
spells_none text no_v4 no_v6 a h = spells_none_at a.family a.bits text no_v4 no_v6 h

pub read_addr_none : (text : List ℕ) → ((a : Addr) → ¬ (IsAddrText text a)) → None ≡ read_addr text
read_addr_none text none = sym (none_unless (read_addr text) (λ a e. none a (read_addr_sound text a e)))

pub shown_v4 : (a : Addr) (ip : Ipv4Addr) → a.family ≡ V4 → IsIpv4OfBits ip a.bits → addr_text a ≡ ipv4_text (ipv4_octets ip)
unfolding bits_text octets_of_bits IsIpv4OfBits
shown_v4 a ip f h = ap (λ (g : Family). bits_text g a.bits) f ∙ ap ipv4_text (sym h)

pub shown_v6 : (a : Addr) (ip : Ipv6Addr) → a.family ≡ V6 → IsIpv6OfBits ip a.bits → addr_text a ≡ hex_groups_text (ipv6_segments ip)
unfolding bits_text groups_of_bits IsIpv6OfBits
shown_v6 a ip f h = ap (λ (g : Family). bits_text g a.bits) f ∙ ap hex_groups_text (sym h)
