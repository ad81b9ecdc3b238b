-- The smaller parts of frames as fields.
use Rattle.std.proofs.Common.{◌≡◌, ◌∙◌, ℕ, zero, suc, ◌≤◌, Bool, true, false, List, ◌∷◌, ◌++◌, length, Some, refl, ap, sym, arith, append_assoc}
use Rattle.std.specs.Prelude.{nat_lt, nat_eq, flat_map}
use Rattle.std.proofs.lemmas.Bool.Decides.{nat_tests}
use Rattle.std.proofs.lemmas.Option.{option_and_then_some}
use Rattle.byteorder.specs.Endian.{big_bytes}
use Rattle.wire_buf.specs.Field.{number_at}
use Rattle.wire_buf.specs.Written.{number_at-written}
use Rattle.net_base.specs.declared.addr.Family.{Family}
use Rattle.attr_codec.specs.Prefixes.{prefix_bytes, IsOf}
use Rattle.core_msgs.specs.declared.frame.Agreed.{Agreed}
use Rattle.frame_codec.specs.Fields.{family_byte, family_at, exact_prefix_at, prefixes_bytes, prefixes_at}
use Rattle.frame_codec.specs.Grammar.{IsNumber, agreed_bits, agreed_of, agreed_bytes, agreed_at, placed_bytes, placed_at, some_at, ArePrefixes}
use Rattle.frame_codec.proofs.Fields.{IsField, number_field, bytes_rest, unless}
use Rattle.frame_codec.proofs.Places.{byte_there, byte_first, family_field, prefix_field, items_there, items_only}

-- prefixes with their count
pub prefixes_field : (family : Family) → IsField prefixes_bytes (prefixes_at family) (ArePrefixes family)
unfolding prefixes_at
prefixes_field family = record {
  there = λ xs rest h.
      rw (
        append_assoc (big_bytes 2 (length xs)) (flat_map prefix_bytes xs) rest,
        number_at-written 2 (length xs) (flat_map prefix_bytes xs ++ rest) h.1,
      ) (items_there prefix_bytes (exact_prefix_at family) (IsOf family) (prefix_field family) xs rest h.0);
  only = λ bytes x are e.
      option_and_then_some _ (number_at 2 bytes) x e (λ count hc h1.
      let first = (number_field 2).only bytes count are hc in
      let items = items_only prefix_bytes (exact_prefix_at family) (IsOf family) (prefix_field family) count.0 count.1 x (bytes_rest bytes (big_bytes 2 count.0) count.1 are first.0) h1 in (
        first.0 ∙ ap (λ (y : List ℕ). big_bytes 2 count.0 ++ y) items.0 ∙ sym (append_assoc (big_bytes 2 count.0) (flat_map prefix_bytes x.0) x.1)
            ∙ ap (λ (n : ℕ). (big_bytes 2 n ++ flat_map prefix_bytes x.0) ++ x.1) (sym items.1.0),
        (items.1.1, rw items.1.0 first.1),
      ));
}

-- a prefix of either family
pub placed_field : IsField placed_bytes placed_at (λ p. Unit {0})
unfolding placed_at
placed_field = record {
  there = λ p rest h.
      rw (
        append_assoc (family_byte p.family) (prefix_bytes p) rest,
        family_field.there p.family (prefix_bytes p ++ rest) tt,
      ) ((prefix_field p.family).there p rest refl);
  only = λ bytes x are e.
      option_and_then_some _ (family_at bytes) x e (λ f hf h1.
      let first = family_field.only bytes f are hf in
      let prefix = (prefix_field f.0).only f.1 x (bytes_rest bytes (family_byte f.0) f.1 are first.0) h1 in (
        first.0 ∙ ap (λ (y : List ℕ). family_byte f.0 ++ y) prefix.0 ∙ sym (append_assoc (family_byte f.0) (prefix_bytes x.0) x.1)
            ∙ ap (λ (g : Family). (family_byte g ++ prefix_bytes x.0) ++ x.1) (sym prefix.1),
        tt,
      ));
}

-- a number of at least 1
pub some_field : IsField (big_bytes 4) some_at (λ x. IsNumber 4 x × (1 ≤ x))
unfolding some_at
some_field = record {
  there = λ x rest h.
      let low : 1 ≤ x = h.1 in
      let t : nat_eq x 0 ≡ false = grind (arith, nat_tests) in
      rw (number_at-written 4 x rest h.0, t) refl;
  only = λ bytes x are e.
      option_and_then_some _ (number_at 4 bytes) x e (λ n hn h1.
      let first = (number_field 4).only bytes n are hn in
      let kept = unless (nat_eq n.0 0) n x h1 in
      let low : 1 ≤ n.0 = grind (arith, nat_tests, kept.0) in
      rw (← kept.1) (first.0, (first.1, low)));
}

-- four truth values as bits
bits_back : (a b c d : Bool) → (agreed_of (agreed_bits (record { v4 = a; v6 = b; as4 = c; refresh = d })) ≡ record { v4 = a; v6 = b; as4 = c; refresh = d }) × (nat_lt 15 (agreed_bits (record { v4 = a; v6 = b; as4 = c; refresh = d })) ≡ false)
bits_back false false false false = (refl, refl)
bits_back true false false false = (refl, refl)
bits_back false true false false = (refl, refl)
bits_back true true false false = (refl, refl)
bits_back false false true false = (refl, refl)
bits_back true false true false = (refl, refl)
bits_back false true true false = (refl, refl)
bits_back true true true false = (refl, refl)
bits_back false false false true = (refl, refl)
bits_back true false false true = (refl, refl)
bits_back false true false true = (refl, refl)
bits_back true true false true = (refl, refl)
bits_back false false true true = (refl, refl)
bits_back true false true true = (refl, refl)
bits_back false true true true = (refl, refl)
bits_back true true true true = (refl, refl)

byte_back : (n : ℕ) → n ≤ 15 → agreed_bits (agreed_of n) ≡ n
byte_back zero h = refl
byte_back (suc zero) h = refl
byte_back (suc (suc zero)) h = refl
byte_back (suc (suc (suc zero))) h = refl
byte_back (suc (suc (suc (suc zero)))) h = refl
byte_back (suc (suc (suc (suc (suc zero))))) h = refl
byte_back (suc (suc (suc (suc (suc (suc zero)))))) h = refl
byte_back (suc (suc (suc (suc (suc (suc (suc zero))))))) h = refl
byte_back (suc (suc (suc (suc (suc (suc (suc (suc zero)))))))) h = refl
byte_back (suc (suc (suc (suc (suc (suc (suc (suc (suc zero))))))))) h = refl
byte_back (suc (suc (suc (suc (suc (suc (suc (suc (suc (suc zero)))))))))) h = refl
byte_back (suc (suc (suc (suc (suc (suc (suc (suc (suc (suc (suc zero))))))))))) h = refl
byte_back (suc (suc (suc (suc (suc (suc (suc (suc (suc (suc (suc (suc zero)))))))))))) h = refl
byte_back (suc (suc (suc (suc (suc (suc (suc (suc (suc (suc (suc (suc (suc zero))))))))))))) h = refl
byte_back (suc (suc (suc (suc (suc (suc (suc (suc (suc (suc (suc (suc (suc (suc zero)))))))))))))) h = refl
byte_back (suc (suc (suc (suc (suc (suc (suc (suc (suc (suc (suc (suc (suc (suc (suc zero))))))))))))))) h = refl
byte_back (suc (suc (suc (suc (suc (suc (suc (suc (suc (suc (suc (suc (suc (suc (suc (suc n)))))))))))))))) h = absurd (omega arith)

pub agreed_field : IsField agreed_bytes agreed_at (λ a. Unit {0})
agreed_field = record {
  there = λ a rest h.
      let back = bits_back a.v4 a.v6 a.as4 a.refresh in
      rw (byte_there (agreed_bits a) rest, back.1) (ap (λ (x : Agreed). Some (x, rest)) back.0);
  only = λ bytes x are e.
      option_and_then_some _ (number_at 1 bytes) x e (λ code hc h1.
      let front = byte_first bytes code hc in
      let kept = unless (nat_lt 15 code.0) (agreed_of code.0, code.1) x h1 in
      let low : code.0 ≤ 15 = grind (arith, nat_tests, kept.0) in
      rw (← kept.1) (front ∙ ap (λ (n : ℕ). n ∷ code.1) (sym (byte_back code.0 low)), tt));
}
