-- Each item of a field takes bytes.
use Rattle.std.proofs.Common.{◌≡◌, ℕ, ◌+◌, ◌*◌, ◌/◌, ◌<◌, ◌≤◌, lit<, Bool, true, false, cond, List, length, take, drop, Some, None, refl, arith, length-drop}
use Rattle.std.specs.Prelude.{nat_lt}
use Rattle.std.proofs.lemmas.Option.{none-some, option_and_then_some}
use Rattle.std.proofs.lemmas.Bool.Decides.{nat_tests}
use Rattle.byteorder.specs.Endian.{big_number}
use Rattle.wire_buf.specs.Field.{number_at, bytes_at}
use Rattle.attr_codec.specs.Field.{length_size, attribute_at}
use Rattle.net_base.specs.declared.addr.Family.{Family}
use Rattle.net_base.specs.Width.{width_of}
use Rattle.net_base.specs.Bits.{prefix_of}
use Rattle.attr_codec.specs.Prefixes.{addr_with, prefix_at}
use Rattle.attr_codec.specs.Large.{large_at}
use Rattle.attr_codec.specs.Path.{as_size, numbers_in, segment_of, segment_parts_at, segment_at}
use Rattle.attr_codec.proofs.Cutting.{TakesBytes}

pub guarded : {A : Type 0} (b : Bool) (y x : A) → cond b None (Some y) ≡ Some x → (b ≡ false) × (y ≡ x)
guarded true y x e = absurd (none-some x e)
guarded false y x e = (refl, cc)

-- what a field of n bytes leaves, where one is there
pub number_leaves : (n : ℕ) (bytes : List ℕ) (x : ℕ × List ℕ) → number_at n bytes ≡ Some x → length x.1 + n ≡ length bytes
number_leaves n bytes x e =
    let g = guarded (nat_lt (length bytes) n) (big_number n bytes, drop n bytes) x e in
    let enough_bytes : n ≤ length bytes = grind (arith, nat_tests, g.0) in
    rw (← g.1) (simp length-drop (omega arith))

pub bytes_leave : (n : ℕ) (bytes : List ℕ) (x : List ℕ × List ℕ) → bytes_at n bytes ≡ Some x → length x.1 + n ≡ length bytes
bytes_leave n bytes x e =
    let g = guarded (nat_lt (length bytes) n) (take n bytes, drop n bytes) x e in
    let enough_bytes : n ≤ length bytes = grind (arith, nat_tests, g.0) in
    rw (← g.1) (simp length-drop (omega arith))

pub attribute_takes : TakesBytes attribute_at
unfolding attribute_at
attribute_takes bytes e h =
    option_and_then_some _ (number_at 1 bytes) e h (λ flags hf h1.
    option_and_then_some _ (number_at 1 flags.1) e h1 (λ kind hk h2.
    option_and_then_some _ (number_at (length_size flags.0) kind.1) e h2 (λ size hs h3.
    option_and_then_some _ (bytes_at size.0 size.1) e h3 (λ value hv h4.
    let a = number_leaves 1 bytes flags hf in
    let b = number_leaves 1 flags.1 kind hk in
    let c = number_leaves (length_size flags.0) kind.1 size hs in
    let d = bytes_leave size.0 size.1 value hv in
    let p : (record { flags = flags.0; kind = kind.0; value = value.0 }, value.1) ≡ e = cc in
    rw (← p) (omega arith)))))

pub number_takes : (size : ℕ) → 0 < size → TakesBytes (number_at size)
number_takes size some bytes found e = let a = number_leaves size bytes found e in omega arith

pub as_takes : (as4 : Bool) → TakesBytes (number_at (as_size as4))
as_takes true = number_takes 4 (lit< tt)
as_takes false = number_takes 2 (lit< tt)

pub segment_takes : (as4 : Bool) → TakesBytes (segment_at as4)
unfolding segment_at segment_parts_at
segment_takes as4 bytes e h =
    option_and_then_some _ (segment_parts_at as4 bytes) e h (λ parts hp h1.
    option_and_then_some _ (segment_of parts.0.0 (numbers_in (as_size as4) parts.0.1)) e h1 (λ segment hs h2.
    option_and_then_some _ (number_at 1 bytes) parts hp (λ kind hk h3.
    option_and_then_some _ (number_at 1 kind.1) parts h3 (λ count hc h4.
    option_and_then_some _ (bytes_at (count.0 * as_size as4) count.1) parts h4 (λ numbers hn h5.
    let a = number_leaves 1 bytes kind hk in
    let b = number_leaves 1 kind.1 count hc in
    let d = bytes_leave (count.0 * as_size as4) count.1 numbers hn in
    let p : ((kind.0, numbers.0), numbers.1) ≡ parts = cc in
    let q : (segment, parts.1) ≡ e = cc in
    rw (← q, ← p) (omega arith))))))

pub large_takes : TakesBytes large_at
unfolding large_at
large_takes bytes e h =
    option_and_then_some _ (number_at 4 bytes) e h (λ administrator ha h1.
    option_and_then_some _ (number_at 4 administrator.1) e h1 (λ first hf h2.
    option_and_then_some _ (number_at 4 first.1) e h2 (λ second hs h3.
    let a = number_leaves 4 bytes administrator ha in
    let b = number_leaves 4 administrator.1 first hf in
    let d = number_leaves 4 first.1 second hs in
    let p : ((administrator.0, first.0, second.0), second.1) ≡ e = cc in
    rw (← p) (omega arith))))

pub prefix_takes : (family : Family) → TakesBytes (prefix_at family)
unfolding prefix_at
prefix_takes family bytes e h =
    option_and_then_some _ (number_at 1 bytes) e h (λ len hl h1.
    option_and_then_some _ (cond (nat_lt (width_of family) len.0) None (Some ((len.0 + 7) / 8))) e h1 (λ size hs h2.
    option_and_then_some _ (bytes_at size len.1) e h2 (λ octets ho h3.
    let a = number_leaves 1 bytes len hl in
    let b = bytes_leave size len.1 octets ho in
    let p : (prefix_of (addr_with family octets.0) len.0, octets.1) ≡ e = cc in
    rw (← p) (omega arith))))
