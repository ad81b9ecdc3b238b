-- Parts of bytes are bytes.
use Rattle.std.proofs.Common.{◌≡◌, ℕ, ◌+◌, ◌≤◌, ◌<◌, Bool, true, false, List, length, take, drop, get_or, Some, refl, arith, lit<, length-take, get_or-drop}
use Rattle.std.specs.Prelude.{nat_lt}
use Rattle.std.proofs.lemmas.List.{get_or-take, get_or_past}
use Rattle.std.proofs.lemmas.Bool.{ltb-true, ltb-false}
use Rattle.byteorder.specs.Endian.{big_number}
use Rattle.wire_buf.specs.Field.{number_at, bytes_at}
use Rattle.bgp_wire.specs.Message.{AreBytes}
use Rattle.attr_codec.proofs.Fields.{guarded}

pub bytes_behind : (n : ℕ) (bytes : List ℕ) → AreBytes bytes → AreBytes (drop n bytes)
bytes_behind n bytes are i = rw (get_or-drop n bytes i 0) (are (n + i))

front_by : (n : ℕ) (bytes : List ℕ) (i : ℕ) → AreBytes bytes → (b : Bool) → nat_lt i n ≡ b → get_or (take n bytes) i 0 < 256
front_by n bytes i are true e = rw (get_or-take n bytes i 0 (ltb-true i n e)) (are i)
front_by n bytes i are false e =
    let past : n ≤ i = ltb-false i n e in
    let short : length (take n bytes) ≤ i = omega (arith, length-take n bytes) in
    rw (get_or_past (take n bytes) i 0 short) (lit< tt)

pub bytes_front : (n : ℕ) (bytes : List ℕ) → AreBytes bytes → AreBytes (take n bytes)
bytes_front n bytes are i = front_by n bytes i are (nat_lt i n) refl

-- what stands behind a number
pub number_rest : (n : ℕ) (bytes : List ℕ) (x : ℕ × List ℕ) → AreBytes bytes → number_at n bytes ≡ Some x → AreBytes x.1
number_rest n bytes x are e =
    let g = guarded (nat_lt (length bytes) n) (big_number n bytes, drop n bytes) x e in
    rw (← g.1) (bytes_behind n bytes are)

-- a field, and what stands behind it
pub field_parts : (n : ℕ) (bytes : List ℕ) (x : List ℕ × List ℕ) → AreBytes bytes → bytes_at n bytes ≡ Some x → AreBytes x.0 × AreBytes x.1
field_parts n bytes x are e =
    let g = guarded (nat_lt (length bytes) n) (take n bytes, drop n bytes) x e in
    rw (← g.1) (bytes_front n bytes are, bytes_behind n bytes are)
