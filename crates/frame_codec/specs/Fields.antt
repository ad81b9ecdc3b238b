-- The fields of a payload (big-endian numbers, addresses, prefixes), each put behind the one before.
use Rattle.std.specs.Prelude.{◌≡◌, ℕ, zero, suc, ◌+◌, ◌/◌, ◌==◌, nat_lt, if◌then◌else◌, Bool, true, false, List, [], ◌∷◌, ◌++◌, length, flat_map, Option, Some, None, Result, Ok, Err}
use Rattle.byteorder.specs.Endian.{big_bytes}
use Rattle.wire_buf.specs.Field.{◌>>=◌, number_at, bytes_at}
use Rattle.net_base.specs.declared.addr.Family.{Family}
use Rattle.net_base.specs.declared.addr.Family.TheVariants.{V4, V6}
use Rattle.net_base.specs.declared.addr.Addr.{Addr}
use Rattle.net_base.specs.declared.prefix.Prefix.{Prefix}
use Rattle.net_base.specs.Width.{width_of}
use Rattle.net_base.specs.Bits.{addr_of, prefix_of}
use Rattle.frame_codec.specs.declared.fault.FrameFault.{FrameFault}
use Rattle.frame_codec.specs.declared.fault.FrameFault.TheVariants as faults
use Rattle.attr_codec.specs.Prefixes.{octet_count, addr_with, prefix_bytes}

-- A read by a field of a cursor over the bytes `old` leaves the bytes `new`. It is a bad frame exactly where the field gives
-- nothing; want of memory is the one free answer.
abbrev pub ReadsField : {X : Type 0} → (List ℕ → Option (X × List ℕ)) → List ℕ → List ℕ → Result X FrameFault → Type 0
ReadsField field old new (Ok x) = field old ≡ Some (x, new)
ReadsField field old new (Err faults.BadFrame) = field old ≡ None
ReadsField field old new (Err faults.NoMemory) = Unit {0}

-- Two fields one behind the other.
abbrev pub both : {X Y : Type 0} → (List ℕ → Option (X × List ℕ)) → (List ℕ → Option (Y × List ℕ)) → List ℕ → Option ((X × Y) × List ℕ)
both one other bytes = do
  x ← one bytes
  y ← other x.1
  Some ((x.0, y.0), y.1)

-- A field that is all of the bytes.
abbrev pub whole : {X : Type 0} → (List ℕ → Option (X × List ℕ)) → List ℕ → Option X
whole field bytes = do
  x ← field bytes
  if length x.1 == 0 then Some x.0 else None

-- The value of a field, made into another.
abbrev pub mapped : {X Y : Type 0} → (X → Y) → (List ℕ → Option (X × List ℕ)) → List ℕ → Option (Y × List ℕ)
mapped made field bytes = do
  x ← field bytes
  Some (made x.0, x.1)

-- A truth value is a byte 0 or 1.
abbrev pub truth_byte : Bool → List ℕ
truth_byte false = 0 ∷ []
truth_byte true = 1 ∷ []

abbrev pub truth_at : List ℕ → Option (Bool × List ℕ)
truth_at bytes = do
  code ← number_at 1 bytes
  if code.0 == 0 then Some (false, code.1) else if code.0 == 1 then Some (true, code.1) else None

-- A family is a byte 1 or 2.
abbrev pub family_byte : Family → List ℕ
family_byte V4 = 1 ∷ []
family_byte V6 = 2 ∷ []

abbrev pub family_at : List ℕ → Option (Family × List ℕ)
family_at bytes = do
  code ← number_at 1 bytes
  if code.0 == 1 then Some (V4, code.1) else if code.0 == 2 then Some (V6, code.1) else None

-- An address: its family, then its octets.
abbrev pub addr_bytes : Addr → List ℕ
addr_bytes addr = family_byte addr.family ++ big_bytes (octet_count addr.family) addr.bits

unfoldable pub addr_at : List ℕ → Option (Addr × List ℕ)
addr_at bytes = do
  family ← family_at bytes
  bits ← number_at (octet_count family.0) family.1
  Some (addr_of family.0 bits.0, bits.1)

-- The prefix, if no bit behind its length is set.
abbrev pub exactly : Addr → ℕ → Option Prefix
exactly addr len = if (prefix_of addr len).bits == addr.bits then Some (prefix_of addr len) else None

unfoldable pub exact_prefix_at : Family → List ℕ → Option (Prefix × List ℕ)
exact_prefix_at family bytes = do
  len ← number_at 1 bytes
  size ← (if nat_lt (width_of family) len.0 then None else Some ((len.0 + 7) / 8))
  octets ← bytes_at size len.1
  prefix ← exactly (addr_with family octets.0) len.0
  Some (prefix, octets.1)

-- So many items, one behind the other.
unfoldable pub items_at : {X : Type 0} → (List ℕ → Option (X × List ℕ)) → ℕ → List ℕ → Option (List X × List ℕ)
items_at item zero bytes = Some ([], bytes)
items_at item (suc n) bytes = do
  first ← item bytes
  others ← items_at item n first.1
  Some (first.0 ∷ others.0, others.1)

-- How many prefixes there are, in two bytes, and the prefixes.
abbrev pub prefixes_bytes : List Prefix → List ℕ
prefixes_bytes prefixes = big_bytes 2 (length prefixes) ++ flat_map prefix_bytes prefixes

unfoldable pub prefixes_at : Family → List ℕ → Option (List Prefix × List ℕ)
prefixes_at family bytes = do
  count ← number_at 2 bytes
  items_at (exact_prefix_at family) count.0 count.1
