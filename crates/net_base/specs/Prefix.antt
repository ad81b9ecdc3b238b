-- What a prefix covers, the texts that spell it, and the one that is printed.
use Rattle.std.specs.Prelude.{◌≡◌, ℕ, ◌+◌, ◌≤◌, Bool, ◌&&◌, List, ◌++◌, take, drop, codes, decimal, Option, None, Some, option_and_then, position, ◌==◌, nat_le, if◌then◌else◌}
use Rattle.net_base.specs.declared.addr.Addr.{Addr}
use Rattle.net_base.specs.declared.prefix.Prefix.{Prefix}
use Rattle.net_base.specs.Width.{width_of}
use Rattle.net_base.specs.Bits.{first_bits, prefix_of}
use Rattle.net_base.specs.Addr.{IsAddrText, bits_text, read_addr}
use Rattle.net_base.specs.Number.{number_of}
use Rattle.net_base.specs.Order.{same_family}

-- the same family, not longer, and the same first bits: an address counts as its prefix of full length
pub record Covers (outer inner : Prefix) : Type 0 where
  pub same_family : outer.family ≡ inner.family
  pub not_longer : outer.len ≤ inner.len
  pub same_front : first_bits outer.family outer.len outer.bits ≡ first_bits outer.family outer.len inner.bits

-- the test of `Covers`
unfoldable pub covers : Prefix → Prefix → Bool
covers outer inner =
    same_family outer.family inner.family && nat_le outer.len inner.len
    && (first_bits outer.family outer.len outer.bits == first_bits outer.family outer.len inner.bits)

-- an address, a slash and a length within the width; the bits of the address behind the length are cleared
pub record IsPrefixText (text : List ℕ) (p : Prefix) : Type 0 where
  pub front : List ℕ
  pub addr : Addr
  pub spelled : text ≡ front ++ (codes "/" ++ decimal p.len)
  pub front_text : IsAddrText front addr
  pub value : p ≡ prefix_of addr p.len

-- the text that is printed of a prefix
unfoldable pub prefix_text : Prefix → List ℕ
prefix_text p = bits_text p.family p.bits ++ (codes "/" ++ decimal p.len)

-- ---- a reader of these texts: what `IsPrefixText` finds, computed

infixl 10 ◌>>=◌
abbrev ◌>>=◌ : {A B : Type 0} → Option A → (A → Option B) → Option B
o >>= f = option_and_then f o

-- the prefix of an address, if it has such a length
abbrev pub prefix_if : Addr → ℕ → Option Prefix
prefix_if addr len = if nat_le len (width_of addr.family) then Some (prefix_of addr len) else None

-- the prefix of the texts of an address and of a length
unfoldable pub prefix_from : List ℕ → List ℕ → Option Prefix
prefix_from front rest = do
  addr ← read_addr front
  len ← number_of rest
  prefix_if addr len

-- the prefix that the text spells, if it spells one
unfoldable pub read_prefix : List ℕ → Option Prefix
read_prefix text = do
  slash ← position (λ c. c == 47) text
  prefix_from (take slash text) (drop (slash + 1) text)
