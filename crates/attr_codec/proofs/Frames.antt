-- What a frame carries is read back, and nothing else is read.
use Rattle.std.proofs.Common.{◌≡◌, ◌∙◌, ℕ, ◌≤◌, Bool, true, false, cond, List, length, Option, Some, None, Ok, Err, Result, refl, ap, sym, subst, arith}
use Rattle.std.specs.Prelude.{nat_lt, nat_eq, IfOk, IfSome, option_map, option_and_then}
use Rattle.std.specs.Cmp.Lexicographic.{pointwise}
use Rattle.std.specs.Cmp.Lexicographic.{pointwise_decides}
use Rattle.std.proofs.lemmas.Bool.Decides.{Decides-eqb}
use Rattle.net_base.specs.declared.addr.Family.TheVariants.{V6}
use Rattle.net_base.specs.declared.addr.Addr.{Addr}
use Rattle.net_base.specs.Bits.{addr_of}
use Rattle.bgp_wire.specs.Message.{AreBytes}
use Rattle.attr_model.specs.declared.attrs.Attrs.{Attrs}
use Rattle.attr_model.specs.Valid.{IsValid}
use Rattle.attr_codec.specs.declared.outcome.ReadAttrs.{ReadAttrs}
use Rattle.attr_codec.specs.Width.{HaveWidth}
use Rattle.attr_codec.specs.Written.{attrs_bytes, HaveShortValues}
use Rattle.attr_codec.specs.Read.{field_says}
use Rattle.attr_codec.specs.ReadBack.{IsSent}
use Rattle.attr_codec.specs.Frame.{inner, without_hop, frame_attrs_bytes, attrs_beside, placed, if_written, IsFramed, frame_attrs_of, IsFrameOf}
use Rattle.attr_codec.proofs.Shorts.{short_values}
use Rattle.attr_codec.proofs.FieldSays.{bare_back}
use Rattle.attr_codec.proofs.ReadValid.{field_valid}

-- valid attributes stay so without their hop and weight
without_valid : (attrs : Attrs) (hop : Addr) (weight : ℕ) → IsValid attrs → IsValid (record attrs { hop = hop; weight = weight })
without_valid attrs hop weight is = record {
  origin = is.origin;
  path = is.path;
  communities = is.communities;
  large = is.large;
  unknown = is.unknown;
  unknown_types = is.unknown_types;
  «partial» = record { below = is.«partial».below; aggregator = is.«partial».aggregator; communities = is.«partial».communities; large = is.«partial».large };
}

without_width : (attrs : Attrs) (hop : Addr) (weight : ℕ) → HaveWidth attrs → HaveWidth (record attrs { hop = hop; weight = weight })
without_width attrs hop weight has = record {
  path = has.path;
  med = has.med;
  local_pref = has.local_pref;
  aggregator = has.aggregator;
  communities = has.communities;
  large = has.large;
  unknown = has.unknown;
}

is_sent : (attrs : Attrs) → IsFramed attrs → IsSent inner (record attrs { hop = addr_of V6 0; weight = 0 })
unfolding attrs_bytes
is_sent attrs is = record {
  valid = without_valid attrs (addr_of V6 0) 0 is.valid;
  short = short_values inner (record attrs { hop = addr_of V6 0; weight = 0 }) is.valid.unknown_types is.short;
  width = without_width attrs (addr_of V6 0) 0 is.width;
  weight = refl;
  local_pref = λ e. absurd cc;
}

same_bytes : (bytes : List ℕ) → pointwise nat_eq bytes bytes ≡ true
same_bytes bytes = (pointwise_decides Decides-eqb bytes bytes).1 refl

pub frame_back : (attrs : Attrs) → IsFramed attrs → frame_attrs_of attrs.hop attrs.weight (frame_attrs_bytes attrs) ≡ Some attrs
unfolding frame_attrs_of attrs_bytes
frame_back attrs is =
    let says = bare_back inner (record attrs { hop = addr_of V6 0; weight = 0 }) (is_sent attrs is) refl in
    let fits : nat_lt 65535 (length (frame_attrs_bytes attrs)) ≡ false = grind (arith, is.short) in
    let same = same_bytes (frame_attrs_bytes attrs) in
    rw (fits, says, same) refl

-- no value is too long
pub framed_short : (attrs : Attrs) → IsValid attrs → length (frame_attrs_bytes attrs) ≤ 65535 → HaveShortValues inner attrs
framed_short attrs is short =
    let s = short_values inner (without_hop attrs) is.unknown_types short in
    record { path = s.path; as4_path = s.as4_path; communities = s.communities; large = s.large; unknown = s.unknown }

-- ---- nothing else

-- what is read stays valid with another hop
pub beside_valid : (hop : Addr) (weight : ℕ) (said : ReadAttrs) (r : Result ReadAttrs ℕ) → r ≡ Ok said → IfOk r (λ said. IfSome said.attrs IsValid) → IfSome (attrs_beside hop weight (Ok said)) IsValid
beside_valid hop weight said r e valid = by said.attrs (subst (λ (r : Result ReadAttrs ℕ). IfOk r (λ said. IfSome said.attrs IsValid)) e valid)
  where
    by : (o : Option Attrs) → IfSome o IsValid → IfSome (option_map (placed hop weight) o) IsValid
    by None valid = tt
    by (Some attrs) valid = without_valid attrs hop weight valid

written_only : (bytes : List ℕ) (attrs found : Attrs) → if_written bytes attrs ≡ Some found → (attrs ≡ found) × (bytes ≡ frame_attrs_bytes found)
written_only bytes attrs found e = by (pointwise nat_eq bytes (frame_attrs_bytes attrs)) refl e
  where
    by : (b : Bool) → pointwise nat_eq bytes (frame_attrs_bytes attrs) ≡ b → cond b (Some attrs) None ≡ Some found → (attrs ≡ found) × (bytes ≡ frame_attrs_bytes found)
    by true same e =
        let one : attrs ≡ found = cc in
        (one, (pointwise_decides Decides-eqb bytes (frame_attrs_bytes attrs)).0 same ∙ ap frame_attrs_bytes one)
    by false same e = absurd cc

beside_only : (hop : Addr) (weight : ℕ) (bytes : List ℕ) (r : Result ReadAttrs ℕ) (found : Attrs) → IfOk r (λ said. IfSome said.attrs IsValid)
    → option_and_then (if_written bytes) (attrs_beside hop weight r) ≡ Some found → length bytes ≤ 65535 → IsFrameOf hop weight bytes found
beside_only hop weight bytes (Err sub) found valid e short = absurd cc
beside_only hop weight bytes (Ok said) found valid e short = by said.attrs valid e
  where
    by : (o : Option Attrs) → IfSome o IsValid → option_and_then (if_written bytes) (option_map (placed hop weight) o) ≡ Some found → IsFrameOf hop weight bytes found
    by None valid e = absurd cc
    by (Some attrs) valid e =
        let parts = written_only bytes (record attrs { hop = hop; weight = weight }) found e in
        record {
          valid = subst IsValid parts.0 (without_valid attrs hop weight valid);
          hop = ap (λ (a : Attrs). a.hop) (sym parts.0);
          weight = ap (λ (a : Attrs). a.weight) (sym parts.0);
          written = parts.1;
          short = short;
        }

pub frame_only : (hop : Addr) (weight : ℕ) (bytes : List ℕ) (attrs : Attrs) → AreBytes bytes → frame_attrs_of hop weight bytes ≡ Some attrs → IsFrameOf hop weight bytes attrs
unfolding frame_attrs_of
frame_only hop weight bytes attrs are e = by (nat_lt 65535 (length bytes)) refl e
  where
    by : (b : Bool) → nat_lt 65535 (length bytes) ≡ b → cond b None (option_and_then (if_written bytes) (attrs_beside hop weight (field_says inner bytes))) ≡ Some attrs → IsFrameOf hop weight bytes attrs
    by true long e = absurd cc
    by false long e = beside_only hop weight bytes (field_says inner bytes) attrs (field_valid inner bytes are) e (grind (arith, long))
