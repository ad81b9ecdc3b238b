-- What an UPDATE announces has valid attributes.
use Rattle.std.proofs.Common.{◌≡◌, ℕ, Bool, true, false, cond, not, ◌&&◌, List, [], ◌∷◌, ◌++◌, length, Option, Some, None, Result, Ok, Err, refl}
use Rattle.std.specs.Prelude.{IfSome, IfOk, nat_lt}
use Rattle.std.specs.List.{AllByRecursion}
use Rattle.std.proofs.lemmas.Option.{none-some}
use Rattle.wire_buf.specs.Field.{number_at}
use Rattle.net_base.specs.declared.addr.Family.{Family}
use Rattle.net_base.specs.declared.addr.Family.TheVariants.{V4}
use Rattle.net_base.specs.declared.addr.Addr.{Addr}
use Rattle.net_base.specs.declared.prefix.Prefix.{Prefix}
use Rattle.bgp_wire.specs.Message.{AreBytes}
use Rattle.bgp_wire.specs.declared.open.Encoding.{Encoding}
use Rattle.attr_model.specs.declared.attrs.Attrs.{Attrs}
use Rattle.attr_model.specs.Valid.{IsValid}
use Rattle.attr_codec.specs.declared.outcome.ReadAttrs.{ReadAttrs}
use Rattle.attr_codec.specs.Prefixes.{prefixes_of}
use Rattle.attr_codec.specs.Read.{field_says}
use Rattle.attr_codec.proofs.Appends.{all_append}
use Rattle.attr_codec.proofs.Bytes.{number_rest, field_parts}
use Rattle.attr_codec.proofs.ReadValid.{field_valid}
use Rattle.update_codec.specs.Update.{◌>>=◌, or_fault, field_behind, field_at, leaves_length, withdrawn_at, agreed, unreach_prefixes, group, reach_group, has_hop, updated, update_of, update_says}
use Rattle.update_codec.specs.Valid.{HasValid, AnnouncesValid}

-- ---- groups

group_valid : (attrs : Attrs) (prefixes : List Prefix) → IsValid attrs → AllByRecursion HasValid (group attrs prefixes)
group_valid attrs [] valid = tt
group_valid attrs (first ∷ others) valid = (valid, tt)

-- attributes with another hop are as valid
other_hop : (attrs : Attrs) (hop : Addr) → IsValid attrs → IsValid (record attrs { hop = hop })
other_hop attrs hop valid = record {
  origin = valid.origin;
  path = valid.path;
  communities = valid.communities;
  large = valid.large;
  unknown = valid.unknown;
  unknown_types = valid.unknown_types;
  «partial» = record { below = valid.«partial».below; aggregator = valid.«partial».aggregator; communities = valid.«partial».communities; large = valid.«partial».large };
}

reach_valid : (attrs : Attrs) (reach : Option (Family × Addr × List Prefix)) → IsValid attrs → AllByRecursion HasValid (reach_group attrs reach)
reach_valid attrs None valid = tt
reach_valid attrs (Some reach) valid = group_valid (record attrs { hop = reach.1 }) reach.2 (other_hop attrs reach.1 valid)

updated_valid : (withdrawn plain : List Prefix) (attrs : Option Attrs) (good : Bool) (reach : Option (Family × Addr × List Prefix)) → IfSome attrs IsValid → AnnouncesValid (updated withdrawn plain attrs good reach)
updated_valid withdrawn plain None good reach valid = tt
updated_valid withdrawn plain (Some attrs) true reach valid = all_append HasValid (group attrs plain) (reach_group attrs reach) (group_valid attrs plain valid) (reach_valid attrs reach valid)
updated_valid withdrawn plain (Some attrs) false reach valid = tt

update_valid : (enc : Encoding) (withdrawn : List Prefix) (said : ReadAttrs) (plain : List Prefix) → IfSome said.attrs IsValid → AnnouncesValid (update_of enc withdrawn said plain)
update_valid enc withdrawn said plain valid =
    updated_valid (agreed enc.v4 withdrawn ++ unreach_prefixes said.unreach) (agreed enc.v4 plain) said.attrs (not said.withdraw && has_hop (agreed enc.v4 plain) said.next_hop) said.reach valid

-- ---- fields

behind_are : (bytes : List ℕ) (size : Option (ℕ × List ℕ)) (field : List ℕ × List ℕ) → AreBytes bytes → number_at 2 bytes ≡ size → field_behind size ≡ Some field → AreBytes field.0 × AreBytes field.1
behind_are bytes None field are e f = absurd (none-some field f)
behind_are bytes (Some size) field are e f = field_parts size.0 size.1 field (number_rest 2 bytes size are e) f

field_are : (bytes : List ℕ) (field : List ℕ × List ℕ) → AreBytes bytes → field_at bytes ≡ Some field → AreBytes field.0 × AreBytes field.1
field_are bytes field are f = behind_are bytes (number_at 2 bytes) field are refl f

leaves_same : (found : Option (List ℕ × List ℕ)) (field : List ℕ × List ℕ) → leaves_length found ≡ Some field → found ≡ Some field
leaves_same None field e = absurd (none-some field e)
leaves_same (Some found) field e = by (nat_lt (length found.1) 2) e
  where
    by : (b : Bool) → cond b None (Some found) ≡ Some field → Some found ≡ Some field
    by true f = absurd (none-some field f)
    by false f = f

withdrawn_are : (body : List ℕ) (field : List ℕ × List ℕ) → AreBytes body → withdrawn_at body ≡ Some field → AreBytes field.1
withdrawn_are body field are e = (field_are body field are (leaves_same (field_at body) field e)).1

-- ---- the whole body

-- what holds behind a step that may fail
pub step : {A B : Type 0} (P : B → Type 0) (said : Result A ℕ) (next : A → Result B ℕ) → ((x : A) → said ≡ Ok x → IfOk (next x) P) → IfOk (said >>= next) P
step P (Ok x) next h = h x refl
step P (Err sub) next h = tt

pub found : {X : Type 0} (sub : ℕ) (o : Option X) (x : X) → or_fault sub o ≡ Ok x → o ≡ Some x
found sub None x e = absurd cc
found sub (Some y) x e = let same : y ≡ x = cc in rw same refl

said_by : (said : Result ReadAttrs ℕ) (x : ReadAttrs) → said ≡ Ok x → IfOk said (λ s. IfSome s.attrs IsValid) → IfSome x.attrs IsValid
said_by (Ok y) x e valid = let same : y ≡ x = cc in rw (← same) valid
said_by (Err sub) x e valid = absurd cc

pub says_valid : (enc : Encoding) (body : List ℕ) → AreBytes body → IfOk (update_says enc body) AnnouncesValid
unfolding update_says
says_valid enc body are =
    step AnnouncesValid (or_fault 1 (withdrawn_at body)) _ (λ withdrawn hw.
    step AnnouncesValid (or_fault 10 (prefixes_of V4 withdrawn.0)) _ (λ prefixes hp.
    step AnnouncesValid (or_fault 1 (field_at withdrawn.1)) _ (λ attributes ha.
    step AnnouncesValid (field_says enc attributes.0) _ (λ said hs.
    step AnnouncesValid (or_fault 10 (prefixes_of V4 attributes.1)) _ (λ plain hn.
    let rest = withdrawn_are body withdrawn are (found 1 (withdrawn_at body) withdrawn hw) in
    let parts = field_are withdrawn.1 attributes rest (found 1 (field_at withdrawn.1) attributes ha) in
    update_valid enc prefixes said plain (said_by (field_says enc attributes.0) said hs (field_valid enc attributes.0 parts.0)))))))
