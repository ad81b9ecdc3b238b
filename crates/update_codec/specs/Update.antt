-- What an UPDATE says (RFC 4271 sections 4.3 and 6.3, RFC 4760, RFC 7606).
use Rattle.std.specs.Prelude.{ℕ, Bool, true, not, ◌&&◌, nat_lt, if◌then◌else◌, List, [], ◌∷◌, ◌++◌, length, Option, Some, None, is_some, Result, Ok, Err}
use Rattle.wire_buf.specs.Field.{number_at, bytes_at}
use Rattle.net_base.specs.declared.addr.Family.{Family}
use Rattle.net_base.specs.declared.addr.Family.TheVariants.{V4}
use Rattle.net_base.specs.declared.addr.Addr.{Addr}
use Rattle.net_base.specs.declared.prefix.Prefix.{Prefix}
use Rattle.bgp_wire.specs.declared.open.Encoding.{Encoding}
use Rattle.attr_model.specs.declared.attrs.Attrs.{Attrs}
use Rattle.attr_codec.specs.declared.outcome.ReadAttrs.{ReadAttrs}
use Rattle.attr_codec.specs.Prefixes.{prefixes_of}
use Rattle.attr_codec.specs.Read.{field_says}
use Rattle.update_codec.specs.declared.update.Update.{Update}

-- A `do` block goes on where each of its lines gives no NOTIFICATION.
infixl 10 ◌>>=◌
abbrev pub ◌>>=◌ : {A B : Type 0} → Result A ℕ → (A → Result B ℕ) → Result B ℕ
(Ok x) >>= f = f x
(Err sub) >>= f = Err sub

abbrev pub or_fault : {X : Type 0} → ℕ → Option X → Result X ℕ
or_fault sub None = Err sub
or_fault sub (Some x) = Ok x

-- A field behind its length of two bytes, and the bytes behind it.
abbrev pub field_behind : Option (ℕ × List ℕ) → Option (List ℕ × List ℕ)
field_behind None = None
field_behind (Some size) = bytes_at size.0 size.1

abbrev pub field_at : List ℕ → Option (List ℕ × List ℕ)
field_at bytes = field_behind (number_at 2 bytes)

-- The field of the withdrawn routes leaves at least the two bytes of the next length.
abbrev pub leaves_length : Option (List ℕ × List ℕ) → Option (List ℕ × List ℕ)
leaves_length None = None
leaves_length (Some field) = if nat_lt (length field.1) 2 then None else Some field

abbrev pub withdrawn_at : List ℕ → Option (List ℕ × List ℕ)
withdrawn_at body = leaves_length (field_at body)

-- prefixes of a family, where it is agreed
abbrev pub agreed : Bool → List Prefix → List Prefix
agreed is_agreed prefixes = if is_agreed then prefixes else []

abbrev pub unreach_prefixes : Option (Family × List Prefix) → List Prefix
unreach_prefixes None = []
unreach_prefixes (Some unreach) = unreach.1

abbrev pub reach_prefixes : Option (Family × Addr × List Prefix) → List Prefix
reach_prefixes None = []
reach_prefixes (Some reach) = reach.2

-- A group is attributes with prefixes, at least one.
abbrev pub group : Attrs → List Prefix → List (Attrs × List Prefix)
group attrs [] = []
group attrs (first ∷ others) = (attrs, first ∷ others) ∷ []

abbrev pub reach_group : Attrs → Option (Family × Addr × List Prefix) → List (Attrs × List Prefix)
reach_group attrs None = []
reach_group attrs (Some reach) = group (record attrs { hop = reach.1 }) reach.2

abbrev pub groups_of : Attrs → List Prefix → Option (Family × Addr × List Prefix) → List (Attrs × List Prefix)
groups_of attrs plain reach = group attrs plain ++ reach_group attrs reach

-- no prefixes, or NEXT_HOP for them
abbrev pub has_hop : List Prefix → Option Addr → Bool
has_hop [] hop = true
has_hop (first ∷ others) hop = is_some hop

-- The announced prefixes count as withdrawn where an attribute is malformed or lacks.
abbrev pub updated : List Prefix → List Prefix → Option Attrs → Bool → Option (Family × Addr × List Prefix) → Update
updated withdrawn plain None good reach = record { withdrawn = withdrawn ++ plain ++ reach_prefixes reach; announced = [] }
updated withdrawn plain (Some attrs) good reach =
    if good then record { withdrawn = withdrawn; announced = groups_of attrs plain reach }
    else record { withdrawn = withdrawn ++ plain ++ reach_prefixes reach; announced = [] }

abbrev pub update_of : Encoding → List Prefix → ReadAttrs → List Prefix → Update
update_of enc withdrawn said plain =
    updated (agreed enc.v4 withdrawn ++ unreach_prefixes said.unreach) (agreed enc.v4 plain) said.attrs (not said.withdraw && has_hop (agreed enc.v4 plain) said.next_hop) said.reach

-- The first NOTIFICATION in the order of the bytes, or the update.
unfoldable pub update_says : Encoding → List ℕ → Result Update ℕ
update_says enc body = do
  withdrawn ← or_fault 1 (withdrawn_at body)
  prefixes ← or_fault 10 (prefixes_of V4 withdrawn.0)
  attributes ← or_fault 1 (field_at withdrawn.1)
  said ← field_says enc attributes.0
  plain ← or_fault 10 (prefixes_of V4 attributes.1)
  Ok (update_of enc prefixes said plain)
