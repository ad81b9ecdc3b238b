-- The next hops of announced prefixes have their family.
use Rattle.std.proofs.Common.{◌≡◌, ◌∙◌, ℕ, Bool, true, false, cond, not, ◌&&◌, List, [], ◌∷◌, ◌++◌, Option, Some, None, Result, Ok, Err, refl, sym, ap}
use Rattle.std.specs.Prelude.{IfSome, IfOk, ◌==◌, nat_lt, option_map}
use Rattle.std.specs.Option.{option_map_or}
use Rattle.std.specs.List.{AllByRecursion}
use Rattle.std.proofs.lemmas.Bool.{and_parts}
use Rattle.wire_buf.specs.Field.{number_at, bytes_at, ◌>>=◌ as ◌bind◌}
use Rattle.net_base.specs.declared.addr.Family.{Family}
use Rattle.net_base.specs.declared.addr.Family.TheVariants.{V4}
use Rattle.net_base.specs.declared.addr.Addr.{Addr}
use Rattle.net_base.specs.declared.prefix.Prefix.{Prefix}
use Rattle.net_base.specs.Bits.{addr_of}
use Rattle.net_base.specs.Width.{width_of}
use Rattle.bgp_wire.specs.declared.open.Encoding.{Encoding}
use Rattle.bgp_wire.specs.Message.{Message, messages}
use Rattle.attr_model.specs.declared.attrs.Attrs.{Attrs}
use Rattle.attr_model.specs.declared.path.Segment.{Segment}
use Rattle.attr_codec.specs.declared.outcome.ReadAttrs.{ReadAttrs}
use Rattle.attr_codec.specs.Cut.{cut}
use Rattle.attr_codec.specs.Field.{Attribute, attribute_at, first_of}
use Rattle.attr_codec.specs.Said.{value_of}
use Rattle.attr_codec.specs.Values.{origin_said, next_hop_said}
use Rattle.attr_codec.specs.Parts.{numbers_said, paths_said, lists_said, partial_bits}
use Rattle.attr_codec.specs.Prefixes.{IsOf, addr_with, prefix_at, prefixes_of}
use Rattle.attr_codec.specs.Reach.{reach_parts, reached}
use Rattle.attr_codec.specs.Read.{reach_said, hop_of, attrs_with, attrs_said, attributes_say, said_unless, field_says}
use Rattle.attr_codec.specs.Fault.{field_fault}
use Rattle.attr_codec.proofs.Appends.{all_append}
use Rattle.attr_codec.proofs.CutItems.{all_are}
use Rattle.update_codec.specs.declared.update.Update.{Update}
use Rattle.update_codec.specs.Update.{or_fault, withdrawn_at, field_at, agreed, unreach_prefixes, group, reach_group, has_hop, updated, update_of, update_says}
use Rattle.update_codec.specs.Held.{read_ones, updates_in, told}
use Rattle.update_codec.specs.Families.{HasFamily, AnnouncesFamilies, HaveFamilies}
use Rattle.update_codec.proofs.ReadValid.{step, found}
use Rattle.update_codec.proofs.HeldEach.{held_each, messages_announce}

-- ---- prefixes

step_some : {A B : Type 0} (P : B → Type 0) (o : Option A) (next : A → Option B) → ((x : A) → IfSome (next x) P) → IfSome (o bind next) P
step_some P None next h = tt
step_some P (Some x) next h = h x

prefix_is : (family : Family) (bytes : List ℕ) → IfSome (prefix_at family bytes) (λ one. one.0.family ≡ family)
unfolding prefix_at
prefix_is family bytes =
    let is = λ (one : Prefix × List ℕ). one.0.family ≡ family in
    step_some is (number_at 1 bytes) _ (λ len. step_some is (cond (nat_lt (width_of family) len.0) None (Some _)) _ (λ size. step_some is (bytes_at size len.1) _ (λ octets. refl)))

there : {X : Type 0} (P : X → Type 0) (o : Option X) (x : X) → IfSome o P → o ≡ Some x → P x
there P None x is e = absurd cc
there P (Some y) x is e = let same : y ≡ x = cc in rw (← same) is

prefixes_are : (family : Family) (bytes : List ℕ) → IfSome (prefixes_of family bytes) (AllByRecursion (IsOf family))
prefixes_are family bytes = all_are (prefix_at family) (IsOf family) (λ bytes. Unit {0}) (λ bytes one _ e. (there (λ one. one.0.family ≡ family) (prefix_at family bytes) one (prefix_is family bytes) e, tt)) bytes tt

-- ---- what attributes say

abbrev Fits : Family × Addr × List Prefix → Type 0
Fits reach = (reach.1.family ≡ reach.0) × AllByRecursion (IsOf reach.0) reach.2

reached_fits : (parts : Option (Option Family × List ℕ × List ℕ)) → IfSome (reached parts) Fits
reached_fits None = tt
reached_fits (Some (None, hop, nlri)) = tt
reached_fits (Some (Some family, hop, nlri)) = by (prefixes_of family nlri) (prefixes_are family nlri)
  where
    by : (o : Option (List Prefix)) → IfSome o (AllByRecursion (IsOf family)) → IfSome (option_map (λ prefixes. (family, addr_with family hop, prefixes)) o) Fits
    by None are = tt
    by (Some prefixes) are = (refl, are)

reach_fits : (enc : Encoding) (attributes : List Attribute) → IfSome (reach_said enc attributes) Fits
reach_fits enc attributes = by (first_of 14 attributes)
  where
    by : (o : Option Attribute) → IfSome (option_map_or (λ attribute. reached (reach_parts enc attribute.value)) o None) Fits
    by None = tt
    by (Some attribute) = reached_fits (reach_parts enc attribute.value)

abbrev IsV4 : Addr → Type 0
IsV4 hop = hop.family ≡ V4

hop_is : (o : Option ℕ) → IfSome (option_map (λ bits. addr_of V4 bits) o) IsV4
hop_is None = tt
hop_is (Some bits) = refl

hop_stands : (enc : Encoding) (hop : Addr) (attributes : List Attribute) → IfSome (attrs_said enc hop attributes) (λ attrs. attrs.hop ≡ hop)
hop_stands enc hop attributes = by (value_of (origin_said attributes)) (paths_said enc.as4 attributes).path
  where
    by : (origin : Option ℕ) (path : Option (List Segment)) → IfSome (attrs_with hop origin path (numbers_said enc.external attributes) (paths_said enc.as4 attributes) (lists_said attributes) (partial_bits (paths_said enc.as4 attributes) (lists_said attributes) attributes)) (λ attrs. attrs.hop ≡ hop)
    by None path = tt
    by (Some origin) None = tt
    by (Some origin) (Some path) = refl

record SaysFamilies (said : ReadAttrs) : Type 0 where
  next_hop : IfSome said.next_hop IsV4
  reach : IfSome said.reach Fits
  hop : IfSome said.attrs (λ attrs. attrs.hop ≡ hop_of said.next_hop said.reach)

attributes_fit : (enc : Encoding) (attributes : List Attribute) → SaysFamilies (attributes_say enc attributes)
unfolding attributes_say
attributes_fit enc attributes = record {
  next_hop = hop_is (value_of (next_hop_said attributes));
  reach = reach_fits enc attributes;
  hop = hop_stands enc _ attributes;
}

field_fits : (enc : Encoding) (field : List ℕ) → IfOk (field_says enc field) SaysFamilies
unfolding field_says
field_fits enc field = by (field_fault enc (cut attribute_at field))
  where
    by : (fault : Option ℕ) → IfOk (said_unless fault (attributes_say enc (cut attribute_at field).items)) SaysFamilies
    by (Some sub) = tt
    by None = attributes_fit enc (cut attribute_at field).items

-- ---- groups

each_of : (attrs : Attrs) (family : Family) (prefixes : List Prefix) → attrs.hop.family ≡ family → AllByRecursion (IsOf family) prefixes → AllByRecursion (HasFamily attrs) prefixes
each_of attrs family [] e are = tt
each_of attrs family (prefix ∷ prefixes) e are = (e ∙ sym are.0, each_of attrs family prefixes e are.1)

abbrev AreFit : List (Attrs × List Prefix) → Type 0
AreFit groups = AllByRecursion (λ (group : Attrs × List Prefix). AllByRecursion (HasFamily group.0) group.1) groups

plain_fits : (attrs : Attrs) (plain : List Prefix) (hop : Option Addr) (reach : Option (Family × Addr × List Prefix)) → attrs.hop ≡ hop_of hop reach → IfSome hop IsV4 → AllByRecursion (IsOf V4) plain → has_hop plain hop ≡ true → AreFit (group attrs plain)
plain_fits attrs [] hop reach e is are has = tt
plain_fits attrs (first ∷ others) None reach e is are has = absurd cc
plain_fits attrs (first ∷ others) (Some hop) reach e is are has = (each_of attrs V4 (first ∷ others) (ap (λ (addr : Addr). addr.family) e ∙ is) are, tt)

group_fits : (attrs : Attrs) (prefixes : List Prefix) → AllByRecursion (HasFamily attrs) prefixes → AreFit (group attrs prefixes)
group_fits attrs [] are = tt
group_fits attrs (first ∷ others) are = (are, tt)

reach_group_fits : (attrs : Attrs) (reach : Option (Family × Addr × List Prefix)) → IfSome reach Fits → AreFit (reach_group attrs reach)
reach_group_fits attrs None fits = tt
reach_group_fits attrs (Some reach) fits = group_fits (record attrs { hop = reach.1 }) reach.2 (each_of (record attrs { hop = reach.1 }) reach.0 reach.2 fits.0 fits.1)

updated_fits : (withdrawn plain : List Prefix) (attrs : Option Attrs) (withdraw : Bool) (hop : Option Addr) (reach : Option (Family × Addr × List Prefix)) → IfSome attrs (λ attrs. attrs.hop ≡ hop_of hop reach) → IfSome hop IsV4 → IfSome reach Fits → AllByRecursion (IsOf V4) plain → (good : Bool) → (not withdraw && has_hop plain hop) ≡ good → AnnouncesFamilies (updated withdrawn plain attrs good reach)
updated_fits withdrawn plain None withdraw hop reach e is fits are good h = tt
updated_fits withdrawn plain (Some attrs) withdraw hop reach e is fits are false h = tt
updated_fits withdrawn plain (Some attrs) withdraw hop reach e is fits are true h =
    all_append (λ (group : Attrs × List Prefix). AllByRecursion (HasFamily group.0) group.1) (group attrs plain) (reach_group attrs reach) (plain_fits attrs plain hop reach e is are (and_parts _ _ h).1) (reach_group_fits attrs reach fits)

agreed_are : (is_agreed : Bool) (prefixes : List Prefix) → AllByRecursion (IsOf V4) prefixes → AllByRecursion (IsOf V4) (agreed is_agreed prefixes)
agreed_are true prefixes are = are
agreed_are false prefixes are = tt

update_fits : (enc : Encoding) (withdrawn : List Prefix) (said : ReadAttrs) (plain : List Prefix) → SaysFamilies said → AllByRecursion (IsOf V4) plain → AnnouncesFamilies (update_of enc withdrawn said plain)
update_fits enc withdrawn said plain fits are =
    updated_fits (agreed enc.v4 withdrawn ++ unreach_prefixes said.unreach) (agreed enc.v4 plain) said.attrs said.withdraw said.next_hop said.reach fits.hop fits.next_hop fits.reach (agreed_are enc.v4 plain are) _ refl

-- ---- the whole body

said_by : {X : Type 0} (P : X → Type 0) (said : Result X ℕ) (x : X) → said ≡ Ok x → IfOk said P → P x
said_by P (Ok y) x e is = let same : y ≡ x = cc in rw (← same) is
said_by P (Err sub) x e is = absurd cc

pub says_families : (enc : Encoding) (body : List ℕ) → IfOk (update_says enc body) AnnouncesFamilies
unfolding update_says
says_families enc body =
    step AnnouncesFamilies (or_fault 1 (withdrawn_at body)) _ (λ withdrawn hw.
    step AnnouncesFamilies (or_fault 10 (prefixes_of V4 withdrawn.0)) _ (λ prefixes hp.
    step AnnouncesFamilies (or_fault 1 (field_at withdrawn.1)) _ (λ attributes ha.
    step AnnouncesFamilies (field_says enc attributes.0) _ (λ said hs.
    step AnnouncesFamilies (or_fault 10 (prefixes_of V4 attributes.1)) _ (λ plain hn.
    update_fits enc prefixes said plain (said_by SaysFamilies (field_says enc attributes.0) said hs (field_fits enc attributes.0))
    (there (AllByRecursion (IsOf V4)) (prefixes_of V4 attributes.1) plain (prefixes_are V4 attributes.1) (found 10 (prefixes_of V4 attributes.1) plain hn)))))))

-- ---- the bytes of a connection

ones_families : (said : Result Update ℕ) → IfOk said AnnouncesFamilies → AllByRecursion AnnouncesFamilies (read_ones said)
ones_families (Ok update) fits = (fits, tt)
ones_families (Err sub) fits = tt

updates_families : (enc : Encoding) (message : Message) → AllByRecursion AnnouncesFamilies (updates_in enc message)
unfolding updates_in
updates_families enc message = by (message.kind == 2)
  where
    by : (b : Bool) → AllByRecursion AnnouncesFamilies (cond b (read_ones (update_says enc message.body)) [])
    by true = ones_families (update_says enc message.body) (says_families enc message.body)
    by false = tt

each_message : (enc : Encoding) (whole : List Message) → AllByRecursion (λ (message : Message). AllByRecursion AnnouncesFamilies (updates_in enc message)) whole
each_message enc [] = tt
each_message enc (message ∷ whole) = (updates_families enc message, each_message enc whole)

pub told_families : (enc : Encoding) (bytes : List ℕ) → HaveFamilies (told enc bytes)
unfolding told
told_families enc bytes = held_each HasFamily _ (messages_announce HasFamily enc (messages bytes).whole (each_message enc (messages bytes).whole))
