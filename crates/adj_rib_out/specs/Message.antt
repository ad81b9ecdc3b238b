-- Which looks make a message (RFC 4271 sections 4.3 and 9.2): of one kind, one family and the same attributes, while it fits.
use Rattle.std.specs.Prelude.{◌≡◌, ℕ, ◌+◌, ◌≤◌, nat_le, Bool, true, false, not, ◌&&◌, ◌||◌, if◌then◌else◌, List, [], ◌∷◌, ◌++◌, length, map, fold, find, Option, None, Some, option_map}
use Rattle.std.specs.List.{AllByRecursion, filter}
use Rattle.std.specs.Ordering.{is_lt}
use Rattle.net_base.specs.declared.addr.Family.{Family}
use Rattle.net_base.specs.declared.addr.Family.TheVariants.{V4, V6}
use Rattle.net_base.specs.declared.prefix.Prefix.{Prefix}
use Rattle.net_base.specs.Order.{prefix_cmp, same_family}
use Rattle.bgp_wire.specs.declared.open.Encoding.{Encoding}
use Rattle.attr_model.specs.Numbered.{Numbered}
use Rattle.attr_codec.specs.Prefixes.{prefixes_bytes}
use Rattle.attr_codec.specs.Size.{attribute_size, update_size}
use Rattle.adj_rib_out.specs.declared.look.Look.{Look}
use Rattle.adj_rib_out.specs.declared.look.Built.{Built}
use Rattle.adj_rib_out.specs.declared.look.Built.TheVariants.{Withdraw, Announce}
use Rattle.adj_rib_out.specs.Same.{same_number}
use Rattle.adj_rib_out.specs.Out.{Out, told_at, is_again}

-- A look has news where what is wanted differs from what was told, or is to be told again.
abbrev pub has_news : Out → Look → Bool
has_news out look = is_again out look.prefix || not (same_number look.wanted (told_at out look.prefix))

-- Prefixes of one family that are announced with the same attributes, or withdrawn where none are wanted, by the encoding of their
-- session.
pub record Message : Type 0 where
  pub enc : Encoding
  pub family : Family
  pub wanted : Option Numbered
  pub prefixes : List Prefix

-- How many bytes the UPDATE has that withdraws prefixes of n bytes: they stand in the field of withdrawn routes, or in
-- MP_UNREACH_NLRI behind three bytes for the family.
abbrev pub withdrawn_size : Family → ℕ → ℕ
withdrawn_size V4 n = 23 + n
withdrawn_size V6 n = 23 + attribute_size (3 + n)

-- how many bytes the UPDATE has that tells prefixes of n bytes
abbrev pub told_size : Encoding → Family → Option Numbered → ℕ → ℕ
told_size enc family None n = withdrawn_size family n
told_size enc family (Some one) n = update_size enc one.attrs n

abbrev pub message_size : Message → ℕ
message_size message = told_size message.enc message.family message.wanted (length (prefixes_bytes message.prefixes))

-- ---- the rule

abbrev pub with_prefix : Prefix → Message → Message
with_prefix prefix message = record message { prefixes = message.prefixes ++ prefix ∷ [] }

-- A look joins where kind, family and attributes are those of the message, and the message still fits with it.
abbrev pub joins : Message → Look → Bool
joins message look =
    same_family message.family look.prefix.family && same_number message.wanted look.wanted
    && nat_le (message_size (with_prefix look.prefix message)) 4096

abbrev pub joined : Option Message → Look → Bool
joined None look = false
joined (Some message) look = joins message look

-- The first look with news fixes the kind, the family and the attributes.
abbrev pub begun : Encoding → Look → Message
begun enc look = record { enc = enc; family = look.prefix.family; wanted = look.wanted; prefixes = [] }

-- Each look with news that joins adds its prefix.
abbrev pub with_look : Out → Option Message → Look → Option Message
with_look out message look = if has_news out look && joined message look then option_map (with_prefix look.prefix) message else message

abbrev pub message_of : Encoding → Out → List Look → Option Message
message_of enc out looks = fold (with_look out) (option_map (begun enc) (find (has_news out) looks)) looks

-- ---- what the rule gives

abbrev pub prefixes_of : Option Message → List Prefix
prefixes_of None = []
prefixes_of (Some message) = message.prefixes

abbrev pub wanted_of : Option Message → Option Numbered
wanted_of None = None
wanted_of (Some message) = message.wanted

abbrev pub built_as : Option Numbered → List Prefix → Built
built_as None prefixes = Withdraw prefixes
built_as (Some one) prefixes = Announce one prefixes

abbrev pub built_of : Message → Built
built_of message = built_as message.wanted message.prefixes

-- the prefixes of the looks without news, which are as told
abbrev pub as_told : Out → List Look → List Prefix
as_told out looks = map (λ look. look.prefix) (filter (λ look. not (has_news out look)) looks)

-- ---- what holds of looks

-- each prefix is below those behind it
abbrev pub IsInOrder : List Look → Type 0
IsInOrder [] = Unit {0}
IsInOrder (look ∷ rest) = AllByRecursion (λ other. is_lt (prefix_cmp look.prefix other.prefix) ≡ true) rest × IsInOrder rest

-- each is small enough to be told alone
abbrev pub FitsAlone : Encoding → Look → Type 0
FitsAlone enc look = message_size (with_prefix look.prefix (begun enc look)) ≤ 4096
