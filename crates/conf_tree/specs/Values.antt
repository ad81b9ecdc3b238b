-- The values that stand in a configuration: numbers, addresses, prefixes, names and quoted texts.
use Rattle.std.specs.Prelude.{ℕ, ◌+◌, ◌*◌, ◌^◌, Bool, true, false, ◌&&◌, ◌||◌, List, [], length, take, drop, Option, None, Some, option_map, option_and_then, Ok, if◌then◌else◌, ◌==◌, nat_lt, nat_le, bytes_eq, codes}
use Rattle.std.specs.List.{list_all, position_or_len}
use Rattle.std.specs.Option.{option_map_or}
use Rattle.net_base.specs.declared.addr.Family.{Family}
use Rattle.net_base.specs.declared.addr.Family.TheVariants.{V4, V6}
use Rattle.net_base.specs.declared.addr.Addr.{Addr}
use Rattle.net_base.specs.declared.prefix.Prefix.{Prefix}
use Rattle.net_base.specs.declared.conf.ConfKind.TheVariants.{NotInProfile, NumberRange, TooMany}
use Rattle.net_base.specs.declared.conf.Counted.TheVariants.{Names}
use Rattle.net_base.specs.Number.{is_number, number_of}
use Rattle.net_base.specs.Addr.{read_addr}
use Rattle.net_base.specs.Prefix.{read_prefix}
use Rattle.net_base.specs.Width.{width_of}
use Rattle.conf_tree.specs.declared.token.Token.{Token}
use Rattle.conf_tree.specs.declared.sets.PrefixRange.{PrefixRange}
use Rattle.conf_tree.specs.declared.rule.CommunityPattern.{CommunityPattern}
use Rattle.conf_tree.specs.declared.rule.LargePattern.{LargePattern}
use Rattle.conf_tree.specs.Faults.{◌>>=◌}
use Rattle.conf_tree.specs.Kinds.{is_quoted}
use Rattle.conf_tree.specs.Names.{is_name}
use Rattle.conf_tree.specs.Reading.{Reading, fails, unexpected, behind, text_of, word_of, word_is, mark_is}

-- ---- numbers

-- the number that a text is, from low to high
unfoldable pub within : ℕ → ℕ → List ℕ → Option ℕ
within low high text = option_and_then (λ n. if nat_le low n && nat_le n high then Some n else None) (number_of text)

-- a value of the first token, or NumberRange there
abbrev pub in_range : {A : Type 0} → List Token → Option A → Reading A
in_range tokens None = fails NumberRange tokens
in_range tokens (Some value) = Ok (value, behind tokens)

-- the first token is a word that passes a test
unfoldable pub word_passes : (List ℕ → Bool) → List Token → Bool
word_passes test tokens = option_map_or test (word_of tokens) false

-- the text of the word in front
abbrev pub word_text : List Token → List ℕ
word_text tokens = option_map_or (λ text. text) (word_of tokens) []

-- a number from low to high
unfoldable pub number_at : ℕ → ℕ → List Token → Reading ℕ
number_at low high tokens = if word_passes is_number tokens then in_range tokens (within low high (word_text tokens)) else unexpected tokens

-- what stands before the first of these bytes, and behind it
abbrev pub before : ℕ → List ℕ → List ℕ
before byte text = take (position_or_len (λ b. b == byte) text) text

abbrev pub past : ℕ → List ℕ → List ℕ
past byte text = drop (position_or_len (λ b. b == byte) text + 1) text

-- two numbers joined by a byte
unfoldable pub are_joined : ℕ → List ℕ → Bool
are_joined byte text = is_number (before byte text) && is_number (past byte text)

-- an AS number; two numbers joined by a dot are none of this language
unfoldable pub as_number_at : ℕ → List Token → Reading ℕ
as_number_at low tokens = if word_passes (are_joined 46) tokens then fails NotInProfile tokens else number_at low 4294967295 tokens

-- a hold time in seconds: 0, or from 3 on
unfoldable pub hold_at : List Token → Reading ℕ
hold_at tokens = if word_is (codes "0") tokens then Ok (0, behind tokens) else number_at 3 65535 tokens

unfoldable pub yes_no_at : List Token → Reading Bool
yes_no_at tokens =
    if word_is (codes "yes") tokens then Ok (true, behind tokens)
    else (if word_is (codes "no") tokens then Ok (false, behind tokens) else unexpected tokens)

-- ---- addresses and prefixes

-- a value that a word spells, or UnexpectedWord
abbrev pub spelled : {A : Type 0} → List Token → Option A → Reading A
spelled tokens None = unexpected tokens
spelled tokens (Some value) = Ok (value, behind tokens)

unfoldable pub address_of : List Token → Option Addr
address_of tokens = option_and_then read_addr (word_of tokens)

unfoldable pub address_at : List Token → Reading Addr
address_at tokens = spelled tokens (address_of tokens)

-- the bits of an IPv4 address
abbrev pub if_v4 : Family → ℕ → Option ℕ
if_v4 V4 bits = Some bits
if_v4 V6 bits = None

unfoldable pub v4_at : List Token → Reading ℕ
v4_at tokens = spelled tokens (option_and_then (λ address. if_v4 address.family address.bits) (address_of tokens))

unfoldable pub prefix_of_word : List Token → Option Prefix
prefix_of_word tokens = option_and_then read_prefix (word_of tokens)

unfoldable pub prefix_at : List Token → Reading Prefix
prefix_at tokens = spelled tokens (prefix_of_word tokens)

-- ---- the lengths behind a prefix

abbrev pub range : Prefix → ℕ → ℕ → PrefixRange
range prefix low high = record { prefix = prefix; low = low; high = high }

abbrev pub width : Prefix → ℕ
width prefix = width_of prefix.family

-- a bound is at least the prefix's length, and at most its width
unfoldable pub bound_at : Prefix → List Token → Reading ℕ
bound_at prefix tokens = number_at prefix.len (width prefix) tokens

-- both of two numbers in one word
abbrev pub both_bounds : Prefix → Option ℕ → Option ℕ → Option PrefixRange
both_bounds prefix low high = option_and_then (λ l. option_map (λ h. range prefix l h) high) low

-- `N-M` in one word
unfoldable pub glued_bounds_at : Prefix → List Token → Reading PrefixRange
glued_bounds_at prefix tokens =
    in_range tokens (both_bounds prefix
    (within prefix.len (width prefix) (before 45 (word_text tokens)))
    (within prefix.len (width prefix) (past 45 (word_text tokens))))

-- `N - M` in three words, or `N`
unfoldable pub bounds_at : Prefix → List Token → Reading PrefixRange
bounds_at prefix tokens = do
  low ← bound_at prefix tokens
  if word_is (codes "-") low.1
      then (do
        high ← bound_at prefix (behind low.1)
        Ok (range prefix low.0 high.0, high.1))
      else Ok (range prefix low.0 low.0, low.1)

unfoldable pub at_least_at : Prefix → List Token → Reading PrefixRange
at_least_at prefix tokens = do
  low ← bound_at prefix tokens
  Ok (range prefix low.0 (width prefix), low.1)

unfoldable pub at_most_at : Prefix → List Token → Reading PrefixRange
at_most_at prefix tokens = do
  high ← bound_at prefix tokens
  Ok (range prefix prefix.len high.0, high.1)

-- behind `prefixlen`
unfoldable pub prefixlen_at : Prefix → List Token → Reading PrefixRange
prefixlen_at prefix tokens =
    if mark_is (codes ">=") tokens then at_least_at prefix (behind tokens)
    else (if mark_is (codes "<=") tokens then at_most_at prefix (behind tokens)
    else (if word_passes (are_joined 45) tokens then glued_bounds_at prefix tokens
    else bounds_at prefix tokens))

-- behind a prefix
unfoldable pub lengths_at : Prefix → List Token → Reading PrefixRange
lengths_at prefix tokens =
    if word_is (codes "or-longer") tokens then Ok (range prefix prefix.len (width prefix), behind tokens)
    else (if word_is (codes "maxlen") tokens then at_most_at prefix (behind tokens)
    else (if word_is (codes "prefixlen") tokens then prefixlen_at prefix (behind tokens)
    else Ok (range prefix prefix.len prefix.len, tokens)))

-- ---- names and quoted texts

-- printable ASCII with blanks, at least one byte
unfoldable pub is_quoted_group_name : List ℕ → Bool
is_quoted_group_name text = nat_lt 0 (length text) && list_all (λ b. nat_le 32 b && nat_le b 126) text

-- a text in front, as long as a limit allows
abbrev pub of_length : ℕ → List Token → Option (List ℕ) → Reading (List ℕ)
of_length limit tokens None = unexpected tokens
of_length limit tokens (Some text) = if nat_le (length text) limit then Ok (text, behind tokens) else fails (TooMany Names) tokens

-- a text that passes a test
abbrev pub if_passes : (List ℕ → Bool) → Option (List ℕ) → Option (List ℕ)
if_passes test None = None
if_passes test (Some text) = if test text then Some text else None

-- the first of two that is there
abbrev pub or_else : Option (List ℕ) → Option (List ℕ) → Option (List ℕ)
or_else None second = second
or_else (Some text) second = Some text

-- the most bytes of a name, and of a quoted text
abbrev pub most_name_bytes : ℕ
most_name_bytes = 31

abbrev pub most_quoted_bytes : ℕ
most_quoted_bytes = 255

-- a name, as a word or quoted
unfoldable pub name_at : List Token → Reading (List ℕ)
name_at tokens = of_length most_name_bytes tokens (or_else (if_passes is_name (word_of tokens)) (if_passes is_name (text_of is_quoted tokens)))

-- a name of a group, which may have any printable text between quotes
unfoldable pub group_name_at : List Token → Reading (List ℕ)
group_name_at tokens = of_length most_name_bytes tokens (or_else (if_passes is_name (word_of tokens)) (if_passes is_quoted_group_name (text_of is_quoted tokens)))

unfoldable pub quoted_at : List Token → Reading (List ℕ)
quoted_at tokens = of_length most_quoted_bytes tokens (text_of is_quoted tokens)

-- ---- communities

-- a part of a community: a number, or `*` where it may stand
abbrev pub is_part : Bool → List ℕ → Bool
is_part star text = (star && bytes_eq (codes "*") text) || is_number text

-- the number of a part, None for `*`; no value where its field can't hold it
abbrev pub part_in : ℕ → List ℕ → Option (Option ℕ)
part_in most text = if bytes_eq (codes "*") text then Some None else option_map Some (within 0 most text)

-- two parts, and three, joined by colons
unfoldable pub is_pair : Bool → List ℕ → Bool
is_pair star text = is_part star (before 58 text) && is_part star (past 58 text)

unfoldable pub is_triple : Bool → List ℕ → Bool
is_triple star text = is_part star (before 58 text) && is_pair star (past 58 text)

abbrev pub pattern_of : Option (Option ℕ) → Option (Option ℕ) → Option CommunityPattern
pattern_of high low = option_and_then (λ h. option_map (λ l. record { high = h; low = l }) low) high

-- the value of two parts of 16 bits
unfoldable pub pair_of : List ℕ → Option CommunityPattern
pair_of text = pattern_of (part_in 65535 (before 58 text)) (part_in 65535 (past 58 text))

-- the values of two parts of 32 bits, and of three
unfoldable pub two_parts : List ℕ → Option (Option ℕ × Option ℕ)
two_parts text = option_and_then (λ first. option_map (λ second. (first, second)) (part_in 4294967295 (past 58 text))) (part_in 4294967295 (before 58 text))

unfoldable pub triple_of : List ℕ → Option LargePattern
triple_of text =
    option_and_then (λ global. option_map (λ (others : Option ℕ × Option ℕ). record { global = global; first = others.0; second = others.1 }) (two_parts (past 58 text)))
    (part_in 4294967295 (before 58 text))

abbrev pub well_known : ℕ → Option CommunityPattern
well_known low = Some (record { high = Some 65535; low = Some low })

-- the three names of communities (RFC 1997)
unfoldable pub named_community : List ℕ → Option CommunityPattern
named_community text =
    if bytes_eq (codes "NO_EXPORT") text then well_known 65281
    else (if bytes_eq (codes "NO_ADVERTISE") text then well_known 65282
    else (if bytes_eq (codes "NO_EXPORT_SUBCONFED") text then well_known 65283
    else None))

-- a community by its parts; any other name is none of this language
unfoldable pub unnamed_community_at : Bool → List Token → Reading CommunityPattern
unnamed_community_at star tokens =
    if word_passes is_name tokens then fails NotInProfile tokens
    else (if word_passes (is_pair star) tokens then in_range tokens (pair_of (word_text tokens))
    else unexpected tokens)

abbrev pub or_unnamed : Bool → List Token → Option CommunityPattern → Reading CommunityPattern
or_unnamed star tokens None = unnamed_community_at star tokens
or_unnamed star tokens (Some pattern) = Ok (pattern, behind tokens)

-- a community; `*` may stand for a part where `star` says so
unfoldable pub community_at : Bool → List Token → Reading CommunityPattern
community_at star tokens = or_unnamed star tokens (option_and_then named_community (word_of tokens))

unfoldable pub large_community_at : Bool → List Token → Reading LargePattern
large_community_at star tokens = if word_passes (is_triple star) tokens then in_range tokens (triple_of (word_text tokens)) else unexpected tokens

-- The one community of a pattern without `*`.
abbrev pub number_or_zero : Option ℕ → ℕ
number_or_zero None = 0
number_or_zero (Some n) = n

abbrev pub one_community : CommunityPattern → ℕ
one_community pattern = number_or_zero pattern.high * 2 ^ 16 + number_or_zero pattern.low
