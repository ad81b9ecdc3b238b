-- Values go by their own tokens.
use Rattle.std.proofs.Common.{◌≡◌, ℕ, Bool, true, false, cond, List, length, Option, Some, None, Ok, refl, codes}
use Rattle.std.specs.Prelude.{option_and_then, nat_le}
use Rattle.net_base.specs.declared.prefix.Prefix.{Prefix}
use Rattle.net_base.specs.declared.conf.ConfKind.TheVariants.{TooMany, NotInProfile}
use Rattle.net_base.specs.declared.conf.Counted.TheVariants.{Names}
use Rattle.conf_tree.specs.declared.rule.CommunityPattern.{CommunityPattern}
use Rattle.conf_tree.specs.declared.token.Token.{Token}
use Rattle.conf_tree.specs.Kinds.{is_quoted}
use Rattle.conf_tree.specs.Names.{is_name}
use Rattle.conf_tree.specs.Reading.{fails, behind, text_of, word_of, word_is, mark_is}
use Rattle.conf_tree.specs.Faults.{◌>>=◌}
use Rattle.net_base.specs.Number.{is_number}
use Rattle.conf_tree.specs.Values as values
use Rattle.conf_tree.specs.Values.{before, within, both_bounds, width, range, word_text, word_passes, are_joined, in_range, is_pair, is_triple, pair_of, triple_of, number_at, as_number_at, hold_at, yes_no_at, address_of, address_at, if_v4, v4_at, prefix_of_word, prefix_at, bound_at, glued_bounds_at, bounds_at, at_least_at, at_most_at, prefixlen_at, lengths_at, is_quoted_group_name, of_length, if_passes, or_else, most_name_bytes, most_quoted_bytes, name_at, group_name_at, quoted_at, named_community, unnamed_community_at, or_unnamed, community_at, large_community_at}
use Rattle.conf_local.specs.Texts.{IsText}
use Rattle.conf_local.proofs.Local.{Begun, Local, OfFirst, stays, takes, past, fails_here, one_of, by_first, then}
use Rattle.conf_local.proofs.Tests.{text_of_first, word_is_first, mark_is_first, word_passes_first, word_begun, mark_begun, passes_begun, end_is_no_word, end_is_not_quoted, NoneAtEnd, value_begun, ranged, spelt}

pub number_local : {some : Bool} (low : ℕ) (high : ℕ) (tokens : List Token) → IsText tokens → Local some (number_at low high) tokens
unfolding number_at text_of
number_local low high tokens h =
    one_of (λ x. word_passes is_number x) (λ x. in_range x (within low high (word_text x))) _ tokens (word_passes_first _)
    (λ e1. ranged (λ x. within low high (word_text x)) tokens (λ z a b. refl) (passes_begun _ tokens h e1) h)
    (λ e1. fails_here _ tokens h)

pub as_number_local : {some : Bool} (low : ℕ) (tokens : List Token) → IsText tokens → Local some (as_number_at low) tokens
unfolding as_number_at
as_number_local low tokens h =
    one_of (λ x. word_passes (are_joined 46) x) (λ x. fails NotInProfile x) _ tokens (word_passes_first _)
    (λ e1. fails_here _ tokens h)
    (λ e1. number_local _ _ tokens h)

pub hold_local : {some : Bool} (tokens : List Token) → IsText tokens → Local some hold_at tokens
unfolding hold_at
hold_local tokens h =
    one_of (λ x. word_is (codes "0") x) (λ x. Ok (0, behind x)) _ tokens (word_is_first _)
    (λ e1. takes _ tokens (word_begun _ tokens h e1))
    (λ e1. number_local _ _ tokens h)

pub yes_no_local : {some : Bool} (tokens : List Token) → IsText tokens → Local some yes_no_at tokens
unfolding yes_no_at
yes_no_local tokens h =
    one_of (λ x. word_is (codes "yes") x) (λ x. Ok (true, behind x)) _ tokens (word_is_first _)
    (λ e1. takes _ tokens (word_begun _ tokens h e1))
    (λ e1. one_of (λ x. word_is (codes "no") x) (λ x. Ok (false, behind x)) _ tokens (word_is_first _)
    (λ e2. takes _ tokens (word_begun _ tokens h e2))
    (λ e2. fails_here _ tokens h))

pub address_none : NoneAtEnd address_of
unfolding address_of text_of
address_none z rest k = rw (end_is_no_word z.kind k) refl

pub address_local : {some : Bool} (tokens : List Token) → IsText tokens → Local some address_at tokens
unfolding address_at address_of text_of
address_local tokens h = spelt address_of tokens (λ z a b. refl) address_none h

v4_none : NoneAtEnd (λ x. option_and_then (λ address. if_v4 address.family address.bits) (address_of x))
unfolding address_of text_of
v4_none z rest k = rw (end_is_no_word z.kind k) refl

pub v4_local : {some : Bool} (tokens : List Token) → IsText tokens → Local some v4_at tokens
unfolding v4_at address_of text_of
v4_local tokens h = spelt (λ x. option_and_then (λ address. if_v4 address.family address.bits) (address_of x)) tokens (λ z a b. refl) v4_none h

pub prefix_none : NoneAtEnd prefix_of_word
unfolding prefix_of_word text_of
prefix_none z rest k = rw (end_is_no_word z.kind k) refl

pub prefix_of_word_first : OfFirst prefix_of_word
unfolding prefix_of_word text_of
prefix_of_word_first z a b = refl

pub prefix_local : {some : Bool} (tokens : List Token) → IsText tokens → Local some prefix_at tokens
unfolding prefix_at
prefix_local tokens h = spelt prefix_of_word tokens prefix_of_word_first prefix_none h

pub bound_local : {some : Bool} (prefix : Prefix) (tokens : List Token) → IsText tokens → Local some (bound_at prefix) tokens
unfolding bound_at
bound_local prefix tokens h =
    number_local _ _ tokens h

glued_bounds_local : {some : Bool} (prefix : Prefix) (tokens : List Token) → IsText tokens → Begun tokens → Local some (glued_bounds_at prefix) tokens
unfolding glued_bounds_at text_of
glued_bounds_local prefix tokens h b =
    ranged (λ x. both_bounds prefix (within prefix.len (width prefix) (before 45 (word_text x))) (within prefix.len (width prefix) (values.past 45 (word_text x)))) tokens (λ z a b. refl) b h

pub bounds_local : {some : Bool} (prefix : Prefix) (tokens : List Token) → IsText tokens → Local some (bounds_at prefix) tokens
unfolding bounds_at
bounds_local prefix tokens h =
    then (λ x. bound_at prefix x) (λ low. cond (word_is (codes "-") low.1) (bound_at prefix (behind low.1) >>= λ high. Ok (range prefix low.0 high.0, high.1)) (Ok (range prefix low.0 low.0, low.1))) tokens (bound_local _ tokens h)
    (λ low t1 h1. one_of (λ x. word_is (codes "-") x) (λ x. bound_at prefix (behind x) >>= λ high. Ok (range prefix low high.0, high.1)) _ t1 (word_is_first _)
    (λ e2. then (λ x. bound_at prefix (behind x)) (λ high. Ok (range prefix low high.0, high.1)) t1 (past (bound_at prefix) t1 (word_begun _ t1 h1 e2) (bound_local _))
    (λ high t3 h3. stays _ t3 h3))
    (λ e2. stays _ t1 h1))

pub at_least_local : {some : Bool} (prefix : Prefix) (tokens : List Token) → IsText tokens → Local some (at_least_at prefix) tokens
unfolding at_least_at
at_least_local prefix tokens h =
    then (λ x. bound_at prefix x) (λ low. Ok (range prefix low.0 (width prefix), low.1)) tokens (bound_local _ tokens h)
    (λ low t1 h1. stays _ t1 h1)

pub at_most_local : {some : Bool} (prefix : Prefix) (tokens : List Token) → IsText tokens → Local some (at_most_at prefix) tokens
unfolding at_most_at
at_most_local prefix tokens h =
    then (λ x. bound_at prefix x) (λ high. Ok (range prefix prefix.len high.0, high.1)) tokens (bound_local _ tokens h)
    (λ high t1 h1. stays _ t1 h1)

pub prefixlen_local : {some : Bool} (prefix : Prefix) (tokens : List Token) → IsText tokens → Local some (prefixlen_at prefix) tokens
unfolding prefixlen_at
prefixlen_local prefix tokens h =
    one_of (λ x. mark_is (codes ">=") x) (λ x. at_least_at prefix (behind x)) _ tokens (mark_is_first _)
    (λ e1. past (at_least_at prefix) tokens (mark_begun _ tokens h e1) (at_least_local _))
    (λ e1. one_of (λ x. mark_is (codes "<=") x) (λ x. at_most_at prefix (behind x)) _ tokens (mark_is_first _)
    (λ e2. past (at_most_at prefix) tokens (mark_begun _ tokens h e2) (at_most_local _))
    (λ e2. one_of (λ x. word_passes (are_joined 45) x) (λ x. glued_bounds_at prefix x) _ tokens (word_passes_first _)
    (λ e3. glued_bounds_local _ tokens h (passes_begun _ tokens h e3))
    (λ e3. bounds_local _ tokens h)))

pub lengths_local : (prefix : Prefix) (tokens : List Token) → IsText tokens → Local false (lengths_at prefix) tokens
unfolding lengths_at
lengths_local prefix tokens h =
    one_of (λ x. word_is (codes "or-longer") x) (λ x. Ok (range prefix prefix.len (width prefix), behind x)) _ tokens (word_is_first _)
    (λ e1. takes _ tokens (word_begun _ tokens h e1))
    (λ e1. one_of (λ x. word_is (codes "maxlen") x) (λ x. at_most_at prefix (behind x)) _ tokens (word_is_first _)
    (λ e2. past (at_most_at prefix) tokens (word_begun _ tokens h e2) (at_most_local _))
    (λ e2. one_of (λ x. word_is (codes "prefixlen") x) (λ x. prefixlen_at prefix (behind x)) _ tokens (word_is_first _)
    (λ e3. past (prefixlen_at prefix) tokens (word_begun _ tokens h e3) (prefixlen_local _))
    (λ e3. stays _ tokens h)))

-- a text of the first token, as long as a limit allows
text_by : {some : Bool} (limit : ℕ) (text : List Token → Option (List ℕ)) (tokens : List Token) → OfFirst text → NoneAtEnd text → IsText tokens → Local some (λ x. of_length limit x (text x)) tokens
text_by {some} limit text tokens o none h = by_first text (λ c x. of_length limit x c) tokens o by
  where
    long : (b : Bool) (v : List ℕ) → text tokens ≡ Some v → Local some (λ x. cond b (Ok (v, behind x)) (fails (TooMany Names) x)) tokens
    long true v e = takes v tokens (value_begun text none tokens h v e)
    long false v e = fails_here _ tokens h

    by : (c : Option (List ℕ)) → text tokens ≡ c → Local some (λ x. of_length limit x c) tokens
    by None e = fails_here _ tokens h
    by (Some v) e = long (nat_le (length v) limit) v e

name_none : NoneAtEnd (λ x. or_else (if_passes is_name (word_of x)) (if_passes is_name (text_of is_quoted x)))
unfolding text_of
name_none z rest k = rw (end_is_no_word z.kind k, end_is_not_quoted z.kind k) refl

pub name_local : {some : Bool} (tokens : List Token) → IsText tokens → Local some name_at tokens
unfolding name_at text_of
name_local tokens h = text_by most_name_bytes (λ x. or_else (if_passes is_name (word_of x)) (if_passes is_name (text_of is_quoted x))) tokens (λ z a b. refl) name_none h

group_name_none : NoneAtEnd (λ x. or_else (if_passes is_name (word_of x)) (if_passes is_quoted_group_name (text_of is_quoted x)))
unfolding text_of
group_name_none z rest k = rw (end_is_no_word z.kind k, end_is_not_quoted z.kind k) refl

pub group_name_local : {some : Bool} (tokens : List Token) → IsText tokens → Local some group_name_at tokens
unfolding group_name_at text_of
group_name_local tokens h = text_by most_name_bytes (λ x. or_else (if_passes is_name (word_of x)) (if_passes is_quoted_group_name (text_of is_quoted x))) tokens (λ z a b. refl) group_name_none h

quoted_none : NoneAtEnd (text_of is_quoted)
unfolding text_of
quoted_none z rest k = rw (end_is_not_quoted z.kind k) refl

pub quoted_local : {some : Bool} (tokens : List Token) → IsText tokens → Local some quoted_at tokens
unfolding quoted_at
quoted_local tokens h = text_by most_quoted_bytes (text_of is_quoted) tokens (text_of_first is_quoted) quoted_none h

pub unnamed_community_local : {some : Bool} (star : Bool) (tokens : List Token) → IsText tokens → Local some (unnamed_community_at star) tokens
unfolding unnamed_community_at text_of
unnamed_community_local star tokens h =
    one_of (λ x. word_passes is_name x) (λ x. fails NotInProfile x) _ tokens (word_passes_first _)
    (λ e1. fails_here _ tokens h)
    (λ e1. one_of (λ x. word_passes (is_pair star) x) (λ x. in_range x (pair_of (word_text x))) _ tokens (word_passes_first _)
    (λ e2. ranged (λ x. pair_of (word_text x)) tokens (λ z a b. refl) (passes_begun _ tokens h e2) h)
    (λ e2. fails_here _ tokens h))

named_none : NoneAtEnd (λ x. option_and_then named_community (word_of x))
unfolding text_of
named_none z rest k = rw (end_is_no_word z.kind k) refl

pub community_local : {some : Bool} (star : Bool) (tokens : List Token) → IsText tokens → Local some (community_at star) tokens
unfolding community_at text_of
community_local {some} star tokens h = by_first (λ x. option_and_then named_community (word_of x)) (λ c x. or_unnamed star x c) tokens (λ z a b. refl) by
  where
    by : (c : Option CommunityPattern) → option_and_then named_community (word_of tokens) ≡ c → Local some (λ x. or_unnamed star x c) tokens
    by None e = unnamed_community_local star tokens h
    by (Some p) e = takes p tokens (value_begun (λ x. option_and_then named_community (word_of x)) named_none tokens h p e)

pub large_community_local : {some : Bool} (star : Bool) (tokens : List Token) → IsText tokens → Local some (large_community_at star) tokens
unfolding large_community_at text_of
large_community_local star tokens h =
    one_of (λ x. word_passes (is_triple star) x) (λ x. in_range x (triple_of (word_text x))) _ tokens (word_passes_first _)
    (λ e1. ranged (λ x. triple_of (word_text x)) tokens (λ z a b. refl) (passes_begun _ tokens h e1) h)
    (λ e1. fails_here _ tokens h)
