-- Items of a `set` go by their own tokens.
use Rattle.std.proofs.Common.{refl}
use Rattle.std.specs.Prelude.{Bool, true, false, List, [], ◌∷◌, Ok, codes}
use Rattle.net_base.specs.declared.conf.ConfKind.TheVariants.{NotInProfile}
use Rattle.net_base.specs.declared.conf.Counted.TheVariants as counted
use Rattle.net_base.specs.Number.{is_number}
use Rattle.conf_tree.specs.declared.token.Token.{Token}
use Rattle.conf_tree.specs.declared.rule.Item.TheVariants as items
use Rattle.conf_tree.specs.declared.rule.Change.TheVariants as changes
use Rattle.conf_tree.specs.declared.rule.NextHop.TheVariants as hops
use Rattle.conf_tree.specs.declared.rule.RouteOrigin.TheVariants as origins
use Rattle.conf_tree.specs.declared.draft.SetPlace.{SetPlace}
use Rattle.conf_tree.specs.Reading.{fails, behind, word_is, word_in, unless_full}
use Rattle.conf_tree.specs.Values.{number_at, in_range, word_passes, word_text, address_at, community_at, large_community_at, one_community, number_or_zero}
use Rattle.conf_tree.specs.ItemReading.{is_signed, unsigned, changed_by, change_at, local_pref_at, med_at, weight_at, prepend_self_at, prepend_neighbor_at, origin_at, deleted_community_at, added_community_at, community_item_at, deleted_large_at, added_large_at, large_item_at, is_refused_hop, hop_address_at, next_hop_item_at, item_words, naming_item_at, route_item_at, known_item_at, is_refused_item, item_at, most_items, set_at, optional_set_at}
use Rattle.conf_tree.specs.Reading.{text_of}
use Rattle.conf_local.specs.Texts.{IsText}
use Rattle.conf_local.proofs.Local.{Begun, OfFirst, Local, stays, takes, past, fails_here, one_of, then, unless}
use Rattle.conf_local.proofs.Tests.{word_is_first, word_in_first, word_passes_first, word_begun, words_begun, passes_begun, ranged}
use Rattle.conf_local.proofs.Values.{number_local, address_local, community_local, large_community_local}
use Rattle.conf_local.proofs.Lists.{one_or_list_local}

refused_hop_first : (place : SetPlace) → OfFirst (is_refused_hop place)
unfolding word_in word_is text_of
refused_hop_first place z a b = refl

refused_item_first : (place : SetPlace) → OfFirst (is_refused_item place)
unfolding word_in word_is text_of
refused_item_first place z a b = refl

pub change_local : {some : Bool} (tokens : List Token) → IsText tokens → Local some change_at tokens
unfolding change_at text_of
change_local tokens h =
    one_of (λ x. word_passes (is_signed 43) x) (λ x. in_range x (changed_by changes.Add (unsigned (word_text x)))) _ tokens (word_passes_first _)
    (λ e1. ranged (λ x. changed_by changes.Add (unsigned (word_text x))) tokens (λ z a b. refl) (passes_begun _ tokens h e1) h)
    (λ e1. one_of (λ x. word_passes (is_signed 45) x) (λ x. in_range x (changed_by changes.Subtract (unsigned (word_text x)))) _ tokens (word_passes_first _)
    (λ e2. ranged (λ x. changed_by changes.Subtract (unsigned (word_text x))) tokens (λ z a b. refl) (passes_begun _ tokens h e2) h)
    (λ e2. one_of (λ x. word_passes is_number x) (λ x. in_range x (changed_by changes.Set (word_text x))) _ tokens (word_passes_first _)
    (λ e3. ranged (λ x. changed_by changes.Set (word_text x)) tokens (λ z a b. refl) (passes_begun _ tokens h e3) h)
    (λ e3. fails_here _ tokens h)))

pub local_pref_local : {some : Bool} (tokens : List Token) → IsText tokens → Local some local_pref_at tokens
unfolding local_pref_at
local_pref_local tokens h =
    then (λ x. change_at x) (λ change. Ok (items.LocalPref change.0, change.1)) tokens (change_local tokens h)
    (λ change t1 h1. stays _ t1 h1)

pub med_local : {some : Bool} (tokens : List Token) → IsText tokens → Local some med_at tokens
unfolding med_at
med_local tokens h =
    then (λ x. change_at x) (λ change. Ok (items.Med change.0, change.1)) tokens (change_local tokens h)
    (λ change t1 h1. stays _ t1 h1)

pub weight_local : {some : Bool} (tokens : List Token) → IsText tokens → Local some weight_at tokens
unfolding weight_at
weight_local tokens h =
    then (λ x. change_at x) (λ change. Ok (items.Weight change.0, change.1)) tokens (change_local tokens h)
    (λ change t1 h1. stays _ t1 h1)

pub prepend_self_local : {some : Bool} (tokens : List Token) → IsText tokens → Local some prepend_self_at tokens
unfolding prepend_self_at
prepend_self_local tokens h =
    then (λ x. number_at 1 128 x) (λ times. Ok (items.PrependSelf times.0, times.1)) tokens (number_local _ _ tokens h)
    (λ times t1 h1. stays _ t1 h1)

pub prepend_neighbor_local : {some : Bool} (tokens : List Token) → IsText tokens → Local some prepend_neighbor_at tokens
unfolding prepend_neighbor_at
prepend_neighbor_local tokens h =
    then (λ x. number_at 1 128 x) (λ times. Ok (items.PrependNeighbor times.0, times.1)) tokens (number_local _ _ tokens h)
    (λ times t1 h1. stays _ t1 h1)

pub origin_local : {some : Bool} (tokens : List Token) → IsText tokens → Local some origin_at tokens
unfolding origin_at
origin_local tokens h =
    one_of (λ x. word_is (codes "igp") x) (λ x. Ok (items.Origin origins.Igp, behind x)) _ tokens (word_is_first _)
    (λ e1. takes _ tokens (word_begun _ tokens h e1))
    (λ e1. one_of (λ x. word_is (codes "egp") x) (λ x. Ok (items.Origin origins.Egp, behind x)) _ tokens (word_is_first _)
    (λ e2. takes _ tokens (word_begun _ tokens h e2))
    (λ e2. one_of (λ x. word_is (codes "incomplete") x) (λ x. Ok (items.Origin origins.Incomplete, behind x)) _ tokens (word_is_first _)
    (λ e3. takes _ tokens (word_begun _ tokens h e3))
    (λ e3. fails_here _ tokens h)))

pub deleted_community_local : {some : Bool} (tokens : List Token) → IsText tokens → Local some deleted_community_at tokens
unfolding deleted_community_at
deleted_community_local tokens h =
    then (λ x. community_at true x) (λ pattern. Ok (items.DeleteCommunity pattern.0, pattern.1)) tokens (community_local _ tokens h)
    (λ pattern t1 h1. stays _ t1 h1)

pub added_community_local : {some : Bool} (tokens : List Token) → IsText tokens → Local some added_community_at tokens
unfolding added_community_at
added_community_local tokens h =
    then (λ x. community_at false x) (λ pattern. Ok (items.Community (one_community pattern.0), pattern.1)) tokens (community_local _ tokens h)
    (λ pattern t1 h1. stays _ t1 h1)

pub community_item_local : {some : Bool} (tokens : List Token) → IsText tokens → Local some community_item_at tokens
unfolding community_item_at
community_item_local tokens h =
    one_of (λ x. word_is (codes "delete") x) (λ x. deleted_community_at (behind x)) _ tokens (word_is_first _)
    (λ e1. past deleted_community_at tokens (word_begun _ tokens h e1) deleted_community_local)
    (λ e1. added_community_local tokens h)

pub deleted_large_local : {some : Bool} (tokens : List Token) → IsText tokens → Local some deleted_large_at tokens
unfolding deleted_large_at
deleted_large_local tokens h =
    then (λ x. large_community_at true x) (λ pattern. Ok (items.DeleteLargeCommunity pattern.0, pattern.1)) tokens (large_community_local _ tokens h)
    (λ pattern t1 h1. stays _ t1 h1)

pub added_large_local : {some : Bool} (tokens : List Token) → IsText tokens → Local some added_large_at tokens
unfolding added_large_at
added_large_local tokens h =
    then (λ x. large_community_at false x) (λ pattern. Ok (items.LargeCommunity (number_or_zero pattern.0.global) (number_or_zero pattern.0.first) (number_or_zero pattern.0.second), pattern.1)) tokens (large_community_local _ tokens h)
    (λ pattern t1 h1. stays _ t1 h1)

pub large_item_local : {some : Bool} (tokens : List Token) → IsText tokens → Local some large_item_at tokens
unfolding large_item_at
large_item_local tokens h =
    one_of (λ x. word_is (codes "delete") x) (λ x. deleted_large_at (behind x)) _ tokens (word_is_first _)
    (λ e1. past deleted_large_at tokens (word_begun _ tokens h e1) deleted_large_local)
    (λ e1. added_large_local tokens h)

pub hop_address_local : {some : Bool} (tokens : List Token) → IsText tokens → Local some hop_address_at tokens
unfolding hop_address_at
hop_address_local tokens h =
    then (λ x. address_at x) (λ address. Ok (items.NextHop (hops.Address address.0), address.1)) tokens (address_local tokens h)
    (λ address t1 h1. stays _ t1 h1)

pub next_hop_item_local : {some : Bool} (place : SetPlace) (tokens : List Token) → IsText tokens → Local some (next_hop_item_at place) tokens
unfolding next_hop_item_at
next_hop_item_local place tokens h =
    one_of (λ x. is_refused_hop place x) (λ x. fails NotInProfile x) _ tokens (refused_hop_first _)
    (λ e1. fails_here _ tokens h)
    (λ e1. one_of (λ x. word_is (codes "self") x) (λ x. Ok (items.NextHop hops.Own, behind x)) _ tokens (word_is_first _)
    (λ e2. takes _ tokens (word_begun _ tokens h e2))
    (λ e2. one_of (λ x. word_is (codes "no-modify") x) (λ x. Ok (items.NextHop hops.NoModify, behind x)) _ tokens (word_is_first _)
    (λ e3. takes _ tokens (word_begun _ tokens h e3))
    (λ e3. hop_address_local tokens h)))

pub naming_item_local : {some : Bool} (place : SetPlace) (tokens : List Token) → IsText tokens → Begun tokens → Local some (naming_item_at place) tokens
unfolding naming_item_at
naming_item_local place tokens h b =
    one_of (λ x. word_is (codes "community") x) (λ x. community_item_at (behind x)) _ tokens (word_is_first _)
    (λ e1. past community_item_at tokens (word_begun _ tokens h e1) community_item_local)
    (λ e1. one_of (λ x. word_is (codes "large-community") x) (λ x. large_item_at (behind x)) _ tokens (word_is_first _)
    (λ e2. past large_item_at tokens (word_begun _ tokens h e2) large_item_local)
    (λ e2. past (next_hop_item_at place) tokens b (next_hop_item_local _)))

pub route_item_local : {some : Bool} (place : SetPlace) (tokens : List Token) → IsText tokens → Begun tokens → Local some (route_item_at place) tokens
unfolding route_item_at
route_item_local place tokens h b =
    one_of (λ x. word_is (codes "prepend-self") x) (λ x. prepend_self_at (behind x)) _ tokens (word_is_first _)
    (λ e1. past prepend_self_at tokens (word_begun _ tokens h e1) prepend_self_local)
    (λ e1. one_of (λ x. word_is (codes "prepend-neighbor") x) (λ x. prepend_neighbor_at (behind x)) _ tokens (word_is_first _)
    (λ e2. past prepend_neighbor_at tokens (word_begun _ tokens h e2) prepend_neighbor_local)
    (λ e2. one_of (λ x. word_is (codes "origin") x) (λ x. origin_at (behind x)) _ tokens (word_is_first _)
    (λ e3. past origin_at tokens (word_begun _ tokens h e3) origin_local)
    (λ e3. naming_item_local _ tokens h b)))

pub known_item_local : {some : Bool} (place : SetPlace) (tokens : List Token) → IsText tokens → Begun tokens → Local some (known_item_at place) tokens
unfolding known_item_at
known_item_local place tokens h b =
    one_of (λ x. word_is (codes "localpref") x) (λ x. local_pref_at (behind x)) _ tokens (word_is_first _)
    (λ e1. past local_pref_at tokens (word_begun _ tokens h e1) local_pref_local)
    (λ e1. one_of (λ x. word_in (codes "med" ∷ codes "metric" ∷ []) x) (λ x. med_at (behind x)) _ tokens (word_in_first _)
    (λ e2. past med_at tokens (words_begun _ tokens h e2) med_local)
    (λ e2. one_of (λ x. word_is (codes "weight") x) (λ x. weight_at (behind x)) _ tokens (word_is_first _)
    (λ e3. past weight_at tokens (word_begun _ tokens h e3) weight_local)
    (λ e3. route_item_local _ tokens h b)))

pub item_local : {some : Bool} (place : SetPlace) (full : Bool) (tokens : List Token) → IsText tokens → Local some (item_at place full) tokens
unfolding item_at
item_local place full tokens h =
    one_of (λ x. is_refused_item place x) (λ x. fails NotInProfile x) _ tokens (refused_item_first _)
    (λ e1. fails_here _ tokens h)
    (λ e1. one_of (λ x. word_in item_words x) (λ x. unless_full full counted.Items x (known_item_at place x)) _ tokens (word_in_first _)
    (λ e2. unless (λ x. known_item_at place x) _ _ tokens h (known_item_local _ tokens h (words_begun _ tokens h e2)))
    (λ e2. fails_here _ tokens h))

pub set_local : {some : Bool} (place : SetPlace) (tokens : List Token) → IsText tokens → Local some (set_at place) tokens
unfolding set_at
set_local place tokens h = one_or_list_local (item_at place) (item_local place) most_items tokens h

pub optional_set_local : (place : SetPlace) (tokens : List Token) → IsText tokens → Local false (optional_set_at place) tokens
unfolding optional_set_at
optional_set_local place tokens h =
    one_of (λ x. word_is (codes "set") x) (λ x. set_at place (behind x)) _ tokens (word_is_first _)
    (λ e1. past (set_at place) tokens (word_begun _ tokens h e1) (set_local _))
    (λ e1. stays _ tokens h)
