-- Printed items and sets are read back.
use Rattle.std.proofs.Common.{◌≡◌, ◌∙◌, ℕ, ◌/◌, ◌%◌, ◌^◌, ◌<◌, Bool, true, false, not, eqb, List, [], ◌∷◌, ◌++◌, codes, decimal, Some, Ok, option_map, refl, ap, lit≤, arith}
use Rattle.std.proofs.lemmas.Bool.{or_parts}
use Rattle.net_base.specs.declared.addr.Addr.{Addr}
use Rattle.net_base.specs.Addr.{has_byte, addr_text}
use Rattle.conf_tree.specs.declared.token.Token.{Token}
use Rattle.conf_tree.specs.declared.token.TokenKind.TheVariants.{Word}
use Rattle.conf_tree.specs.declared.draft.SetPlace.{SetPlace}
use Rattle.conf_tree.specs.declared.rule.Change.{Change}
use Rattle.conf_tree.specs.declared.rule.Change.TheVariants.{Set, Add, Subtract}
use Rattle.conf_tree.specs.declared.rule.RouteOrigin.TheVariants.{Igp, Egp, Incomplete}
use Rattle.conf_tree.specs.declared.rule.CommunityPattern.{CommunityPattern}
use Rattle.conf_tree.specs.declared.rule.LargePattern.{LargePattern}
use Rattle.conf_tree.specs.declared.rule.NextHop.TheVariants as hops
use Rattle.conf_tree.specs.declared.rule.Item.{Item}
use Rattle.conf_tree.specs.declared.rule.Item.TheVariants as items
use Rattle.conf_tree.specs.Reading.{text_of, word_is, word_in, unless_full}
use Rattle.conf_tree.specs.Values.{word_passes, in_range}
use Rattle.conf_tree.specs.ItemReading.{is_signed, changed_by, change_at, local_pref_at, med_at, weight_at, prepend_self_at, prepend_neighbor_at, origin_at, deleted_community_at, added_community_at, community_item_at, deleted_large_at, added_large_at, large_item_at, is_to, is_network, hop_address_at, next_hop_item_at, naming_item_at, route_item_at, known_item_at, item_at}
use Rattle.conf_tree.specs.Canonical.{change_text, pattern_text, large_pattern_text, community_text}
use Rattle.conf_tree.specs.Readable.{IsWithin, IsChange, IsPattern, IsLargePattern, IsItem}
use Rattle.conf_round.proofs.Spread.{and_false}
use Rattle.conf_round.proofs.Pieces.{line_tokens}
use Rattle.conf_round.proofs.ItemLines.{item_pieces}
use Rattle.conf_round.proofs.ReadValues.{token, is_number_decimal, within_decimal, decimal_lacks, number_back}
use Rattle.conf_round.proofs.ReadTexts.{address_back, addr_unlike, no_blackhole, no_reject, no_self, no_no_modify}
use Rattle.conf_round.proofs.ReadPatterns.{joined_pair, joined_triple, community_back, large_back, unlike, has_colon, pattern_is_joined, large_is_joined, community_is_joined, halves}

-- ---- changes

unsigned_by : (sign b : ℕ) (text : List ℕ) → eqb b sign ≡ false → is_signed sign (b ∷ text) ≡ false
unsigned_by sign b text e = rw e refl

not_signed : (sign : ℕ) (text : List ℕ) → has_byte sign text ≡ false → is_signed sign text ≡ false
not_signed sign [] h = refl
not_signed sign (b ∷ text) h = unsigned_by sign b text ((or_parts (eqb b sign) (has_byte sign text) h).0)

small : (n : ℕ) → IsWithin 0 4294967295 n → n < 2 ^ 64
small n w = omega (arith, w.most)

value : (make : ℕ → Change) (n : ℕ) → IsWithin 0 4294967295 n → changed_by make (decimal n) ≡ Some (make n)
value make n w = ap (option_map make) (within_decimal 0 4294967295 n w (omega arith))

pub change_back : (change : Change) (line start end : ℕ) (rest : List Token) → IsChange change → change_at (token Word line start end (change_text change) ∷ rest) ≡ Ok (change, rest)
unfolding change_at word_passes text_of
change_back (Set n) line start end rest w =
    rw (not_signed 43 (decimal n) (decimal_lacks 43 n (small n w) (lit≤ tt)), not_signed 45 (decimal n) (decimal_lacks 45 n (small n w) (lit≤ tt)), is_number_decimal n (small n w))
    (ap (in_range (token Word line start end (decimal n) ∷ rest)) (value Set n w))
change_back (Add n) line start end rest w = rw (is_number_decimal n (small n w)) (ap (in_range (token Word line start end (43 ∷ decimal n) ∷ rest)) (value Add n w))
change_back (Subtract n) line start end rest w = rw (is_number_decimal n (small n w)) (ap (in_range (token Word line start end (45 ∷ decimal n) ∷ rest)) (value Subtract n w))

-- ---- one kind of item after another

abbrev pub ItemBack : SetPlace → Item → Type 0
ItemBack place item = (line at : ℕ) (rest : List Token) → item_at place false (line_tokens line at (item_pieces item) ++ rest) ≡ Ok (item, rest)

local_pref_back : (place : SetPlace) (change : Change) → IsChange change → ItemBack place (items.LocalPref change)
unfolding item_at word_in word_is text_of unless_full known_item_at local_pref_at
local_pref_back place change h line at rest = rw (and_false (is_network place)) (rw (change_back change line _ _ rest h) refl)

med_back : (place : SetPlace) (change : Change) → IsChange change → ItemBack place (items.Med change)
unfolding item_at word_in word_is text_of unless_full known_item_at med_at
med_back place change h line at rest = rw (and_false (is_network place)) (rw (change_back change line _ _ rest h) refl)

weight_back : (place : SetPlace) (change : Change) → IsChange change → ItemBack place (items.Weight change)
unfolding item_at word_in word_is text_of unless_full known_item_at weight_at
weight_back place change h line at rest = rw (and_false (is_network place)) (rw (change_back change line _ _ rest h) refl)

prepend_self_back : (place : SetPlace) (times : ℕ) → IsWithin 1 128 times → ItemBack place (items.PrependSelf times)
unfolding item_at word_in word_is text_of unless_full known_item_at route_item_at prepend_self_at
prepend_self_back place times h line at rest = rw (and_false (is_network place)) (rw (number_back 1 128 times line _ _ rest h (omega arith)) refl)

not_true : (b : Bool) → not b ≡ true → b ≡ false
not_true true e = absurd (cc)
not_true false e = refl

prepend_neighbor_back : (place : SetPlace) (times : ℕ) → IsWithin 1 128 times → not (is_network place) ≡ true → ItemBack place (items.PrependNeighbor times)
unfolding item_at word_in word_is text_of unless_full known_item_at route_item_at prepend_neighbor_at
prepend_neighbor_back place times h p line at rest = rw (not_true (is_network place) p) (rw (number_back 1 128 times line _ _ rest h (omega arith)) refl)

igp_back : (place : SetPlace) → ItemBack place (items.Origin Igp)
unfolding item_at word_in word_is text_of unless_full known_item_at route_item_at origin_at
igp_back place line at rest = rw (and_false (is_network place)) refl

egp_back : (place : SetPlace) → ItemBack place (items.Origin Egp)
unfolding item_at word_in word_is text_of unless_full known_item_at route_item_at origin_at
egp_back place line at rest = rw (and_false (is_network place)) refl

incomplete_back : (place : SetPlace) → ItemBack place (items.Origin Incomplete)
unfolding item_at word_in word_is text_of unless_full known_item_at route_item_at origin_at
incomplete_back place line at rest = rw (and_false (is_network place)) refl

-- ---- communities

abbrev pair_of_number : ℕ → CommunityPattern
pair_of_number n = record { high = Some (n / 65536); low = Some (n % 65536) }

half_fits : (n : ℕ) → IsWithin 0 4294967295 n → IsPattern (pair_of_number n)
half_fits n w = (record { least = omega arith; most = omega (arith, w.most) }, record { least = omega arith; most = omega arith })

added_back : (n line start end : ℕ) (rest : List Token) → IsWithin 0 4294967295 n → community_item_at (token Word line start end (joined_pair (Some (n / 65536)) (Some (n % 65536))) ∷ rest) ≡ Ok (items.Community n, rest)
unfolding community_item_at word_is text_of added_community_at
added_back n line start end rest w =
    let text : List ℕ = joined_pair (Some (n / 65536)) (Some (n % 65536)) in
    rw (unlike (codes "delete") text refl (has_colon (decimal (n / 65536)) (decimal (n % 65536))))
    (rw (community_back false (pair_of_number n) line start end rest (half_fits n w) tt tt) (ap (λ (m : ℕ). Ok (items.Community m, rest)) (halves n)))

added_printed : (n line start end : ℕ) (rest : List Token) → IsWithin 0 4294967295 n → community_item_at (token Word line start end (community_text n) ∷ rest) ≡ Ok (items.Community n, rest)
added_printed n line start end rest w = ap (λ (text : List ℕ). community_item_at (token Word line start end text ∷ rest)) (community_is_joined n) ∙ added_back n line start end rest w

community_item_back : (place : SetPlace) (n : ℕ) → IsWithin 0 4294967295 n → ItemBack place (items.Community n)
unfolding item_at word_in word_is text_of unless_full known_item_at route_item_at naming_item_at
community_item_back place n w line at rest = rw (and_false (is_network place)) (added_printed n line _ _ rest w)

deleted_back : (p : CommunityPattern) (line a b start end : ℕ) (rest : List Token) → IsPattern p → community_item_at (token Word line a b (codes "delete") ∷ token Word line start end (joined_pair p.high p.low) ∷ rest) ≡ Ok (items.DeleteCommunity p, rest)
unfolding community_item_at word_is text_of deleted_community_at
deleted_back p line a b start end rest h = rw (community_back true p line start end rest h tt tt) refl

deleted_printed : (p : CommunityPattern) (line a b start end : ℕ) (rest : List Token) → IsPattern p → community_item_at (token Word line a b (codes "delete") ∷ token Word line start end (pattern_text p) ∷ rest) ≡ Ok (items.DeleteCommunity p, rest)
deleted_printed p line a b start end rest h =
    ap (λ (text : List ℕ). community_item_at (token Word line a b (codes "delete") ∷ token Word line start end text ∷ rest)) (pattern_is_joined p) ∙ deleted_back p line a b start end rest h

delete_back : (place : SetPlace) (p : CommunityPattern) → IsPattern p → ItemBack place (items.DeleteCommunity p)
unfolding item_at word_in word_is text_of unless_full known_item_at route_item_at naming_item_at
delete_back place p h line at rest = rw (and_false (is_network place)) (deleted_printed p line _ _ _ _ rest h)

abbrev triple_of_numbers : ℕ → ℕ → ℕ → LargePattern
triple_of_numbers global one two = record { global = Some global; first = Some one; second = Some two }

added_large_back : (global one two line start end : ℕ) (rest : List Token) → IsWithin 0 4294967295 global → IsWithin 0 4294967295 one → IsWithin 0 4294967295 two
    → large_item_at (token Word line start end (joined_triple (triple_of_numbers global one two)) ∷ rest) ≡ Ok (items.LargeCommunity global one two, rest)
unfolding large_item_at word_is text_of added_large_at
added_large_back global one two line start end rest g f s =
    rw (unlike (codes "delete") (joined_triple (triple_of_numbers global one two)) refl (has_colon (decimal global) (joined_pair (Some one) (Some two))))
    (rw (large_back false (triple_of_numbers global one two) line start end rest (g, f, s) tt tt tt) refl)

large_item_back : (place : SetPlace) (global one two : ℕ) → IsWithin 0 4294967295 global → IsWithin 0 4294967295 one → IsWithin 0 4294967295 two → ItemBack place (items.LargeCommunity global one two)
unfolding item_at word_in word_is text_of unless_full known_item_at route_item_at naming_item_at
large_item_back place global one two g f s line at rest = rw (and_false (is_network place)) (added_large_back global one two line _ _ rest g f s)

deleted_large_back : (p : LargePattern) (line a b start end : ℕ) (rest : List Token) → IsLargePattern p → large_item_at (token Word line a b (codes "delete") ∷ token Word line start end (joined_triple p) ∷ rest) ≡ Ok (items.DeleteLargeCommunity p, rest)
unfolding large_item_at word_is text_of deleted_large_at
deleted_large_back p line a b start end rest h = rw (large_back true p line start end rest h tt tt tt) refl

deleted_large_printed : (p : LargePattern) (line a b start end : ℕ) (rest : List Token) → IsLargePattern p
    → large_item_at (token Word line a b (codes "delete") ∷ token Word line start end (large_pattern_text p) ∷ rest) ≡ Ok (items.DeleteLargeCommunity p, rest)
deleted_large_printed p line a b start end rest h =
    ap (λ (text : List ℕ). large_item_at (token Word line a b (codes "delete") ∷ token Word line start end text ∷ rest)) (large_is_joined p) ∙ deleted_large_back p line a b start end rest h

delete_large_back : (place : SetPlace) (p : LargePattern) → IsLargePattern p → ItemBack place (items.DeleteLargeCommunity p)
unfolding item_at word_in word_is text_of unless_full known_item_at route_item_at naming_item_at
delete_large_back place p h line at rest = rw (and_false (is_network place)) (deleted_large_printed p line _ _ _ _ rest h)

-- ---- next hops

hop_address_back : (place : SetPlace) (a : Addr) (line start end : ℕ) (rest : List Token) → next_hop_item_at place (token Word line start end (addr_text a) ∷ rest) ≡ Ok (items.NextHop (hops.Address a), rest)
unfolding next_hop_item_at word_in word_is text_of hop_address_at
hop_address_back place a line start end rest =
    rw (addr_unlike (codes "blackhole") a no_blackhole, addr_unlike (codes "reject") a no_reject, addr_unlike (codes "self") a no_self, addr_unlike (codes "no-modify") a no_no_modify, and_false (not (is_to place)))
    (rw (address_back a line start end rest) refl)

address_item_back : (place : SetPlace) (a : Addr) → ItemBack place (items.NextHop (hops.Address a))
unfolding item_at word_in word_is text_of unless_full known_item_at route_item_at naming_item_at
address_item_back place a line at rest = rw (and_false (is_network place)) (hop_address_back place a line _ _ rest)

own_back : (place : SetPlace) → is_to place ≡ true → ItemBack place (items.NextHop hops.Own)
unfolding item_at word_in word_is text_of unless_full known_item_at route_item_at naming_item_at next_hop_item_at
own_back place h line at rest = rw (and_false (is_network place), h) refl

no_modify_back : (place : SetPlace) → is_to place ≡ true → ItemBack place (items.NextHop hops.NoModify)
unfolding item_at word_in word_is text_of unless_full known_item_at route_item_at naming_item_at next_hop_item_at
no_modify_back place h line at rest = rw (and_false (is_network place), h) refl

-- ---- each item

pub item_back : (place : SetPlace) (item : Item) → IsItem place item → ItemBack place item
item_back place (items.LocalPref change) h = local_pref_back place change h
item_back place (items.Med change) h = med_back place change h
item_back place (items.Weight change) h = weight_back place change h
item_back place (items.PrependSelf times) h = prepend_self_back place times h
item_back place (items.PrependNeighbor times) h = prepend_neighbor_back place times h.0 h.1
item_back place (items.Origin Igp) h = igp_back place
item_back place (items.Origin Egp) h = egp_back place
item_back place (items.Origin Incomplete) h = incomplete_back place
item_back place (items.Community community) h = community_item_back place community h
item_back place (items.DeleteCommunity pattern) h = delete_back place pattern h
item_back place (items.LargeCommunity global one two) h = large_item_back place global one two h.0 h.1 h.2
item_back place (items.DeleteLargeCommunity pattern) h = delete_large_back place pattern h
item_back place (items.NextHop (hops.Address a)) h = address_item_back place a
item_back place (items.NextHop hops.Own) h = own_back place h
item_back place (items.NextHop hops.NoModify) h = no_modify_back place h
