-- The items of a set as tokens.
use Rattle.std.proofs.Common.{◌≡◌, ◌∙◌, ℕ, ◌/◌, ◌%◌, ◌^◌, ◌<◌, List, [], ◌∷◌, ◌++◌, append_assoc, flat_map, codes, decimal, Option, Some, None, refl, ap, sym, inl, inr, arith}
use Rattle.conf_tree.specs.declared.token.TokenKind.TheVariants.{Word}
use Rattle.conf_tree.specs.declared.rule.Change.{Change}
use Rattle.conf_tree.specs.declared.rule.Change.TheVariants.{Set, Add, Subtract}
use Rattle.conf_tree.specs.declared.rule.CommunityPattern.{CommunityPattern}
use Rattle.conf_tree.specs.declared.rule.LargePattern.{LargePattern}
use Rattle.conf_tree.specs.declared.rule.RouteOrigin.{RouteOrigin}
use Rattle.conf_tree.specs.declared.rule.RouteOrigin.TheVariants.{Igp, Egp, Incomplete}
use Rattle.conf_tree.specs.declared.rule.NextHop.{NextHop}
use Rattle.conf_tree.specs.declared.rule.NextHop.TheVariants as hops
use Rattle.conf_tree.specs.declared.rule.Item.{Item}
use Rattle.conf_tree.specs.declared.rule.Item.TheVariants as items
use Rattle.conf_tree.specs.Canonical.{change_text, part_text, pattern_text, large_pattern_text, community_text, large_text, origin_word, hop_text, item_text, set_text, set_behind}
use Rattle.conf_round.proofs.Plain.{ArePlain, both_plain, plain}
use Rattle.conf_round.proofs.Words.{keyword, decimal_plain, decimal_word, addr_word, longer_word}
use Rattle.conf_round.proofs.Pieces.{Piece, IsText}
use Rattle.conf_round.proofs.Lines.{pieces_text, pieces_append, AreFollowing, following_both, word, opening, closing, comma, with_word, with_opening, with_closing, with_comma}

-- ---- numbers of 64 bits are words

abbrev pub IsSmallChange : Change → Type 0
IsSmallChange (Set n) = n < 2 ^ 64
IsSmallChange (Add n) = n < 2 ^ 64
IsSmallChange (Subtract n) = n < 2 ^ 64

change_word : (change : Change) → IsSmallChange change → IsText Word (change_text change)
change_word (Set n) h = decimal_word n h
change_word (Add n) h = (plain 43 (inl (omega arith, omega arith)), decimal_plain n h)
change_word (Subtract n) h = (plain 45 (inr (inl (omega arith, omega arith))), decimal_plain n h)

abbrev pub IsSmallPart : Option ℕ → Type 0
IsSmallPart None = Unit {0}
IsSmallPart (Some n) = n < 2 ^ 64

part_word : (part : Option ℕ) → IsSmallPart part → IsText Word (part_text part)
part_word None h = (plain 42 (inl (omega arith, omega arith)), tt)
part_word (Some n) h = decimal_word n h

part_plain : (part : Option ℕ) → IsSmallPart part → ArePlain (part_text part)
part_plain None h = (plain 42 (inl (omega arith, omega arith)), tt)
part_plain (Some n) h = decimal_plain n h

colon_plain : (text : List ℕ) → ArePlain text → ArePlain (codes ":" ++ text)
colon_plain text h = (plain 58 (inr (inl (omega arith, omega arith))), h)

pub pattern_word : (p : CommunityPattern) → IsSmallPart p.high → IsSmallPart p.low → IsText Word (pattern_text p)
unfolding pattern_text
pattern_word p high low = longer_word (part_text p.high) (codes ":" ++ part_text p.low) (part_word p.high high) (colon_plain (part_text p.low) (part_plain p.low low))

pub large_pattern_word : (p : LargePattern) → IsSmallPart p.global → IsSmallPart p.first → IsSmallPart p.second → IsText Word (large_pattern_text p)
unfolding large_pattern_text
large_pattern_word p global first second =
    longer_word (part_text p.global) (codes ":" ++ (part_text p.first ++ (codes ":" ++ part_text p.second))) (part_word p.global global)
    (colon_plain (part_text p.first ++ (codes ":" ++ part_text p.second)) (both_plain (part_text p.first) (codes ":" ++ part_text p.second) (part_plain p.first first) (colon_plain (part_text p.second) (part_plain p.second second))))

community_word : (n : ℕ) → n < 2 ^ 32 → IsText Word (community_text n)
unfolding community_text
community_word n h = longer_word (decimal (n / 65536)) (codes ":" ++ decimal (n % 65536)) (decimal_word (n / 65536) (omega arith)) (colon_plain (decimal (n % 65536)) (decimal_plain (n % 65536) (omega arith)))

large_word : (global first second : ℕ) → global < 2 ^ 64 → first < 2 ^ 64 → second < 2 ^ 64 → IsText Word (large_text global first second)
large_word global first second g f s =
    longer_word (decimal global) (codes ":" ++ (decimal first ++ (codes ":" ++ decimal second))) (decimal_word global g)
    (colon_plain (decimal first ++ (codes ":" ++ decimal second)) (both_plain (decimal first) (codes ":" ++ decimal second) (decimal_plain first f) (colon_plain (decimal second) (decimal_plain second s))))

origin_is_word : (origin : RouteOrigin) → IsText Word (origin_word origin)
origin_is_word Igp = keyword 105 (codes "gp") refl
origin_is_word Egp = keyword 101 (codes "gp") refl
origin_is_word Incomplete = keyword 105 (codes "ncomplete") refl

hop_word : (hop : NextHop) → IsText Word (hop_text hop)
hop_word (hops.Address address) = addr_word address
hop_word hops.Own = keyword 115 (codes "elf") refl
hop_word hops.NoModify = keyword 110 (codes "o-modify") refl

-- ---- items

abbrev pub IsSmallItem : Item → Type 0
IsSmallItem (items.LocalPref change) = IsSmallChange change
IsSmallItem (items.Med change) = IsSmallChange change
IsSmallItem (items.Weight change) = IsSmallChange change
IsSmallItem (items.PrependSelf times) = times < 2 ^ 64
IsSmallItem (items.PrependNeighbor times) = times < 2 ^ 64
IsSmallItem (items.Origin origin) = Unit {0}
IsSmallItem (items.Community community) = community < 2 ^ 32
IsSmallItem (items.DeleteCommunity pattern) = IsSmallPart pattern.high × IsSmallPart pattern.low
IsSmallItem (items.LargeCommunity global one two) = (global < 2 ^ 64) × (one < 2 ^ 64) × (two < 2 ^ 64)
IsSmallItem (items.DeleteLargeCommunity pattern) = IsSmallPart pattern.global × IsSmallPart pattern.first × IsSmallPart pattern.second
IsSmallItem (items.NextHop hop) = Unit {0}

abbrev pub AreSmallItems : List Item → Type 0
AreSmallItems [] = Unit {0}
AreSmallItems (item ∷ set) = IsSmallItem item × AreSmallItems set

abbrev pub item_pieces : Item → List Piece
item_pieces (items.LocalPref change) = word (codes "localpref") ∷ word (change_text change) ∷ []
item_pieces (items.Med change) = word (codes "med") ∷ word (change_text change) ∷ []
item_pieces (items.Weight change) = word (codes "weight") ∷ word (change_text change) ∷ []
item_pieces (items.PrependSelf times) = word (codes "prepend-self") ∷ word (decimal times) ∷ []
item_pieces (items.PrependNeighbor times) = word (codes "prepend-neighbor") ∷ word (decimal times) ∷ []
item_pieces (items.Origin origin) = word (codes "origin") ∷ word (origin_word origin) ∷ []
item_pieces (items.Community community) = word (codes "community") ∷ word (community_text community) ∷ []
item_pieces (items.DeleteCommunity pattern) = word (codes "community") ∷ word (codes "delete") ∷ word (pattern_text pattern) ∷ []
item_pieces (items.LargeCommunity global one two) = word (codes "large-community") ∷ word (large_text global one two) ∷ []
item_pieces (items.DeleteLargeCommunity pattern) = word (codes "large-community") ∷ word (codes "delete") ∷ word (large_pattern_text pattern) ∷ []
item_pieces (items.NextHop hop) = word (codes "nexthop") ∷ word (hop_text hop) ∷ []

item_is : (item : Item) (rest : List ℕ) → pieces_text (item_pieces item) rest ≡ 32 ∷ (item_text item ++ rest)
unfolding item_text
item_is (items.LocalPref change) rest = refl
item_is (items.Med change) rest = refl
item_is (items.Weight change) rest = refl
item_is (items.PrependSelf times) rest = refl
item_is (items.PrependNeighbor times) rest = refl
item_is (items.Origin origin) rest = refl
item_is (items.Community community) rest = refl
item_is (items.DeleteCommunity pattern) rest = refl
item_is (items.LargeCommunity global one two) rest = refl
item_is (items.DeleteLargeCommunity pattern) rest = refl
item_is (items.NextHop hop) rest = refl

two_words : (b : ℕ) (key text : List ℕ) → IsText Word (b ∷ key) → IsText Word text → AreFollowing (word (b ∷ key) ∷ word text ∷ [])
two_words b key text k t = with_word (b ∷ key) (word text ∷ []) k (with_word text [] t tt)

item_follows : (item : Item) → IsSmallItem item → AreFollowing (item_pieces item)
item_follows (items.LocalPref change) h = two_words 108 (codes "ocalpref") (change_text change) (keyword 108 (codes "ocalpref") refl) (change_word change h)
item_follows (items.Med change) h = two_words 109 (codes "ed") (change_text change) (keyword 109 (codes "ed") refl) (change_word change h)
item_follows (items.Weight change) h = two_words 119 (codes "eight") (change_text change) (keyword 119 (codes "eight") refl) (change_word change h)
item_follows (items.PrependSelf times) h = two_words 112 (codes "repend-self") (decimal times) (keyword 112 (codes "repend-self") refl) (decimal_word times h)
item_follows (items.PrependNeighbor times) h = two_words 112 (codes "repend-neighbor") (decimal times) (keyword 112 (codes "repend-neighbor") refl) (decimal_word times h)
item_follows (items.Origin origin) h = two_words 111 (codes "rigin") (origin_word origin) (keyword 111 (codes "rigin") refl) (origin_is_word origin)
item_follows (items.Community community) h = two_words 99 (codes "ommunity") (community_text community) (keyword 99 (codes "ommunity") refl) (community_word community h)
item_follows (items.DeleteCommunity pattern) h = with_word (codes "community") (word (codes "delete") ∷ word (pattern_text pattern) ∷ []) (keyword 99 (codes "ommunity") refl) (two_words 100 (codes "elete") (pattern_text pattern) (keyword 100 (codes "elete") refl) (pattern_word pattern h.0 h.1))
item_follows (items.LargeCommunity global one two) h = two_words 108 (codes "arge-community") (large_text global one two) (keyword 108 (codes "arge-community") refl) (large_word global one two h.0 h.1 h.2)
item_follows (items.DeleteLargeCommunity pattern) h = with_word (codes "large-community") (word (codes "delete") ∷ word (large_pattern_text pattern) ∷ []) (keyword 108 (codes "arge-community") refl) (two_words 100 (codes "elete") (large_pattern_text pattern) (keyword 100 (codes "elete") refl) (large_pattern_word pattern h.0 h.1 h.2))
item_follows (items.NextHop hop) h = two_words 110 (codes "exthop") (hop_text hop) (keyword 110 (codes "exthop") refl) (hop_word hop)

-- ---- sets

abbrev pub more_pieces : List Item → List Piece
more_pieces [] = closing ∷ []
more_pieces (item ∷ set) = comma ∷ (item_pieces item ++ more_pieces set)

abbrev pub set_pieces : List Item → List Piece
set_pieces [] = word (codes "set") ∷ opening ∷ []
set_pieces (item ∷ set) = word (codes "set") ∷ opening ∷ (item_pieces item ++ more_pieces set)

more_is : (set : List Item) (rest : List ℕ) → pieces_text (more_pieces set) rest ≡ flat_map (λ item. codes ", " ++ item_text item) set ++ (codes " }" ++ rest)
more_is [] rest = refl
more_is (item ∷ set) rest =
    ap (λ (l : List ℕ). 44 ∷ l) (pieces_append (item_pieces item) (more_pieces set) rest ∙ item_is item (pieces_text (more_pieces set) rest)
    ∙ ap (λ (l : List ℕ). 32 ∷ (item_text item ++ l)) (more_is set rest))
    ∙ ap (λ (l : List ℕ). 44 ∷ 32 ∷ l) (sym (append_assoc (item_text item) (flat_map (λ item. codes ", " ++ item_text item) set) (codes " }" ++ rest)))

pub set_is : (item : Item) (set : List Item) (rest : List ℕ) → pieces_text (set_pieces (item ∷ set)) rest ≡ 32 ∷ (set_text (item ∷ set) ++ rest)
unfolding set_text
set_is item set rest =
    let others : List ℕ = flat_map (λ item. codes ", " ++ item_text item) set in
    ap (λ (l : List ℕ). codes " set {" ++ l) (pieces_append (item_pieces item) (more_pieces set) rest ∙ item_is item (pieces_text (more_pieces set) rest)
    ∙ ap (λ (l : List ℕ). 32 ∷ (item_text item ++ l)) (more_is set rest))
    ∙ ap (λ (l : List ℕ). codes " set { " ++ l)
    (sym (append_assoc (item_text item) others (codes " }" ++ rest)) ∙ sym (append_assoc (item_text item ++ others) (codes " }") rest))

more_follow : (set : List Item) → AreSmallItems set → AreFollowing (more_pieces set)
more_follow [] h = with_closing [] tt
more_follow (item ∷ set) h = with_comma (item_pieces item ++ more_pieces set) (following_both (item_pieces item) (more_pieces set) (item_follows item h.0) (more_follow set h.1))

pub set_follows : (item : Item) (set : List Item) → AreSmallItems (item ∷ set) → AreFollowing (set_pieces (item ∷ set))
set_follows item set h =
    with_word (codes "set") (opening ∷ (item_pieces item ++ more_pieces set)) (keyword 115 (codes "et") refl) (with_opening (item_pieces item ++ more_pieces set) (following_both (item_pieces item) (more_pieces set) (item_follows item h.0) (more_follow set h.1)))

-- the set behind a statement, which has none where there are no items
abbrev pub behind_pieces : List Item → List Piece
behind_pieces [] = []
behind_pieces (item ∷ set) = set_pieces (item ∷ set)

pub behind_is : (set : List Item) (rest : List ℕ) → pieces_text (behind_pieces set) rest ≡ set_behind set ++ rest
behind_is [] rest = refl
behind_is (item ∷ set) rest = set_is item set rest

pub behind_follows : (set : List Item) → AreSmallItems set → AreFollowing (behind_pieces set)
behind_follows [] h = tt
behind_follows (item ∷ set) h = set_follows item set h
