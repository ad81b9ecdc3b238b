-- The lines of a canonical text are good where the values of the configuration can be written.
use Rattle.std.proofs.Common.{◌≡◌, ℕ, ◌≤◌, Bool, true, false, not, ◌||◌, eqb, List, [], ◌∷◌, ◌++◌, map, flat_map, codes, decimal, Option, Some, None, refl, inl, inr, arith}
use Rattle.std.proofs.lemmas.Bool.Decides.{nat_tests}
use Rattle.net_base.specs.declared.addr.Family.{Family}
use Rattle.net_base.specs.declared.addr.Family.TheVariants.{V4, V6}
use Rattle.net_base.specs.declared.addr.Addr.{Addr}
use Rattle.net_base.specs.declared.prefix.Prefix.{Prefix}
use Rattle.net_base.specs.declared.roa.Roa.{Roa}
use Rattle.net_base.specs.Width.{width_of}
use Rattle.net_base.specs.Addr.{addr_text}
use Rattle.net_base.specs.Prefix.{prefix_text}
use Rattle.conf_tree.specs.declared.token.TokenKind.TheVariants.{Word, Quoted}
use Rattle.conf_tree.specs.declared.conf.Conf.{Conf}
use Rattle.conf_tree.specs.declared.conf.Listen.{Listen}
use Rattle.conf_tree.specs.declared.conf.Network.{Network}
use Rattle.conf_tree.specs.declared.conf.Rib.{Rib}
use Rattle.conf_tree.specs.declared.draft.SetPlace.{SetPlace}
use Rattle.conf_tree.specs.declared.draft.SetPlace.TheVariants as places
use Rattle.conf_tree.specs.declared.rule.Change.{Change}
use Rattle.conf_tree.specs.declared.rule.Change.TheVariants.{Set, Add, Subtract}
use Rattle.conf_tree.specs.declared.rule.Item.{Item}
use Rattle.conf_tree.specs.declared.rule.Item.TheVariants as items
use Rattle.conf_tree.specs.declared.sets.PrefixRange.{PrefixRange}
use Rattle.conf_tree.specs.declared.sets.PrefixSetConf.{PrefixSetConf}
use Rattle.conf_tree.specs.declared.sets.AsSetConf.{AsSetConf}
use Rattle.conf_tree.specs.declared.sets.OriginSetConf.{OriginSetConf}
use Rattle.conf_tree.specs.Joined.{is_lf}
use Rattle.conf_tree.specs.Cuts.{is_quote}
use Rattle.conf_tree.specs.Canonical.{yes_no}
use Rattle.conf_tree.specs.Readable.{Each, IfThere, IsName, IsQuotedText, IsGroupName, can_be_quoted, IsWithin, IsHold, IsChange, IsPart, IsItem, IsListen, IsRib, IsRange, IsRoa, IsAs, IsPrefixSet, IsAsSet, IsOriginSet, IsNetwork}
use Rattle.conf_tree.proofs.Both.{and_first, and_second}
use Rattle.conf_round.proofs.Cutting.{AreInside}
use Rattle.conf_round.proofs.Pieces.{Piece, IsText}
use Rattle.conf_round.proofs.Words.{keyword, decimal_word, addr_word, prefix_word, name_word}
use Rattle.conf_round.proofs.Lines.{AreFollowing, IsGoodLine, AreGoodLines, good_both, first, word, quote, opening, shut, with_word, with_quote, with_opening, from_first, from_tabbed, shut_line}
use Rattle.conf_round.proofs.ItemLines.{IsSmallChange, IsSmallPart, IsSmallItem, AreSmallItems, behind_pieces, behind_follows}
use Rattle.conf_round.proofs.SetLines.{given_lines, set_lines, as_pieces, router_id_pieces, hold_pieces, hold_min_pieces, fib_update_pieces, qualify_pieces, compare_word, med_pieces, socket_pieces, listen_pieces, globals_lines, table_pieces, rib_pieces, range_rest, range_pieces, number_pieces, roa_pieces, head_pieces, block_lines, prefix_set_lines, as_set_lines, origin_set_lines, roa_set_lines, sets_lines, network_pieces}

-- ---- texts and numbers

apart : (b : ℕ) → not (eqb b 34 || eqb b 10) ≡ true → (is_quote b ≡ false) × (is_lf b ≡ false)
apart b h = (grind (arith, nat_tests), grind (arith, nat_tests))

pub inside_of : (text : List ℕ) → can_be_quoted text ≡ true → AreInside text
inside_of [] e = tt
inside_of (b ∷ text) e =
    let here = apart b (and_first (not (eqb b 34 || eqb b 10)) (can_be_quoted text) e) in
    (here.0, here.1, inside_of text (and_second (not (eqb b 34 || eqb b 10)) (can_be_quoted text) e))

pub quoted_is : (text : List ℕ) → IsQuotedText text → IsText Quoted text
quoted_is text q = (inside_of text q.inside, q.utf8)

pub group_is : (name : List ℕ) → IsGroupName name → IsText Quoted name
group_is name q = (inside_of name q.inside, q.utf8)

pub name_is : (name : List ℕ) → IsName name → IsText Word name
name_is name n = name_word name n.form

pub within_is : (low high n : ℕ) → high ≤ 4294967295 → IsWithin low high n → IsText Word (decimal n)
within_is low high n h w = decimal_word n (omega (arith, h, w.most))

pub hold_is : (n : ℕ) → IsHold n → IsText Word (decimal n)
hold_is n (inl e) = decimal_word n (omega (arith, e))
hold_is n (inr w) = within_is 3 65535 n (omega arith) w

width_small : (family : Family) → width_of family ≤ 128
width_small V4 = omega arith
width_small V6 = omega arith

pub prefix_is : (p : Prefix) → IsText Word (prefix_text p)
prefix_is p = prefix_word p (omega (arith, p.within, width_small p.family))

yes_no_is : (flag : Bool) → IsText Word (yes_no flag)
yes_no_is true = keyword 121 (codes "es") refl
yes_no_is false = keyword 110 (codes "o") refl

-- ---- items

small_change : (change : Change) → IsChange change → IsSmallChange change
small_change (Set n) h = omega (arith, h.most)
small_change (Add n) h = omega (arith, h.most)
small_change (Subtract n) h = omega (arith, h.most)

pub small_part : (most : ℕ) (part : Option ℕ) → most ≤ 4294967295 → IsPart most part → IsSmallPart part
small_part most None m h = tt
small_part most (Some n) m h = omega (arith, h.most)

small_item : (place : SetPlace) (item : Item) → IsItem place item → IsSmallItem item
small_item place (items.LocalPref change) h = small_change change h
small_item place (items.Med change) h = small_change change h
small_item place (items.Weight change) h = small_change change h
small_item place (items.PrependSelf times) h = omega (arith, h.most)
small_item place (items.PrependNeighbor times) h = omega (arith, h.0.most)
small_item place (items.Origin origin) h = tt
small_item place (items.Community community) h = omega (arith, h.most)
small_item place (items.DeleteCommunity pattern) h = (small_part 65535 pattern.high (omega arith) h.0, small_part 65535 pattern.low (omega arith) h.1)
small_item place (items.LargeCommunity global one two) h = (omega (arith, h.0.most), omega (arith, h.1.most), omega (arith, h.2.most))
small_item place (items.DeleteLargeCommunity pattern) h = (small_part 4294967295 pattern.global (omega arith) h.0, small_part 4294967295 pattern.first (omega arith) h.1, small_part 4294967295 pattern.second (omega arith) h.2)
small_item place (items.NextHop hop) h = tt

pub small_items : (place : SetPlace) (set : List Item) → Each (IsItem place) set → AreSmallItems set
small_items place [] h = tt
small_items place (item ∷ set) h = (small_item place item h.0, small_items place set h.1)

-- ---- lists of lines

pub good_map : {A : Type 0} (Is : A → Type 0) (line : A → List Piece) → ((x : A) → Is x → IsGoodLine (line x)) → (xs : List A) → Each Is xs → AreGoodLines (map line xs)
good_map Is line good [] h = tt
good_map Is line good (x ∷ xs) h = (good x h.0, good_map Is line good xs h.1)

pub good_flat : {A : Type 0} (Is : A → Type 0) (lines : A → List (List Piece)) → ((x : A) → Is x → AreGoodLines (lines x)) → (xs : List A) → Each Is xs → AreGoodLines (flat_map lines xs)
good_flat Is lines good [] h = tt
good_flat Is lines good (x ∷ xs) h = good_both (lines x) (flat_map lines xs) (good x h.0) (good_flat Is lines good xs h.1)

pub good_given : {A : Type 0} (Is : A → Type 0) (line : A → List Piece) → ((x : A) → Is x → IsGoodLine (line x)) → (value : Option A) → IfThere Is value → AreGoodLines (given_lines line value)
good_given Is line good None h = tt
good_given Is line good (Some value) h = (good value h, tt)

pub good_set : (flag : Bool) (line : List Piece) → IsGoodLine line → AreGoodLines (set_lines flag line)
good_set true line good = (good, tt)
good_set false line good = tt

pub good_block : (head : List Piece) (inner : List (List Piece)) → IsGoodLine head → AreGoodLines inner → AreGoodLines (block_lines head inner)
good_block head inner h i = (h, good_both inner ((shut ∷ []) ∷ []) i (shut_line, tt))

-- ---- global values

as_good : (asn : ℕ) → IsAs asn → IsGoodLine (as_pieces asn)
as_good asn h = from_first (codes "AS") (word (decimal asn) ∷ []) (keyword 65 (codes "S") refl) (with_word (decimal asn) [] (within_is 1 4294967295 asn (omega arith) h) tt)

router_id_good : (bits : ℕ) → bits ≤ 4294967295 → IsGoodLine (router_id_pieces bits)
router_id_good bits h =
    let address : Addr = record { family = V4; bits = bits; in_family = omega (arith, h) } in
    from_first (codes "router-id") (word (addr_text address) ∷ []) (keyword 114 (codes "outer-id") refl) (with_word (addr_text address) [] (addr_word address) tt)

hold_good : (n : ℕ) → IsHold n → IsGoodLine (hold_pieces n)
hold_good n h = from_first (codes "holdtime") (word (decimal n) ∷ []) (keyword 104 (codes "oldtime") refl) (with_word (decimal n) [] (hold_is n h) tt)

hold_min_good : (n : ℕ) → IsWithin 3 65535 n → IsGoodLine (hold_min_pieces n)
hold_min_good n h =
    from_first (codes "holdtime") (word (codes "min") ∷ word (decimal n) ∷ []) (keyword 104 (codes "oldtime") refl) (with_word (codes "min") (word (decimal n) ∷ []) (keyword 109 (codes "in") refl) (with_word (decimal n) [] (within_is 3 65535 n (omega arith) h) tt))

fib_update_good : (updates : Bool) → IsGoodLine (fib_update_pieces updates)
fib_update_good updates = from_first (codes "fib-update") (word (yes_no updates) ∷ []) (keyword 102 (codes "ib-update") refl) (with_word (yes_no updates) [] (yes_no_is updates) tt)

qualify_good : IsGoodLine qualify_pieces
qualify_good =
    from_first (codes "nexthop") (word (codes "qualify") ∷ word (codes "via") ∷ word (codes "default") ∷ []) (keyword 110 (codes "exthop") refl)
    (with_word (codes "qualify") (word (codes "via") ∷ word (codes "default") ∷ []) (keyword 113 (codes "ualify") refl)
    (with_word (codes "via") (word (codes "default") ∷ []) (keyword 118 (codes "ia") refl) (with_word (codes "default") [] (keyword 100 (codes "efault") refl) tt)))

compare_is : (always : Bool) → IsText Word (compare_word always)
compare_is true = keyword 97 (codes "lways") refl
compare_is false = keyword 115 (codes "trict") refl

med_good : (always : Bool) → IsGoodLine (med_pieces always)
med_good always =
    from_first (codes "rde") (word (codes "med") ∷ word (codes "compare") ∷ word (compare_word always) ∷ []) (keyword 114 (codes "de") refl)
    (with_word (codes "med") (word (codes "compare") ∷ word (compare_word always) ∷ []) (keyword 109 (codes "ed") refl)
    (with_word (codes "compare") (word (compare_word always) ∷ []) (keyword 99 (codes "ompare") refl) (with_word (compare_word always) [] (compare_is always) tt)))

socket_good : (path : List ℕ) → IsQuotedText path → IsGoodLine (socket_pieces path)
socket_good path h = from_first (codes "socket") (quote path ∷ []) (keyword 115 (codes "ocket") refl) (with_quote path [] (quoted_is path h) tt)

listen_good : (l : Listen) → IsListen l → IsGoodLine (listen_pieces l)
listen_good l h =
    from_first (codes "listen") (word (codes "on") ∷ word (addr_text l.address) ∷ word (codes "port") ∷ word (decimal l.port) ∷ []) (keyword 108 (codes "isten") refl)
    (with_word (codes "on") (word (addr_text l.address) ∷ word (codes "port") ∷ word (decimal l.port) ∷ []) (keyword 111 (codes "n") refl)
    (with_word (addr_text l.address) (word (codes "port") ∷ word (decimal l.port) ∷ []) (addr_word l.address)
    (with_word (codes "port") (word (decimal l.port) ∷ []) (keyword 112 (codes "ort") refl) (with_word (decimal l.port) [] (within_is 1 65535 l.port (omega arith) h) tt))))

pub globals_good : (conf : Conf) → IsAs conf.asn → conf.router_id ≤ 4294967295 → IsHold conf.hold → IsWithin 3 65535 conf.hold_min → IsQuotedText conf.socket → Each IsListen conf.listen → AreGoodLines (globals_lines conf)
globals_good conf asn id hold least socket listen =
    let rest : List (List Piece) = med_pieces conf.med_always ∷ socket_pieces conf.socket ∷ map listen_pieces conf.listen in
    let good : AreGoodLines rest = (med_good conf.med_always, (socket_good conf.socket socket, good_map IsListen listen_pieces listen_good conf.listen listen)) in
    let qualified : AreGoodLines (set_lines conf.qualify_default qualify_pieces ++ rest) = good_both (set_lines conf.qualify_default qualify_pieces) rest (good_set conf.qualify_default qualify_pieces qualify_good) good in
    (as_good conf.asn asn, (router_id_good conf.router_id id, (hold_good conf.hold hold, (hold_min_good conf.hold_min least, (fib_update_good conf.fib_update, qualified)))))

-- ---- RIBs, sets and networks

table_follows : (table : Option ℕ) → IfThere (IsWithin 1 255) table → AreFollowing (table_pieces table)
table_follows None h = tt
table_follows (Some table) h = with_word (codes "rtable") (word (decimal table) ∷ []) (keyword 114 (codes "table") refl) (with_word (decimal table) [] (within_is 1 255 table (omega arith) h) tt)

pub rib_good : (r : Rib) → IsRib r → IsGoodLine (rib_pieces r)
rib_good r h =
    from_first (codes "rde") (word (codes "rib") ∷ word r.name ∷ table_pieces r.table) (keyword 114 (codes "de") refl)
    (with_word (codes "rib") (word r.name ∷ table_pieces r.table) (keyword 114 (codes "ib") refl) (with_word r.name (table_pieces r.table) (name_is r.name h.0) (table_follows r.table h.1)))

pub length_is : (p : Prefix) (n : ℕ) → IsWithin p.len (width_of p.family) n → IsText Word (decimal n)
length_is p n h = decimal_word n (omega (arith, h.most, width_small p.family))

pub range_follows : (r : PrefixRange) → IsRange r → AreFollowing (range_rest r)
range_follows r h =
    with_word (codes "prefixlen") (word (decimal r.low) ∷ word (codes "-") ∷ word (decimal r.high) ∷ []) (keyword 112 (codes "refixlen") refl)
    (with_word (decimal r.low) (word (codes "-") ∷ word (decimal r.high) ∷ []) (length_is r.prefix r.low h.0)
    (with_word (codes "-") (word (decimal r.high) ∷ []) (keyword 45 [] refl) (with_word (decimal r.high) [] (length_is r.prefix r.high h.1) tt)))

range_good : (r : PrefixRange) → IsRange r → IsGoodLine (range_pieces r)
range_good r h = from_tabbed (prefix_text r.prefix) (range_rest r) (prefix_is r.prefix) (range_follows r h)

number_good : (n : ℕ) → IsAs n → IsGoodLine (number_pieces n)
number_good n h = from_tabbed (decimal n) [] (within_is 1 4294967295 n (omega arith) h) tt

roa_good : (r : Roa) → IsRoa r → IsGoodLine (roa_pieces r)
roa_good r h =
    from_tabbed (prefix_text r.prefix) (word (codes "maxlen") ∷ word (decimal r.maxlen) ∷ word (codes "source-as") ∷ word (decimal r.source) ∷ []) (prefix_is r.prefix)
    (with_word (codes "maxlen") (word (decimal r.maxlen) ∷ word (codes "source-as") ∷ word (decimal r.source) ∷ []) (keyword 109 (codes "axlen") refl)
    (with_word (decimal r.maxlen) (word (codes "source-as") ∷ word (decimal r.source) ∷ []) (length_is r.prefix r.maxlen h.0)
    (with_word (codes "source-as") (word (decimal r.source) ∷ []) (keyword 115 (codes "ource-as") refl) (with_word (decimal r.source) [] (within_is 0 4294967295 r.source (omega arith) h.1) tt))))

head_good : (kind name : List ℕ) → IsText Word kind → IsName name → IsGoodLine (head_pieces kind name)
head_good kind name k n = from_first kind (word name ∷ opening ∷ []) k (with_word name (opening ∷ []) (name_is name n) (with_opening [] tt))

prefix_set_good : (s : PrefixSetConf) → IsPrefixSet s → AreGoodLines (prefix_set_lines s)
prefix_set_good s h = good_block (head_pieces (codes "prefix-set") s.name) (map range_pieces s.entries) (head_good (codes "prefix-set") s.name (keyword 112 (codes "refix-set") refl) h.0) (good_map IsRange range_pieces range_good s.entries h.1)

as_set_good : (s : AsSetConf) → IsAsSet s → AreGoodLines (as_set_lines s)
as_set_good s h = good_block (head_pieces (codes "as-set") s.name) (map number_pieces s.numbers) (head_good (codes "as-set") s.name (keyword 97 (codes "s-set") refl) h.0) (good_map IsAs number_pieces number_good s.numbers h.1)

origin_set_good : (s : OriginSetConf) → IsOriginSet s → AreGoodLines (origin_set_lines s)
origin_set_good s h = good_block (head_pieces (codes "origin-set") s.name) (map roa_pieces s.entries) (head_good (codes "origin-set") s.name (keyword 111 (codes "rigin-set") refl) h.0) (good_map IsRoa roa_pieces roa_good s.entries h.1)

roa_set_good : (roas : List Roa) → Each IsRoa roas → AreGoodLines (roa_set_lines roas)
roa_set_good [] h = tt
roa_set_good (r ∷ roas) h =
    good_block (first (codes "roa-set") ∷ opening ∷ []) (map roa_pieces (r ∷ roas)) (from_first (codes "roa-set") (opening ∷ []) (keyword 114 (codes "oa-set") refl) (with_opening [] tt)) (good_map IsRoa roa_pieces roa_good (r ∷ roas) h)

pub sets_good : (conf : Conf) → Each IsPrefixSet conf.prefix_sets → Each IsAsSet conf.as_sets → Each IsOriginSet conf.origin_sets → Each IsRoa conf.roas → AreGoodLines (sets_lines conf)
sets_good conf prefixes numbers origins roas =
    let last : List (List Piece) = flat_map origin_set_lines conf.origin_sets ++ roa_set_lines conf.roas in
    good_both (flat_map prefix_set_lines conf.prefix_sets) (flat_map as_set_lines conf.as_sets ++ last) (good_flat IsPrefixSet prefix_set_lines prefix_set_good conf.prefix_sets prefixes)
    (good_both (flat_map as_set_lines conf.as_sets) last (good_flat IsAsSet as_set_lines as_set_good conf.as_sets numbers)
    (good_both (flat_map origin_set_lines conf.origin_sets) (roa_set_lines conf.roas) (good_flat IsOriginSet origin_set_lines origin_set_good conf.origin_sets origins) (roa_set_good conf.roas roas)))

pub network_good : (n : Network) → IsNetwork n → IsGoodLine (network_pieces n)
network_good n h =
    from_first (codes "network") (word (prefix_text n.prefix) ∷ behind_pieces n.set) (keyword 110 (codes "etwork") refl)
    (with_word (prefix_text n.prefix) (behind_pieces n.set) (prefix_is n.prefix) (behind_follows n.set (small_items places.Network n.set h.0)))
