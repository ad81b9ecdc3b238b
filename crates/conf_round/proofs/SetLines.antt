-- The global values, RIBs, sets and networks of a canonical text as lines of tokens.
use Rattle.std.proofs.Common.{◌≡◌, ◌∙◌, ℕ, Bool, true, false, List, [], ◌∷◌, ◌++◌, append_assoc, map, flat_map, codes, decimal, Option, Some, None, refl, ap, sym}
use Rattle.net_base.specs.declared.addr.Family.TheVariants.{V4}
use Rattle.net_base.specs.declared.roa.Roa.{Roa}
use Rattle.net_base.specs.Addr.{bits_text, addr_text}
use Rattle.net_base.specs.Prefix.{prefix_text}
use Rattle.conf_tree.specs.declared.conf.Listen.{Listen}
use Rattle.conf_tree.specs.declared.conf.Network.{Network}
use Rattle.conf_tree.specs.declared.conf.Rib.{Rib}
use Rattle.conf_tree.specs.declared.conf.Conf.{Conf}
use Rattle.conf_tree.specs.declared.sets.PrefixRange.{PrefixRange}
use Rattle.conf_tree.specs.declared.sets.PrefixSetConf.{PrefixSetConf}
use Rattle.conf_tree.specs.declared.sets.AsSetConf.{AsSetConf}
use Rattle.conf_tree.specs.declared.sets.OriginSetConf.{OriginSetConf}
use Rattle.conf_tree.specs.Canonical.{yes_no, if_set, if_given, as_line, router_id_line, hold_line, hold_min_line, fib_update_line, qualify_line, med_line, socket_line, listen_line, table_behind, rib_line, range_text, roa_text, range_line, number_line, roa_line, set_head, prefix_set_text, as_set_text, origin_set_text, roa_set_text, network_line, globals_text, sets_text}
use Rattle.conf_round.proofs.Pieces.{Piece, line_text, lines_text}
use Rattle.conf_round.proofs.Lines.{pieces_text, line_of_pieces, lines_map, lines_flat, both_lines, line_and_lines, first, tabbed, word, quote, opening, shut}
use Rattle.conf_round.proofs.ItemLines.{behind_pieces, behind_is}

-- ---- lines that may be missing

abbrev pub given_lines : {A : Type 0} → (A → List Piece) → Option A → List (List Piece)
given_lines pieces None = []
given_lines pieces (Some value) = pieces value ∷ []

pub given_is : {A : Type 0} (text : A → List ℕ) (pieces : A → List Piece) → ((x : A) → text x ≡ line_text (pieces x) []) → (value : Option A) → if_given text value ≡ lines_text (given_lines pieces value)
given_is text pieces same None = refl
given_is text pieces same (Some value) = same value

abbrev pub set_lines : Bool → List Piece → List (List Piece)
set_lines true pieces = pieces ∷ []
set_lines false pieces = []

pub set_is : (flag : Bool) (text : List ℕ) (pieces : List Piece) → text ≡ line_text pieces [] → if_set flag text ≡ lines_text (set_lines flag pieces)
set_is true text pieces same = same
set_is false text pieces same = refl

-- ---- global values

abbrev pub as_pieces : ℕ → List Piece
as_pieces asn = first (codes "AS") ∷ word (decimal asn) ∷ []

as_is : (asn : ℕ) → as_line asn ≡ line_text (as_pieces asn) []
unfolding as_line
as_is asn = refl

abbrev pub router_id_pieces : ℕ → List Piece
router_id_pieces bits = first (codes "router-id") ∷ word (bits_text V4 bits) ∷ []

router_id_is : (bits : ℕ) → router_id_line bits ≡ line_text (router_id_pieces bits) []
unfolding router_id_line
router_id_is bits = refl

abbrev pub hold_pieces : ℕ → List Piece
hold_pieces seconds = first (codes "holdtime") ∷ word (decimal seconds) ∷ []

hold_is : (seconds : ℕ) → hold_line seconds ≡ line_text (hold_pieces seconds) []
unfolding hold_line
hold_is seconds = refl

abbrev pub hold_min_pieces : ℕ → List Piece
hold_min_pieces seconds = first (codes "holdtime") ∷ word (codes "min") ∷ word (decimal seconds) ∷ []

hold_min_is : (seconds : ℕ) → hold_min_line seconds ≡ line_text (hold_min_pieces seconds) []
unfolding hold_min_line
hold_min_is seconds = refl

abbrev pub fib_update_pieces : Bool → List Piece
fib_update_pieces updates = first (codes "fib-update") ∷ word (yes_no updates) ∷ []

fib_update_is : (updates : Bool) → fib_update_line updates ≡ line_text (fib_update_pieces updates) []
unfolding fib_update_line
fib_update_is true = refl
fib_update_is false = refl

abbrev pub qualify_pieces : List Piece
qualify_pieces = first (codes "nexthop") ∷ word (codes "qualify") ∷ word (codes "via") ∷ word (codes "default") ∷ []

qualify_is : (qualifies : Bool) → qualify_line qualifies ≡ lines_text (set_lines qualifies qualify_pieces)
unfolding qualify_line
qualify_is true = refl
qualify_is false = refl

abbrev pub compare_word : Bool → List ℕ
compare_word true = codes "always"
compare_word false = codes "strict"

abbrev pub med_pieces : Bool → List Piece
med_pieces always = first (codes "rde") ∷ word (codes "med") ∷ word (codes "compare") ∷ word (compare_word always) ∷ []

med_is : (always : Bool) → med_line always ≡ line_text (med_pieces always) []
unfolding med_line
med_is true = refl
med_is false = refl

abbrev pub socket_pieces : List ℕ → List Piece
socket_pieces path = first (codes "socket") ∷ quote path ∷ []

socket_is : (path : List ℕ) → socket_line path ≡ line_text (socket_pieces path) []
unfolding socket_line
socket_is path = refl

abbrev pub listen_pieces : Listen → List Piece
listen_pieces l = first (codes "listen") ∷ word (codes "on") ∷ word (addr_text l.address) ∷ word (codes "port") ∷ word (decimal l.port) ∷ []

listen_is : (l : Listen) → listen_line l ≡ line_text (listen_pieces l) []
unfolding listen_line
listen_is l = refl

abbrev pub globals_lines : Conf → List (List Piece)
globals_lines conf =
    as_pieces conf.asn ∷ router_id_pieces conf.router_id ∷ hold_pieces conf.hold ∷ hold_min_pieces conf.hold_min ∷ fib_update_pieces conf.fib_update
    ∷ (set_lines conf.qualify_default qualify_pieces ++ (med_pieces conf.med_always ∷ socket_pieces conf.socket ∷ map listen_pieces conf.listen))

pub globals_are : (conf : Conf) → globals_text conf ≡ lines_text (globals_lines conf)
unfolding globals_text
globals_are conf =
    let listens : List (List Piece) = map listen_pieces conf.listen in
    let socket : List (List Piece) = socket_pieces conf.socket ∷ listens in
    let med : List (List Piece) = med_pieces conf.med_always ∷ socket in
    let qualify : List (List Piece) = set_lines conf.qualify_default qualify_pieces ++ med in
    let fib : List (List Piece) = fib_update_pieces conf.fib_update ∷ qualify in
    let least : List (List Piece) = hold_min_pieces conf.hold_min ∷ fib in
    let hold : List (List Piece) = hold_pieces conf.hold ∷ least in
    line_and_lines _ _ (as_pieces conf.asn) (router_id_pieces conf.router_id ∷ hold) (as_is conf.asn)
    (line_and_lines _ _ (router_id_pieces conf.router_id) hold (router_id_is conf.router_id)
    (line_and_lines _ _ (hold_pieces conf.hold) least (hold_is conf.hold)
    (line_and_lines _ _ (hold_min_pieces conf.hold_min) fib (hold_min_is conf.hold_min)
    (line_and_lines _ _ (fib_update_pieces conf.fib_update) qualify (fib_update_is conf.fib_update)
    (both_lines _ _ (set_lines conf.qualify_default qualify_pieces) med (qualify_is conf.qualify_default)
    (line_and_lines _ _ (med_pieces conf.med_always) socket (med_is conf.med_always)
    (line_and_lines _ _ (socket_pieces conf.socket) listens (socket_is conf.socket)
    (lines_map listen_line listen_pieces listen_is conf.listen))))))))

-- ---- RIBs

abbrev pub table_pieces : Option ℕ → List Piece
table_pieces None = []
table_pieces (Some table) = word (codes "rtable") ∷ word (decimal table) ∷ []

table_is : (table : Option ℕ) (rest : List ℕ) → pieces_text (table_pieces table) rest ≡ if_given table_behind table ++ rest
table_is None rest = refl
table_is (Some table) rest = refl

abbrev pub rib_pieces : Rib → List Piece
rib_pieces r = first (codes "rde") ∷ word (codes "rib") ∷ word r.name ∷ table_pieces r.table

pub rib_is : (r : Rib) → rib_line r ≡ line_text (rib_pieces r) []
unfolding rib_line
rib_is r = ap (λ (l : List ℕ). codes "rde rib " ++ (r.name ++ l)) (sym (table_is r.table (10 ∷ [])) ∙ sym (line_of_pieces (table_pieces r.table) []))

-- ---- sets

abbrev pub range_rest : PrefixRange → List Piece
range_rest r = word (codes "prefixlen") ∷ word (decimal r.low) ∷ word (codes "-") ∷ word (decimal r.high) ∷ []

pub range_is : (r : PrefixRange) (rest : List ℕ) → prefix_text r.prefix ++ pieces_text (range_rest r) rest ≡ range_text r ++ rest
unfolding range_text
range_is r rest = simp append_assoc

abbrev pub range_pieces : PrefixRange → List Piece
range_pieces r = tabbed (prefix_text r.prefix) ∷ range_rest r

range_line_is : (r : PrefixRange) → range_line r ≡ line_text (range_pieces r) []
range_line_is r = ap (λ (l : List ℕ). 9 ∷ l) (sym (range_is r (10 ∷ [])))

abbrev pub number_pieces : ℕ → List Piece
number_pieces n = tabbed (decimal n) ∷ []

number_line_is : (n : ℕ) → number_line n ≡ line_text (number_pieces n) []
number_line_is n = refl

abbrev pub roa_pieces : Roa → List Piece
roa_pieces r = tabbed (prefix_text r.prefix) ∷ word (codes "maxlen") ∷ word (decimal r.maxlen) ∷ word (codes "source-as") ∷ word (decimal r.source) ∷ []

roa_line_is : (r : Roa) → roa_line r ≡ line_text (roa_pieces r) []
unfolding roa_text
roa_line_is r = simp append_assoc

abbrev pub head_pieces : List ℕ → List ℕ → List Piece
head_pieces kind name = first kind ∷ word name ∷ opening ∷ []

head_is : (kind name : List ℕ) → set_head kind name ≡ line_text (head_pieces kind name) []
unfolding set_head
head_is kind name = refl

abbrev pub block_lines : List Piece → List (List Piece) → List (List Piece)
block_lines head inner = head ∷ (inner ++ ((shut ∷ []) ∷ []))

pub block_is : (front inner : List ℕ) (head : List Piece) (lines : List (List Piece)) → front ≡ line_text head [] → inner ≡ lines_text lines → front ++ (inner ++ codes "}\n") ≡ lines_text (block_lines head lines)
block_is front inner head lines e f = line_and_lines front (inner ++ codes "}\n") head (lines ++ ((shut ∷ []) ∷ [])) e (both_lines inner (codes "}\n") lines ((shut ∷ []) ∷ []) f refl)

abbrev pub prefix_set_lines : PrefixSetConf → List (List Piece)
prefix_set_lines s = block_lines (head_pieces (codes "prefix-set") s.name) (map range_pieces s.entries)

prefix_set_is : (s : PrefixSetConf) → prefix_set_text s ≡ lines_text (prefix_set_lines s)
unfolding prefix_set_text
prefix_set_is s = block_is _ _ (head_pieces (codes "prefix-set") s.name) (map range_pieces s.entries) (head_is (codes "prefix-set") s.name) (lines_map range_line range_pieces range_line_is s.entries)

abbrev pub as_set_lines : AsSetConf → List (List Piece)
as_set_lines s = block_lines (head_pieces (codes "as-set") s.name) (map number_pieces s.numbers)

as_set_is : (s : AsSetConf) → as_set_text s ≡ lines_text (as_set_lines s)
unfolding as_set_text
as_set_is s = block_is _ _ (head_pieces (codes "as-set") s.name) (map number_pieces s.numbers) (head_is (codes "as-set") s.name) (lines_map number_line number_pieces number_line_is s.numbers)

abbrev pub origin_set_lines : OriginSetConf → List (List Piece)
origin_set_lines s = block_lines (head_pieces (codes "origin-set") s.name) (map roa_pieces s.entries)

origin_set_is : (s : OriginSetConf) → origin_set_text s ≡ lines_text (origin_set_lines s)
unfolding origin_set_text
origin_set_is s = block_is _ _ (head_pieces (codes "origin-set") s.name) (map roa_pieces s.entries) (head_is (codes "origin-set") s.name) (lines_map roa_line roa_pieces roa_line_is s.entries)

abbrev pub roa_set_lines : List Roa → List (List Piece)
roa_set_lines [] = []
roa_set_lines (r ∷ roas) = block_lines (first (codes "roa-set") ∷ opening ∷ []) (map roa_pieces (r ∷ roas))

roa_set_is : (roas : List Roa) → roa_set_text roas ≡ lines_text (roa_set_lines roas)
roa_set_is [] = refl
roa_set_is (r ∷ roas) = block_is (codes "roa-set {\n") (flat_map roa_line (r ∷ roas)) (first (codes "roa-set") ∷ opening ∷ []) (map roa_pieces (r ∷ roas)) refl (lines_map roa_line roa_pieces roa_line_is (r ∷ roas))

abbrev pub sets_lines : Conf → List (List Piece)
sets_lines conf =
    flat_map prefix_set_lines conf.prefix_sets ++ (flat_map as_set_lines conf.as_sets ++ (flat_map origin_set_lines conf.origin_sets ++ roa_set_lines conf.roas))

pub sets_are : (conf : Conf) → sets_text conf ≡ lines_text (sets_lines conf)
unfolding sets_text
sets_are conf =
    let origins : List (List Piece) = flat_map origin_set_lines conf.origin_sets ++ roa_set_lines conf.roas in
    let numbers : List (List Piece) = flat_map as_set_lines conf.as_sets ++ origins in
    both_lines _ _ (flat_map prefix_set_lines conf.prefix_sets) numbers (lines_flat prefix_set_text prefix_set_lines prefix_set_is conf.prefix_sets)
    (both_lines _ _ (flat_map as_set_lines conf.as_sets) origins (lines_flat as_set_text as_set_lines as_set_is conf.as_sets)
    (both_lines _ _ (flat_map origin_set_lines conf.origin_sets) (roa_set_lines conf.roas) (lines_flat origin_set_text origin_set_lines origin_set_is conf.origin_sets) (roa_set_is conf.roas)))

-- ---- networks

abbrev pub network_pieces : Network → List Piece
network_pieces n = first (codes "network") ∷ word (prefix_text n.prefix) ∷ behind_pieces n.set

pub network_is : (n : Network) → network_line n ≡ line_text (network_pieces n) []
unfolding network_line
network_is n = ap (λ (l : List ℕ). codes "network " ++ (prefix_text n.prefix ++ l)) (sym (behind_is n.set (10 ∷ [])) ∙ sym (line_of_pieces (behind_pieces n.set) []))
