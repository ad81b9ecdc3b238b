-- The printed statements of one line, and the printed sets, are read back.
use Rattle.std.proofs.Common.{◌≡◌, ◌∙◌, ℕ, ◌-◌, ◌^◌, ◌<◌, ◌≤◌, Bool, true, false, eqb, List, [], ◌∷◌, ◌++◌, codes, decimal, Option, Some, None, Ok, refl, ap, inl, inr, bytes_eq, arith}
use Rattle.net_base.specs.Number.{number_of}
use Rattle.net_base.specs.declared.prefix.Prefix.{Prefix}
use Rattle.net_base.specs.Prefix.{prefix_text, read_prefix}
use Rattle.conf_tree.specs.declared.token.Token.{Token}
use Rattle.conf_tree.specs.declared.token.TokenKind.{TokenKind}
use Rattle.conf_tree.specs.declared.token.TokenKind.TheVariants.{Word, Quoted, Mark, LineEnd}
use Rattle.conf_tree.specs.declared.conf.Listen.{Listen}
use Rattle.conf_tree.specs.declared.conf.Network.{Network}
use Rattle.conf_tree.specs.declared.conf.Rib.{Rib}
use Rattle.conf_tree.specs.declared.draft.SetPlace.{SetPlace}
use Rattle.conf_tree.specs.declared.draft.SetPlace.TheVariants as places
use Rattle.conf_tree.specs.declared.draft.Statement.{Statement}
use Rattle.conf_tree.specs.declared.draft.Statement.TheVariants as says
use Rattle.conf_tree.specs.declared.rule.Item.{Item}
use Rattle.conf_tree.specs.Kinds.{is_word, is_line_end}
use Rattle.conf_tree.specs.Reading.{text_of, word_is, word_in, mark_is, ends_line, keyword_at, unless_full, one_or_list_at}
use Rattle.conf_tree.specs.ItemReading.{item_at, most_items, set_at, optional_set_at}
use Rattle.conf_tree.specs.StatementReading.{Room, as_statement_at, router_id_at, hold_min_statement_at, hold_statement_at, any_hold_statement_at, fib_update_at, qualify_word_at, qualify_at, compare_word_at, med_compare_at, optional_table_at, rib_at, rde_at, socket_at, optional_port_at, listen_at, network_body_at, network_at, peer_word_at, set_word_at, engine_word_at, statement_at}
use Rattle.conf_tree.specs.Readable.{IfThere, IsSet, IsAs, IsHold, IsWithin, IsQuotedText, IsListen, IsRib, IsNetwork}
use Rattle.conf_round.proofs.Pieces.{Piece, line_tokens, line_finish}
use Rattle.conf_round.proofs.Lines.{word}
use Rattle.conf_round.proofs.ItemLines.{item_pieces, more_pieces, set_pieces, behind_pieces}
use Rattle.conf_round.proofs.SetLines.{as_pieces, router_id_pieces, hold_pieces, hold_min_pieces, fib_update_pieces, qualify_pieces, med_pieces, socket_pieces, listen_pieces, table_pieces, rib_pieces, network_pieces}
use Rattle.conf_round.proofs.Words.{prefix_read_back}
use Rattle.conf_round.proofs.ReadValues.{token, number_back, as_number_back, hold_back, differs, number_of_decimal}
use Rattle.conf_round.proofs.ReadTexts.{address_back, v4_back, prefix_back, name_back, quoted_back, yes_no_back}
use Rattle.conf_round.proofs.ReadLists.{stay, items_start, read_item, more_spell, more_some, behind_item, full_list_back}

-- ---- sets of items

pub set_list_back : (place : SetPlace) (line start end at : ℕ) (item : Item) (set : List Item) (rest : List Token) → IsSet place (item ∷ set)
    → set_at place (token Mark line start end (codes "{") ∷ (line_tokens line at (item_pieces item ++ more_pieces set) ++ rest)) ≡ Ok (item ∷ set, rest)
unfolding set_at one_or_list_at mark_is text_of
set_list_back place line start end at item set rest h =
    let ts : List Token = line_tokens line at (item_pieces item ++ more_pieces set) ++ rest in
    full_list_back (item_at place) most_items item set ts (behind_item line at item set rest) rest
    (ap (item_at place (eqb most_items 0)) (stay ts (items_start line at item set rest)) ∙ read_item place most_items line at item set ts rest h.0.0 h.1 refl)
    (more_some line (line_finish at (item_pieces item)) set rest)
    (more_spell place (most_items - 1) line (line_finish at (item_pieces item)) set rest h.0.1 (omega (arith, h.1)))

-- ---- global values

-- a statement of one line, whatever stands behind it
abbrev pub StatementBack : Room → List Piece → Statement → Type 0
StatementBack room pieces statement = (line at : ℕ) (rest : List Token) → statement_at room (line_tokens line at pieces ++ rest) ≡ Ok (statement, rest)

pub as_back : (room : Room) (asn : ℕ) → IsAs asn → StatementBack room (as_pieces asn) (says.As asn)
unfolding statement_at word_is text_of as_statement_at
as_back room asn h line at rest = rw (as_number_back 1 asn line _ _ rest h) refl

pub router_id_back : (room : Room) (bits : ℕ) → bits ≤ 4294967295 → StatementBack room (router_id_pieces bits) (says.RouterId bits)
unfolding statement_at word_is text_of router_id_at
router_id_back room bits h line at rest = rw (v4_back bits line _ _ rest (omega (arith, h))) refl

no_number : number_of (codes "min") ≡ None
unfolding number_of
no_number = refl

pub zero_is_no_word : (n : ℕ) → n < 2 ^ 64 → bytes_eq (codes "min") (decimal n) ≡ false
zero_is_no_word n h = differs (codes "min") (decimal n) (λ e. absurd (let f = ap number_of e in let g = number_of_decimal n h in let i = no_number in cc))

pub hold_small : (n : ℕ) → IsHold n → n < 2 ^ 64
hold_small n (inl e) = omega (arith, e)
hold_small n (inr w) = omega (arith, w.most)

pub hold_statement_back : (room : Room) (n : ℕ) → IsHold n → StatementBack room (hold_pieces n) (says.Hold n)
unfolding statement_at word_is text_of any_hold_statement_at hold_statement_at
hold_statement_back room n h line at rest = rw (zero_is_no_word n (hold_small n h)) (rw (hold_back n line _ _ rest h) refl)

pub hold_min_back : (room : Room) (n : ℕ) → IsWithin 3 65535 n → StatementBack room (hold_min_pieces n) (says.HoldMin n)
unfolding statement_at word_is text_of any_hold_statement_at hold_min_statement_at
hold_min_back room n h line at rest = rw (number_back 3 65535 n line _ _ rest h (omega arith)) refl

pub fib_update_back : (room : Room) (on : Bool) → StatementBack room (fib_update_pieces on) (says.FibUpdate on)
unfolding statement_at word_is text_of fib_update_at
fib_update_back room on line at rest = rw (yes_no_back on line _ _ rest) refl

pub qualify_back : (room : Room) → StatementBack room qualify_pieces says.QualifyDefault
unfolding statement_at engine_word_at word_is text_of qualify_at keyword_at qualify_word_at
qualify_back room line at rest = refl

pub med_compare_back : (room : Room) (always : Bool) → StatementBack room (med_pieces always) (says.MedCompare always)
unfolding statement_at engine_word_at word_is text_of rde_at med_compare_at keyword_at compare_word_at
med_compare_back room true line at rest = refl
med_compare_back room false line at rest = refl

pub socket_back : (room : Room) (path : List ℕ) → IsQuotedText path → StatementBack room (socket_pieces path) (says.Socket path)
unfolding statement_at engine_word_at word_is text_of socket_at
socket_back room path h line at rest = rw (quoted_back path line _ _ rest h) refl

pub listen_back : (room : Room) (l : Listen) → IsListen l → eqb room.listens 0 ≡ false → StatementBack room (listen_pieces l) (says.Listen l)
unfolding statement_at engine_word_at word_is text_of unless_full listen_at keyword_at optional_port_at
listen_back room l h free line at rest = rw free (rw (address_back l.address line _ _ (line_tokens line _ (word (codes "port") ∷ word (decimal l.port) ∷ []) ++ rest)) (rw (number_back 1 65535 l.port line _ _ rest h (omega arith)) refl))

-- ---- RIBs and networks: what may be missing at the end is looked for in what follows

-- a line end is no word
pub no_word : (name : List ℕ) (rest : List Token) → ends_line rest ≡ true → word_is name rest ≡ false
unfolding ends_line word_is text_of
no_word name [] e = refl
no_word name (t ∷ ts) e = rw (end_is_no_word t.kind e) refl
  where
    end_is_no_word : (kind : TokenKind) → is_line_end kind ≡ true → is_word kind ≡ false
    end_is_no_word Word e = absurd (cc)
    end_is_no_word Quoted e = refl
    end_is_no_word Mark e = refl
    end_is_no_word LineEnd e = refl

abbrev pub LineBack : Room → List Piece → Statement → Type 0
LineBack room pieces statement = (line at : ℕ) (rest : List Token) → ends_line rest ≡ true → statement_at room (line_tokens line at pieces ++ rest) ≡ Ok (statement, rest)

rtable_back : (table line at : ℕ) (rest : List Token) → IsWithin 1 255 table → optional_table_at (line_tokens line at (table_pieces (Some table)) ++ rest) ≡ Ok (Some table, rest)
unfolding optional_table_at word_is text_of
rtable_back table line at rest h = rw (number_back 1 255 table line _ _ rest h (omega arith)) refl

table_back : (table : Option ℕ) (line at : ℕ) (rest : List Token) → IfThere (IsWithin 1 255) table → ends_line rest ≡ true → optional_table_at (line_tokens line at (table_pieces table) ++ rest) ≡ Ok (table, rest)
unfolding optional_table_at
table_back None line at rest h e = rw (no_word (codes "rtable") rest e) refl
table_back (Some table) line at rest h e = rtable_back table line at rest h

pub rib_back : (room : Room) (r : Rib) → IsRib r → eqb room.ribs 0 ≡ false → LineBack room (rib_pieces r) (says.Rib r.name r.table)
unfolding statement_at engine_word_at word_is text_of rde_at unless_full rib_at
rib_back room r h free line at rest e = rw free (rw (name_back r.name line _ _ (line_tokens line _ (table_pieces r.table) ++ rest) h.0) (rw (table_back r.table line _ rest h.1 e) refl))

some_set_back : (place : SetPlace) (line at : ℕ) (item : Item) (set : List Item) (rest : List Token) → IsSet place (item ∷ set) → optional_set_at place (line_tokens line at (set_pieces (item ∷ set)) ++ rest) ≡ Ok (item ∷ set, rest)
unfolding optional_set_at word_is text_of
some_set_back place line at item set rest h = set_list_back place line _ _ _ item set rest h

pub set_back : (place : SetPlace) (line at : ℕ) (set : List Item) (rest : List Token) → IsSet place set → ends_line rest ≡ true → optional_set_at place (line_tokens line at (behind_pieces set) ++ rest) ≡ Ok (set, rest)
unfolding optional_set_at
set_back place line at [] rest h e = rw (no_word (codes "set") rest e) refl
set_back place line at (item ∷ set) rest h e = some_set_back place line at item set rest h

-- ---- networks

other_prefix : (name : List ℕ) (p : Prefix) → read_prefix name ≡ None → name ≡ prefix_text p → ⊥
other_prefix name p none same = let found = ap read_prefix same in let back = prefix_read_back p in cc

pub prefix_unlike : (name : List ℕ) (p : Prefix) → read_prefix name ≡ None → bytes_eq name (prefix_text p) ≡ false
prefix_unlike name p none = differs name (prefix_text p) (other_prefix name p none)

no_inet : read_prefix (codes "inet") ≡ None
unfolding read_prefix
no_inet = refl

no_inet6 : read_prefix (codes "inet6") ≡ None
unfolding read_prefix
no_inet6 = refl

no_prefix_set : read_prefix (codes "prefix-set") ≡ None
unfolding read_prefix
no_prefix_set = refl

pub network_back : (room : Room) (n : Network) → IsNetwork n → eqb room.networks 0 ≡ false → LineBack room (network_pieces n) (says.Network n.prefix n.set)
unfolding statement_at engine_word_at set_word_at peer_word_at word_is word_in text_of unless_full network_at network_body_at
network_back room n h free line at rest e =
    rw (free, prefix_unlike (codes "inet") n.prefix no_inet, prefix_unlike (codes "inet6") n.prefix no_inet6, prefix_unlike (codes "prefix-set") n.prefix no_prefix_set)
    (rw (prefix_back n.prefix line _ _ (line_tokens line _ (behind_pieces n.set) ++ rest)) (rw (set_back places.Network line _ n.set rest h e) refl))
