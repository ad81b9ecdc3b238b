-- The printed options of a neighbour are read back.
use Rattle.std.proofs.Common.{◌≡◌, ℕ, Bool, true, false, List, [], ◌∷◌, ◌++◌, codes, decimal, Option, Some, None, Ok, refl, arith}
use Rattle.net_base.specs.declared.addr.Addr.{Addr}
use Rattle.net_base.specs.declared.addr.Family.TheVariants.{V4, V6}
use Rattle.conf_tree.specs.declared.token.Token.{Token}
use Rattle.conf_tree.specs.declared.token.TokenKind.TheVariants.{Word}
use Rattle.conf_tree.specs.declared.conf.Conf.{Conf}
use Rattle.conf_tree.specs.declared.neighbour.Neighbour.{Neighbour}
use Rattle.conf_tree.specs.declared.draft.SetPlace.TheVariants as places
use Rattle.conf_tree.specs.declared.draft.NeighbourOption.{NeighbourOption}
use Rattle.conf_tree.specs.declared.draft.NeighbourOption.TheVariants as options
use Rattle.conf_tree.specs.declared.rule.Item.{Item}
use Rattle.conf_tree.specs.Reading.{text_of, word_is, ends_line}
use Rattle.conf_tree.specs.NeighbourReading.{remote_as_at, local_address_at, description_at, port_at, multihop_at, hold_min_option_at, hold_option_at, any_hold_option_at, family_at, announce_refresh_at, announce_as_4byte_at, capability_at, announce_at, max_prefix_at, rib_option_at, set_option_at, routing_option_at, session_option_at, connection_option_at, option_at}
use Rattle.conf_tree.specs.Canonical.{rib_name, unicast, yes_no}
use Rattle.conf_tree.specs.Readable.{IfThere, IsSet, IsAs, IsHold, IsWithin, IsQuotedText, IsName, IsNeighbour}
use Rattle.conf_tree.specs.CanonicalDraft.{given_options, set_options, items_options, session_options, link_options_of, open_options_of, route_options_of, options_of}
use Rattle.conf_round.proofs.Pieces.{Piece, line_tokens}
use Rattle.conf_round.proofs.Lines.{tabbed, word}
use Rattle.conf_round.proofs.ItemLines.{set_pieces}
use Rattle.conf_round.proofs.SetLines.{given_lines, set_lines}
use Rattle.conf_round.proofs.RuleLines.{remote_as_pieces, local_address_pieces, descr_pieces, port_pieces, multihop_pieces, way_lines, link_lines, announce_pieces, open_lines, max_prefix_pieces, rib_option_pieces, tab_first, set_option_lines, route_lines, option_lines}
use Rattle.conf_round.proofs.ReadValues.{token, number_back, as_number_back, hold_back}
use Rattle.conf_round.proofs.ReadTexts.{address_back, name_back, quoted_back, yes_no_back}
use Rattle.conf_round.proofs.ReadLists.{starts_word}
use Rattle.conf_round.proofs.ReadStatements.{set_list_back, no_word, zero_is_no_word, hold_small}

-- what is read of the line of an option
abbrev pub OptionBack : List Piece → NeighbourOption → Type 0
OptionBack l o = (line at : ℕ) (rest : List Token) → ends_line rest ≡ true → option_at (line_tokens line at l ++ rest) ≡ Ok (o, rest)

abbrev pub StartsLine : List Piece → Type 0
StartsLine l = (line at : ℕ) (rest : List Token) → starts_word (line_tokens line at l ++ rest) ≡ true

-- the lines are those of these options
abbrev pub ReadAs : List (List Piece) → List NeighbourOption → Type 0
ReadAs [] [] = Unit {0}
ReadAs [] (o ∷ os) = ⊥
ReadAs (l ∷ ls) [] = ⊥
ReadAs (l ∷ ls) (o ∷ os) = OptionBack l o × StartsLine l × ReadAs ls os

pub read_both : (ls ms : List (List Piece)) (os ps : List NeighbourOption) → ReadAs ls os → ReadAs ms ps → ReadAs (ls ++ ms) (os ++ ps)
read_both [] ms [] ps r q = q
read_both [] ms (o ∷ os) ps r q = absurd r
read_both (l ∷ ls) ms [] ps r q = absurd r
read_both (l ∷ ls) ms (o ∷ os) ps r q = (r.0, r.1, read_both ls ms os ps r.2 q)

-- ---- one kind of option after another

remote_as_back : (asn : ℕ) → IsAs asn → OptionBack (remote_as_pieces asn) (options.RemoteAs asn)
unfolding option_at word_is text_of remote_as_at
remote_as_back asn h line at rest e = rw (as_number_back 1 asn line _ _ rest h) refl

local_address_back : (address : Addr) → OptionBack (local_address_pieces address) (options.LocalAddress address)
unfolding option_at word_is text_of local_address_at
local_address_back address line at rest e = rw (address_back address line _ _ rest) refl

descr_back : (text : List ℕ) → IsQuotedText text → OptionBack (descr_pieces text) (options.Description text)
unfolding option_at connection_option_at word_is text_of description_at
descr_back text h line at rest e = rw (quoted_back text line _ _ rest h) refl

port_back : (port : ℕ) → IsWithin 1 65535 port → OptionBack (port_pieces port) (options.Port port)
unfolding option_at connection_option_at word_is text_of port_at
port_back port h line at rest e = rw (number_back 1 65535 port line _ _ rest h (omega arith)) refl

passive_back : OptionBack (tabbed (codes "passive") ∷ []) options.Passive
unfolding option_at connection_option_at word_is text_of
passive_back line at rest e = refl

down_back : OptionBack (tabbed (codes "down") ∷ []) options.Down
unfolding option_at connection_option_at session_option_at word_is text_of
down_back line at rest e = refl

multihop_back : (hops : ℕ) → IsWithin 1 255 hops → OptionBack (multihop_pieces hops) (options.Multihop hops)
unfolding option_at connection_option_at session_option_at word_is text_of multihop_at
multihop_back hops h line at rest e = rw (number_back 1 255 hops line _ _ rest h (omega arith)) refl

hold_option_back : (n : ℕ) → IsHold n → OptionBack (tabbed (codes "holdtime") ∷ word (decimal n) ∷ []) (options.Hold n)
unfolding option_at connection_option_at session_option_at word_is text_of any_hold_option_at hold_option_at
hold_option_back n h line at rest e = rw (zero_is_no_word n (hold_small n h)) (rw (hold_back n line _ _ rest h) refl)

hold_min_option_back : (n : ℕ) → IsWithin 3 65535 n → OptionBack (tabbed (codes "holdtime") ∷ word (codes "min") ∷ word (decimal n) ∷ []) (options.HoldMin n)
unfolding option_at connection_option_at session_option_at word_is text_of any_hold_option_at hold_min_option_at
hold_min_option_back n h line at rest e = rw (number_back 3 65535 n line _ _ rest h (omega arith)) refl

announce_v4_back : (flag : Bool) → OptionBack (announce_pieces (codes "IPv4") (unicast flag)) (options.Announce V4 flag)
unfolding option_at connection_option_at session_option_at routing_option_at word_is text_of announce_at family_at
announce_v4_back true line at rest e = refl
announce_v4_back false line at rest e = refl

announce_v6_back : (flag : Bool) → OptionBack (announce_pieces (codes "IPv6") (unicast flag)) (options.Announce V6 flag)
unfolding option_at connection_option_at session_option_at routing_option_at word_is text_of announce_at family_at
announce_v6_back true line at rest e = refl
announce_v6_back false line at rest e = refl

refresh_back : (flag : Bool) → OptionBack (announce_pieces (codes "refresh") (yes_no flag)) (options.AnnounceRefresh flag)
unfolding option_at connection_option_at session_option_at routing_option_at word_is text_of announce_at capability_at announce_refresh_at
refresh_back flag line at rest e = rw (yes_no_back flag line _ _ rest) refl

as_4byte_back : (flag : Bool) → OptionBack (announce_pieces (codes "as-4byte") (yes_no flag)) (options.AnnounceAs4Byte flag)
unfolding option_at connection_option_at session_option_at routing_option_at word_is text_of announce_at capability_at announce_as_4byte_at
as_4byte_back flag line at rest e = rw (yes_no_back flag line _ _ rest) refl

number_then : (most line start end : ℕ) (rest : List Token) → IsWithin 1 4294967295 most → ends_line rest ≡ true → max_prefix_at (token Word line start end (decimal most) ∷ rest) ≡ Ok (options.MaxPrefix most, rest)
unfolding max_prefix_at
number_then most line start end rest h e = rw (number_back 1 4294967295 most line start end rest h (omega arith)) (rw (no_word (codes "restart") rest e) refl)

max_prefix_back : (most : ℕ) → IsWithin 1 4294967295 most → OptionBack (max_prefix_pieces most) (options.MaxPrefix most)
unfolding option_at connection_option_at session_option_at routing_option_at word_is text_of
max_prefix_back most h line at rest e = number_then most line _ _ rest h e

rib_option_back : (conf : Conf) (rib : ℕ) → IsName (rib_name conf rib) → OptionBack (rib_option_pieces conf rib) (options.Rib (rib_name conf rib))
unfolding option_at connection_option_at session_option_at routing_option_at word_is text_of rib_option_at
rib_option_back conf rib h line at rest e = rw (name_back (rib_name conf rib) line _ _ rest h) refl

set_back : (item : Item) (set : List Item) → IsSet places.Neighbour (item ∷ set) → OptionBack (tab_first (set_pieces (item ∷ set))) (options.Set (item ∷ set))
unfolding option_at connection_option_at session_option_at routing_option_at word_is text_of set_option_at
set_back item set h line at rest e = rw (set_list_back places.Neighbour line _ _ _ item set rest h) refl

-- ---- the options of a neighbour

given_read : {A : Type 0} (Is : A → Type 0) (line : A → List Piece) (make : A → NeighbourOption) → ((x : A) → Is x → OptionBack (line x) (make x)) → ((x : A) → StartsLine (line x)) → (value : Option A) → IfThere Is value
    → ReadAs (given_lines line value) (given_options make value)
given_read Is line make back starts None h = tt
given_read Is line make back starts (Some value) h = (back value h, starts value, tt)

set_read : (flag : Bool) (l : List Piece) (o : NeighbourOption) → OptionBack l o → StartsLine l → ReadAs (set_lines flag l) (set_options flag o)
set_read true l o back starts = (back, starts, tt)
set_read false l o back starts = tt

items_read : (set : List Item) → IsSet places.Neighbour set → ReadAs (set_option_lines set) (items_options set)
items_read [] h = tt
items_read (item ∷ set) h = (set_back item set h, λ line at rest. refl, tt)

any_there : {A : Type 0} (value : Option A) → IfThere (λ _. Unit {0}) value
any_there None = tt
any_there (Some value) = tt

way_read : (conf : Conf) (n : Neighbour) → IsNeighbour conf n → ReadAs (way_lines n) (session_options n)
way_read conf n h =
    let hops : List (List Piece) = given_lines multihop_pieces n.multihop in
    read_both (set_lines n.passive (tabbed (codes "passive") ∷ [])) (set_lines n.down (tabbed (codes "down") ∷ []) ++ hops) (set_options n.passive options.Passive) (set_options n.down options.Down ++ given_options options.Multihop n.multihop)
    (set_read n.passive (tabbed (codes "passive") ∷ []) options.Passive passive_back (λ line at rest. refl))
    (read_both (set_lines n.down (tabbed (codes "down") ∷ [])) hops (set_options n.down options.Down) (given_options options.Multihop n.multihop)
    (set_read n.down (tabbed (codes "down") ∷ []) options.Down down_back (λ line at rest. refl))
    (given_read (IsWithin 1 255) multihop_pieces options.Multihop multihop_back (λ x line at rest. refl) n.multihop h.multihop))

link_read : (conf : Conf) (n : Neighbour) → IsNeighbour conf n → ReadAs (link_lines n) (link_options_of n)
link_read conf n h =
    let port : List (List Piece) = port_pieces n.port ∷ way_lines n in
    let ports : List NeighbourOption = options.Port n.port ∷ session_options n in
    let good : ReadAs port ports = (port_back n.port h.port, λ line at rest. refl, way_read conf n h) in (
      remote_as_back n.remote_as h.remote_as,
      λ line at rest. refl,
      read_both (given_lines local_address_pieces n.local_address) (given_lines descr_pieces n.description ++ port) (given_options options.LocalAddress n.local_address) (given_options options.Description n.description ++ ports)
          (given_read (λ _. Unit {0}) local_address_pieces options.LocalAddress (λ x _. local_address_back x) (λ x line at rest. refl) n.local_address (any_there n.local_address))
          (read_both (given_lines descr_pieces n.description) port (given_options options.Description n.description) ports (given_read IsQuotedText descr_pieces options.Description descr_back (λ x line at rest. refl) n.description h.description) good),
    )

open_read : (conf : Conf) (n : Neighbour) → IsNeighbour conf n → ReadAs (open_lines n) (open_options_of n)
open_read conf n h = (
  hold_option_back n.hold h.hold,
  λ line at rest. refl,
  (
    hold_min_option_back n.hold_min h.hold_min,
    λ line at rest. refl,
    (
      announce_v4_back n.announce_v4,
      λ line at rest. refl,
      (
        announce_v6_back n.announce_v6,
        λ line at rest. refl,
        (refresh_back n.announce_refresh, λ line at rest. refl, (as_4byte_back n.announce_as_4byte, λ line at rest. refl, tt)),
      ),
    ),
  ),
)

route_read : (conf : Conf) (n : Neighbour) → IsNeighbour conf n → ReadAs (route_lines conf n) (route_options_of conf n)
route_read conf n h =
    read_both (given_lines max_prefix_pieces n.max_prefix) (rib_option_pieces conf n.rib ∷ set_option_lines n.set) (given_options options.MaxPrefix n.max_prefix) (options.Rib (rib_name conf n.rib) ∷ items_options n.set)
    (given_read (IsWithin 1 4294967295) max_prefix_pieces options.MaxPrefix max_prefix_back (λ x line at rest. refl) n.max_prefix h.max_prefix)
    (rib_option_back conf n.rib h.rib, λ line at rest. refl, items_read n.set h.set)

pub options_read : (conf : Conf) (n : Neighbour) → IsNeighbour conf n → ReadAs (option_lines conf n) (options_of conf n)
options_read conf n h =
    read_both (link_lines n) (open_lines n ++ route_lines conf n) (link_options_of n) (open_options_of n ++ route_options_of conf n) (link_read conf n h)
    (read_both (open_lines n) (route_lines conf n) (open_options_of n) (route_options_of conf n) (open_read conf n h) (route_read conf n h))
