-- Neighbours and groups go by their own tokens.
use Rattle.std.proofs.Common.{◌≡◌, refl, cond, ap, arith}
use Rattle.std.specs.Prelude.{ℕ, ◌-◌, Bool, true, false, List, [], ◌∷◌, length, Ok, is_some, codes}
use Rattle.net_base.specs.declared.addr.Family.{Family}
use Rattle.net_base.specs.declared.addr.Family.TheVariants as families
use Rattle.net_base.specs.declared.conf.ConfKind.TheVariants.{NotInProfile}
use Rattle.net_base.specs.declared.conf.Counted.TheVariants as counted
use Rattle.conf_tree.specs.declared.token.Token.{Token}
use Rattle.conf_tree.specs.declared.draft.NeighbourOption.TheVariants as options
use Rattle.conf_tree.specs.declared.draft.OptionLine.{OptionLine}
use Rattle.conf_tree.specs.declared.draft.NeighbourBlock.{NeighbourBlock}
use Rattle.conf_tree.specs.declared.draft.SetPlace.TheVariants as places
use Rattle.conf_tree.specs.Faults.{◌>>=◌}
use Rattle.conf_tree.specs.Kinds.{is_line_end}
use Rattle.conf_tree.specs.Reading.{Reading, line_of, fails, behind, word_of, word_is, word_in, mark_is, mark_at, unless_full}
use Rattle.conf_tree.specs.Values.{number_at, as_number_at, hold_at, yes_no_at, address_at, prefix_of_word, name_at, group_name_at, quoted_at}
use Rattle.conf_tree.specs.ItemReading.{set_at}
use Rattle.conf_tree.specs.NeighbourReading.{remote_as_at, local_address_at, description_at, port_at, multihop_at, hold_min_option_at, hold_option_at, any_hold_option_at, family_at, announce_refresh_at, announce_as_4byte_at, capability_at, announce_at, max_prefix_at, rib_option_at, set_option_at, left_out_of_neighbours, no_option_at, routing_option_at, session_option_at, connection_option_at, option_at, after_line_ends, separated_at, option_line_at, options_at, neighbour_body_at, neighbour_at, Members, with_option, with_neighbour, neighbour_line_at, group_members_at, group_at}
use Rattle.conf_tree.specs.Kinds.{is_word}
use Rattle.conf_local.specs.Texts.{IsText}
use Rattle.conf_local.proofs.Local.{Begun, Local, stays, takes, past, fails_here, one_of, by_first, then, then_with, unless, left_text}
use Rattle.conf_local.proofs.Tests.{text_of_first, word_is_first, word_in_first, mark_is_first, word_begun, mark_begun, mark_then, separated_then}
use Rattle.conf_local.proofs.Values.{number_local, as_number_local, hold_local, yes_no_local, address_local, prefix_of_word_first, name_local, group_name_local, quoted_local}
use Rattle.conf_local.proofs.Loops.{after_text, after_shorter, skipping, shorter, weak, weaker, turns_local}
use Rattle.std.proofs.Common.{◌∙◌, eqb, ◌<◌, ◌≤◌, Err, sym}
use Rattle.conf_local.proofs.Items.{set_local}

pub remote_as_local : {some : Bool} (tokens : List Token) → IsText tokens → Local some remote_as_at tokens
unfolding remote_as_at
remote_as_local tokens h =
    then (λ x. as_number_at 1 x) (λ asn. Ok (options.RemoteAs asn.0, asn.1)) tokens (as_number_local _ tokens h)
    (λ asn t1 h1. stays _ t1 h1)

pub local_address_local : {some : Bool} (tokens : List Token) → IsText tokens → Local some local_address_at tokens
unfolding local_address_at
local_address_local tokens h =
    then (λ x. address_at x) (λ address. Ok (options.LocalAddress address.0, address.1)) tokens (address_local tokens h)
    (λ address t1 h1. stays _ t1 h1)

pub description_local : {some : Bool} (tokens : List Token) → IsText tokens → Local some description_at tokens
unfolding description_at
description_local tokens h =
    then (λ x. quoted_at x) (λ text. Ok (options.Description text.0, text.1)) tokens (quoted_local tokens h)
    (λ text t1 h1. stays _ t1 h1)

pub port_local : {some : Bool} (tokens : List Token) → IsText tokens → Local some port_at tokens
unfolding port_at
port_local tokens h =
    then (λ x. number_at 1 65535 x) (λ port. Ok (options.Port port.0, port.1)) tokens (number_local _ _ tokens h)
    (λ port t1 h1. stays _ t1 h1)

pub multihop_local : {some : Bool} (tokens : List Token) → IsText tokens → Local some multihop_at tokens
unfolding multihop_at
multihop_local tokens h =
    then (λ x. number_at 1 255 x) (λ hops. Ok (options.Multihop hops.0, hops.1)) tokens (number_local _ _ tokens h)
    (λ hops t1 h1. stays _ t1 h1)

pub hold_min_option_local : {some : Bool} (tokens : List Token) → IsText tokens → Local some hold_min_option_at tokens
unfolding hold_min_option_at
hold_min_option_local tokens h =
    then (λ x. number_at 3 65535 x) (λ seconds. Ok (options.HoldMin seconds.0, seconds.1)) tokens (number_local _ _ tokens h)
    (λ seconds t1 h1. stays _ t1 h1)

pub hold_option_local : {some : Bool} (tokens : List Token) → IsText tokens → Local some hold_option_at tokens
unfolding hold_option_at
hold_option_local tokens h =
    then (λ x. hold_at x) (λ seconds. Ok (options.Hold seconds.0, seconds.1)) tokens (hold_local tokens h)
    (λ seconds t1 h1. stays _ t1 h1)

pub any_hold_option_local : {some : Bool} (tokens : List Token) → IsText tokens → Local some any_hold_option_at tokens
unfolding any_hold_option_at
any_hold_option_local tokens h =
    one_of (λ x. word_is (codes "min") x) (λ x. hold_min_option_at (behind x)) _ tokens (word_is_first _)
    (λ e1. past hold_min_option_at tokens (word_begun _ tokens h e1) hold_min_option_local)
    (λ e1. hold_option_local tokens h)

pub family_local : {some : Bool} (family : Family) (tokens : List Token) → IsText tokens → Local some (family_at family) tokens
unfolding family_at
family_local family tokens h =
    one_of (λ x. word_is (codes "none") x) (λ x. Ok (options.Announce family false, behind x)) _ tokens (word_is_first _)
    (λ e1. takes _ tokens (word_begun _ tokens h e1))
    (λ e1. one_of (λ x. word_is (codes "unicast") x) (λ x. Ok (options.Announce family true, behind x)) _ tokens (word_is_first _)
    (λ e2. takes _ tokens (word_begun _ tokens h e2))
    (λ e2. fails_here _ tokens h))

pub announce_refresh_local : {some : Bool} (tokens : List Token) → IsText tokens → Local some announce_refresh_at tokens
unfolding announce_refresh_at
announce_refresh_local tokens h =
    then (λ x. yes_no_at x) (λ on. Ok (options.AnnounceRefresh on.0, on.1)) tokens (yes_no_local tokens h)
    (λ on t1 h1. stays _ t1 h1)

pub announce_as_4byte_local : {some : Bool} (tokens : List Token) → IsText tokens → Local some announce_as_4byte_at tokens
unfolding announce_as_4byte_at
announce_as_4byte_local tokens h =
    then (λ x. yes_no_at x) (λ on. Ok (options.AnnounceAs4Byte on.0, on.1)) tokens (yes_no_local tokens h)
    (λ on t1 h1. stays _ t1 h1)

pub capability_local : {some : Bool} (tokens : List Token) → IsText tokens → Local some capability_at tokens
unfolding capability_at
capability_local tokens h =
    one_of (λ x. word_is (codes "refresh") x) (λ x. announce_refresh_at (behind x)) _ tokens (word_is_first _)
    (λ e1. past announce_refresh_at tokens (word_begun _ tokens h e1) announce_refresh_local)
    (λ e1. one_of (λ x. word_is (codes "as-4byte") x) (λ x. announce_as_4byte_at (behind x)) _ tokens (word_is_first _)
    (λ e2. past announce_as_4byte_at tokens (word_begun _ tokens h e2) announce_as_4byte_local)
    (λ e2. one_of (λ x. is_some (word_of x)) (λ x. fails NotInProfile x) _ tokens (λ z a b i. is_some (text_of_first is_word z a b i))
    (λ e3. fails_here _ tokens h)
    (λ e3. fails_here _ tokens h)))

pub announce_local : {some : Bool} (tokens : List Token) → IsText tokens → Local some announce_at tokens
unfolding announce_at
announce_local tokens h =
    one_of (λ x. word_is (codes "IPv4") x) (λ x. family_at families.V4 (behind x)) _ tokens (word_is_first _)
    (λ e1. past (family_at families.V4) tokens (word_begun _ tokens h e1) (family_local _))
    (λ e1. one_of (λ x. word_is (codes "IPv6") x) (λ x. family_at families.V6 (behind x)) _ tokens (word_is_first _)
    (λ e2. past (family_at families.V6) tokens (word_begun _ tokens h e2) (family_local _))
    (λ e2. capability_local tokens h))

pub max_prefix_local : {some : Bool} (tokens : List Token) → IsText tokens → Local some max_prefix_at tokens
unfolding max_prefix_at
max_prefix_local tokens h =
    then (λ x. number_at 1 4294967295 x) (λ most. cond (word_is (codes "restart") most.1) (fails NotInProfile most.1) (Ok (options.MaxPrefix most.0, most.1))) tokens (number_local _ _ tokens h)
    (λ most t1 h1. one_of (λ x. word_is (codes "restart") x) (λ x. fails NotInProfile x) _ t1 (word_is_first _)
    (λ e2. fails_here _ t1 h1)
    (λ e2. stays _ t1 h1))

pub rib_option_local : {some : Bool} (tokens : List Token) → IsText tokens → Local some rib_option_at tokens
unfolding rib_option_at
rib_option_local tokens h =
    then (λ x. name_at x) (λ name. Ok (options.Rib name.0, name.1)) tokens (name_local tokens h)
    (λ name t1 h1. stays _ t1 h1)

pub set_option_local : {some : Bool} (tokens : List Token) → IsText tokens → Local some set_option_at tokens
unfolding set_option_at
set_option_local tokens h =
    then (λ x. set_at places.Neighbour x) (λ set. Ok (options.Set set.0, set.1)) tokens (set_local _ tokens h)
    (λ set t1 h1. stays _ t1 h1)

pub no_option_local : {some : Bool} (tokens : List Token) → IsText tokens → Local some no_option_at tokens
unfolding no_option_at
no_option_local tokens h =
    one_of (λ x. word_in left_out_of_neighbours x) (λ x. fails NotInProfile x) _ tokens (word_in_first _)
    (λ e1. fails_here _ tokens h)
    (λ e1. fails_here _ tokens h)

pub routing_option_local : {some : Bool} (tokens : List Token) → IsText tokens → Local some routing_option_at tokens
unfolding routing_option_at
routing_option_local tokens h =
    one_of (λ x. word_is (codes "announce") x) (λ x. announce_at (behind x)) _ tokens (word_is_first _)
    (λ e1. past announce_at tokens (word_begun _ tokens h e1) announce_local)
    (λ e1. one_of (λ x. word_is (codes "max-prefix") x) (λ x. max_prefix_at (behind x)) _ tokens (word_is_first _)
    (λ e2. past max_prefix_at tokens (word_begun _ tokens h e2) max_prefix_local)
    (λ e2. one_of (λ x. word_is (codes "rib") x) (λ x. rib_option_at (behind x)) _ tokens (word_is_first _)
    (λ e3. past rib_option_at tokens (word_begun _ tokens h e3) rib_option_local)
    (λ e3. one_of (λ x. word_is (codes "set") x) (λ x. set_option_at (behind x)) _ tokens (word_is_first _)
    (λ e4. past set_option_at tokens (word_begun _ tokens h e4) set_option_local)
    (λ e4. no_option_local tokens h))))

pub session_option_local : {some : Bool} (tokens : List Token) → IsText tokens → Local some session_option_at tokens
unfolding session_option_at
session_option_local tokens h =
    one_of (λ x. word_is (codes "down") x) (λ x. Ok (options.Down, behind x)) _ tokens (word_is_first _)
    (λ e1. takes _ tokens (word_begun _ tokens h e1))
    (λ e1. one_of (λ x. word_is (codes "multihop") x) (λ x. multihop_at (behind x)) _ tokens (word_is_first _)
    (λ e2. past multihop_at tokens (word_begun _ tokens h e2) multihop_local)
    (λ e2. one_of (λ x. word_is (codes "holdtime") x) (λ x. any_hold_option_at (behind x)) _ tokens (word_is_first _)
    (λ e3. past any_hold_option_at tokens (word_begun _ tokens h e3) any_hold_option_local)
    (λ e3. routing_option_local tokens h)))

pub connection_option_local : {some : Bool} (tokens : List Token) → IsText tokens → Local some connection_option_at tokens
unfolding connection_option_at
connection_option_local tokens h =
    one_of (λ x. word_is (codes "descr") x) (λ x. description_at (behind x)) _ tokens (word_is_first _)
    (λ e1. past description_at tokens (word_begun _ tokens h e1) description_local)
    (λ e1. one_of (λ x. word_is (codes "port") x) (λ x. port_at (behind x)) _ tokens (word_is_first _)
    (λ e2. past port_at tokens (word_begun _ tokens h e2) port_local)
    (λ e2. one_of (λ x. word_is (codes "passive") x) (λ x. Ok (options.Passive, behind x)) _ tokens (word_is_first _)
    (λ e3. takes _ tokens (word_begun _ tokens h e3))
    (λ e3. session_option_local tokens h)))

pub option_local : {some : Bool} (tokens : List Token) → IsText tokens → Local some option_at tokens
unfolding option_at
option_local tokens h =
    one_of (λ x. word_is (codes "remote-as") x) (λ x. remote_as_at (behind x)) _ tokens (word_is_first _)
    (λ e1. past remote_as_at tokens (word_begun _ tokens h e1) remote_as_local)
    (λ e1. one_of (λ x. word_is (codes "local-address") x) (λ x. local_address_at (behind x)) _ tokens (word_is_first _)
    (λ e2. past local_address_at tokens (word_begun _ tokens h e2) local_address_local)
    (λ e2. connection_option_local tokens h))

-- an option with its line
pub option_line_local : {some : Bool} (tokens : List Token) → IsText tokens → Local some option_line_at tokens
unfolding option_line_at
option_line_local tokens h =
    by_first line_of (λ line x. option_at x >>= λ option. separated_at option.1 >>= λ rest. Ok (record { line = line; option = option.0 }, rest)) tokens (λ z a b. refl)
    (λ line e. then option_at (λ option. separated_at option.1 >>= λ rest. Ok (record { line = line; option = option.0 }, rest)) tokens (option_local tokens h)
    (λ option t1 h1. separated_then (λ rest. Ok (record { line = line; option = option }, rest)) t1 h1 (λ t2 h2. stays _ t2 h2)))

pub line_ends_local : {A : Type 0} {some : Bool} (g : List Token → Reading A) (t : List Token) → IsText t → ((y : List Token) → IsText y → length y ≤ length t → Local some g y) → Local some (λ x. g (after_line_ends x)) t
unfolding after_line_ends
line_ends_local g t h l = skipping (λ token. is_line_end token.kind) g t h l

line_ends_text : (t : List Token) → IsText t → IsText (after_line_ends t)
unfolding after_line_ends
line_ends_text t h = after_text (λ token. is_line_end token.kind) t h

line_ends_shorter : (t : List Token) → length (after_line_ends t) ≤ length t
unfolding after_line_ends
line_ends_shorter t = after_shorter (λ token. is_line_end token.kind) t

-- the options of a neighbour
abbrev OptionReader : Type 0
OptionReader = Unit {0} → List Token → Reading (List OptionLine)

abbrev options_turns : Unit {0} → ℕ → List Token → Reading (List OptionLine)
options_turns s n x = options_at n x

abbrev more_options : OptionReader → (OptionLine × List Token) → Reading (List OptionLine)
more_options f first = f tt first.1 >>= λ others. Ok (first.0 ∷ others.0, others.1)

abbrev options_round : OptionReader → Unit {0} → List Token → Reading (List OptionLine)
options_round f s x = cond (mark_is (codes "}") (after_line_ends x)) (Ok ([], behind (after_line_ends x))) (option_line_at (after_line_ends x) >>= more_options f)

options_by_less : (f g : OptionReader) (s : Unit {0}) (t : List Token) → IsText t → ((s' : Unit {0}) (t' : List Token) → IsText t' → length t' < length t → f s' t' ≡ g s' t') → options_round f s t ≡ options_round g s t
options_by_less f g s t h same =
    let y : List Token = after_line_ends t in
    ap (λ (r : Reading (List OptionLine)). cond (mark_is (codes "}") y) (Ok ([], behind y)) r) (by (option_line_at y) refl)
  where
    l : Local true option_line_at (after_line_ends t)
    l = option_line_local (after_line_ends t) (line_ends_text t h)

    by : (r : Reading OptionLine) → option_line_at (after_line_ends t) ≡ r → (r >>= more_options f) ≡ (r >>= more_options g)
    by (Err fault) e = refl
    by (Ok first) e =
        ap (λ (r : Reading (List OptionLine)). r >>= λ others. Ok (first.0 ∷ others.0, others.1))
        (same tt first.1 (left_text option_line_at (more_options f) (after_line_ends t) l first.0 first.1 e) (omega (arith, shorter option_line_at (after_line_ends t) l first.0 first.1 e, line_ends_shorter t)))

options_round_local : {some : Bool} (f : OptionReader) (s : Unit {0}) (t : List Token) → IsText t → ((s' : Unit {0}) (t' : List Token) → IsText t' → length t' < length t → Local false (f s') t') → Local some (options_round f s) t
options_round_local {some} f s t h l =
    line_ends_local (λ y. cond (mark_is (codes "}") y) (Ok ([], behind y)) (option_line_at y >>= more_options f)) t h
    (λ y k short. one_of (λ x. mark_is (codes "}") x) (λ x. Ok ([], behind x)) (λ x. option_line_at x >>= more_options f) y (mark_is_first _)
    (λ e. takes _ y (mark_begun _ y k e))
    (λ e. weaker (λ x. option_line_at x >>= more_options f) y
    (then_with option_line_at (more_options f) y (option_line_local y k)
    (λ v left e' k'. then (f tt) (λ others. Ok (v ∷ others.0, others.1)) left (l tt left k' (omega (arith, shorter option_line_at y (option_line_local y k) v left e', short))) (λ w left' k''. stays _ left' k'')))))

pub options_local : {some : Bool} (tokens : List Token) → IsText tokens → Local some (λ x. options_at (length x) x) tokens
unfolding options_at
options_local {some} tokens h =
    turns_local options_turns options_round (λ s n t. refl) options_by_less options_round_local (λ s t q. weak some (λ x. options_at (length x) x) t q) tt tokens h

neighbour_body_local : {some : Bool} (line : ℕ) (tokens : List Token) → IsText tokens → Local some (neighbour_body_at line) tokens
unfolding neighbour_body_at
neighbour_body_local line tokens h =
    then address_at (λ address. mark_at (codes "{") address.1 >>= λ rest. options_at (length rest) rest >>= λ options. Ok (record { line = line; address = address.0; options = options.0 }, options.1)) tokens (address_local tokens h)
    (λ address t1 h1. mark_then _ (λ rest. options_at (length rest) rest >>= λ options. Ok (record { line = line; address = address; options = options.0 }, options.1)) t1 h1
    (λ t2 h2. then (λ x. options_at (length x) x) (λ options. Ok (record { line = line; address = address; options = options.0 }, options.1)) t2 (options_local t2 h2) (λ options t3 h3. stays _ t3 h3)))

-- a neighbour, behind a test of its word
pub neighbour_local : {some : Bool} (full : Bool) (tokens : List Token) → IsText tokens → Begun tokens → Local some (neighbour_at full) tokens
unfolding neighbour_at
neighbour_local full tokens h b =
    by_first line_of (λ line x. unless_full full counted.Neighbours x (cond (is_some (prefix_of_word (behind x))) (fails NotInProfile (behind x)) (neighbour_body_at line (behind x)))) tokens (λ z a b. refl)
    (λ line e. unless (λ x. cond (is_some (prefix_of_word (behind x))) (fails NotInProfile (behind x)) (neighbour_body_at line (behind x))) _ _ tokens h
    (past (λ y. cond (is_some (prefix_of_word y)) (fails NotInProfile y) (neighbour_body_at line y)) tokens b
    (λ t1 h1. one_of (λ y. is_some (prefix_of_word y)) (λ y. fails NotInProfile y) (λ y. neighbour_body_at line y) t1 (λ z a b i. is_some (prefix_of_word_first z a b i)) (λ e. fails_here _ t1 h1) (λ e. neighbour_body_local line t1 h1))))

pub neighbour_line_local : {some : Bool} (full : Bool) (tokens : List Token) → IsText tokens → Begun tokens → Local some (neighbour_line_at full) tokens
unfolding neighbour_line_at
neighbour_line_local full tokens h b =
    then (λ x. neighbour_at full x) (λ neighbour. separated_at neighbour.1 >>= λ rest. Ok (neighbour.0, rest)) tokens (neighbour_local _ tokens h b)
    (λ neighbour t1 h1. separated_then (λ rest. Ok (neighbour, rest)) t1 h1 (λ t2 h2. stays _ t2 h2))

abbrev MembersReader : Type 0
MembersReader = ℕ → List Token → Reading Members

abbrev more_neighbours : MembersReader → ℕ → (NeighbourBlock × List Token) → Reading Members
more_neighbours f room first = f (room - 1) first.1 >>= λ others. Ok (with_neighbour first.0 others.0, others.1)

abbrev more_members : MembersReader → ℕ → (OptionLine × List Token) → Reading Members
more_members f room first = f room first.1 >>= λ others. Ok (with_option first.0 others.0, others.1)

abbrev members_of : MembersReader → ℕ → List Token → Reading Members
members_of f room y =
    cond (mark_is (codes "}") y) (Ok (([], []), behind y)) (cond (word_is (codes "neighbor") y) (neighbour_line_at (eqb room 0) y >>= more_neighbours f room) (option_line_at y >>= more_members f room))

abbrev members_round : MembersReader → ℕ → List Token → Reading Members
members_round f room x = members_of f room (after_line_ends x)

members_by_less : (f g : MembersReader) (room : ℕ) (t : List Token) → IsText t → ((s : ℕ) (t' : List Token) → IsText t' → length t' < length t → f s t' ≡ g s t') → members_round f room t ≡ members_round g room t
members_by_less f g room t h same = by_word (word_is (codes "neighbor") (after_line_ends t)) refl
  where
    k : IsText (after_line_ends t)
    k = line_ends_text t h

    own : Local true option_line_at (after_line_ends t)
    own = option_line_local (after_line_ends t) k

    option : (r : Reading OptionLine) → option_line_at (after_line_ends t) ≡ r → (r >>= more_members f room) ≡ (r >>= more_members g room)
    option (Err fault) e = refl
    option (Ok first) e =
        ap (λ (r : Reading Members). r >>= λ others. Ok (with_option first.0 others.0, others.1))
        (same room first.1 (left_text option_line_at (more_members f room) (after_line_ends t) own first.0 first.1 e) (omega (arith, shorter option_line_at (after_line_ends t) own first.0 first.1 e, line_ends_shorter t)))

    neighbour : (l : Local true (neighbour_line_at (eqb room 0)) (after_line_ends t)) (r : Reading NeighbourBlock) → neighbour_line_at (eqb room 0) (after_line_ends t) ≡ r → (r >>= more_neighbours f room) ≡ (r >>= more_neighbours g room)
    neighbour l (Err fault) e = refl
    neighbour l (Ok first) e =
        ap (λ (r : Reading Members). r >>= λ others. Ok (with_neighbour first.0 others.0, others.1))
        (same (room - 1) first.1 (left_text (neighbour_line_at (eqb room 0)) (more_neighbours f room) (after_line_ends t) l first.0 first.1 e) (omega (arith, shorter (neighbour_line_at (eqb room 0)) (after_line_ends t) l first.0 first.1 e, line_ends_shorter t)))

    both : Bool → Reading Members → Reading Members → Reading Members
    both b r q = cond (mark_is (codes "}") (after_line_ends t)) (Ok (([], []), behind (after_line_ends t))) (cond b r q)

    by_word : (b : Bool) → word_is (codes "neighbor") (after_line_ends t) ≡ b → members_round f room t ≡ members_round g room t
    by_word true e =
        ap (λ (b : Bool). both b (neighbour_line_at (eqb room 0) (after_line_ends t) >>= more_neighbours f room) (option_line_at (after_line_ends t) >>= more_members f room)) e
        ∙ ap (λ (r : Reading Members). both true r (option_line_at (after_line_ends t) >>= more_members f room)) (neighbour (neighbour_line_local (eqb room 0) (after_line_ends t) k (word_begun _ (after_line_ends t) k e)) (neighbour_line_at (eqb room 0) (after_line_ends t)) refl)
        ∙ sym (ap (λ (b : Bool). both b (neighbour_line_at (eqb room 0) (after_line_ends t) >>= more_neighbours g room) (option_line_at (after_line_ends t) >>= more_members g room)) e)
    by_word false e =
        ap (λ (b : Bool). both b (neighbour_line_at (eqb room 0) (after_line_ends t) >>= more_neighbours f room) (option_line_at (after_line_ends t) >>= more_members f room)) e
        ∙ ap (λ (r : Reading Members). both false (neighbour_line_at (eqb room 0) (after_line_ends t) >>= more_neighbours f room) r) (option (option_line_at (after_line_ends t)) refl)
        ∙ sym (ap (λ (b : Bool). both b (neighbour_line_at (eqb room 0) (after_line_ends t) >>= more_neighbours g room) (option_line_at (after_line_ends t) >>= more_members g room)) e)

members_round_local : {some : Bool} (f : MembersReader) (room : ℕ) (t : List Token) → IsText t → ((s : ℕ) (t' : List Token) → IsText t' → length t' < length t → Local false (f s) t') → Local some (members_round f room) t
members_round_local {some} f room t h l =
    line_ends_local (members_of f room) t h
    (λ y k short. one_of (λ x. mark_is (codes "}") x) (λ x. Ok (([], []), behind x)) (λ x. cond (word_is (codes "neighbor") x) (neighbour_line_at (eqb room 0) x >>= more_neighbours f room) (option_line_at x >>= more_members f room)) y (mark_is_first _)
    (λ e. takes _ y (mark_begun _ y k e))
    (λ e. one_of (λ x. word_is (codes "neighbor") x) (λ x. neighbour_line_at (eqb room 0) x >>= more_neighbours f room) (λ x. option_line_at x >>= more_members f room) y (word_is_first _)
    (λ e2.
    let first : Local true (neighbour_line_at (eqb room 0)) y = neighbour_line_local (eqb room 0) y k (word_begun _ y k e2) in
    weaker (λ x. neighbour_line_at (eqb room 0) x >>= more_neighbours f room) y
    (then_with (neighbour_line_at (eqb room 0)) (more_neighbours f room) y first
    (λ v left e' k'. then (f (room - 1)) (λ others. Ok (with_neighbour v others.0, others.1)) left (l (room - 1) left k' (omega (arith, shorter (neighbour_line_at (eqb room 0)) y first v left e', short))) (λ w left' k''. stays _ left' k''))))
    (λ e2. weaker (λ x. option_line_at x >>= more_members f room) y
    (then_with option_line_at (more_members f room) y (option_line_local y k)
    (λ v left e' k'. then (f room) (λ others. Ok (with_option v others.0, others.1)) left (l room left k' (omega (arith, shorter option_line_at y (option_line_local y k) v left e', short))) (λ w left' k''. stays _ left' k''))))))

pub group_members_local : {some : Bool} (room : ℕ) (tokens : List Token) → IsText tokens → Local some (λ x. group_members_at room (length x) x) tokens
unfolding group_members_at
group_members_local {some} room tokens h =
    turns_local group_members_at members_round (λ s n t. refl) members_by_less members_round_local (λ s t q. weak some (λ x. group_members_at s (length x) x) t q) room tokens h

pub group_local : {some : Bool} (room : ℕ) (tokens : List Token) → IsText tokens → Local some (group_at room) tokens
unfolding group_at
group_local room tokens h =
    then group_name_at (λ name. mark_at (codes "{") name.1 >>= λ rest. group_members_at room (length rest) rest >>= λ members. Ok (record { name = name.0; options = members.0.0; neighbours = members.0.1 }, members.1)) tokens (group_name_local tokens h)
    (λ name t1 h1. mark_then _ (λ rest. group_members_at room (length rest) rest >>= λ members. Ok (record { name = name; options = members.0.0; neighbours = members.0.1 }, members.1)) t1 h1
    (λ t2 h2. then (λ x. group_members_at room (length x) x) (λ members. Ok (record { name = name; options = members.0.0; neighbours = members.0.1 }, members.1)) t2 (group_members_local room t2 h2) (λ members t3 h3. stays _ t3 h3)))
