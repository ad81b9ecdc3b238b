-- Neighbours and groups are read in form, and no more of them than there is room for.
use Rattle.std.proofs.Common.{ℕ, zero, suc, ◌-◌, ◌≤◌, Bool, cond, eqb, List, [], ◌∷◌, codes, length, Ok, arith}
use Rattle.net_base.specs.declared.conf.ConfKind.TheVariants.{NotInProfile}
use Rattle.net_base.specs.declared.conf.Counted.TheVariants as counted
use Rattle.net_base.specs.declared.addr.Family.{Family}
use Rattle.net_base.specs.declared.addr.Family.TheVariants as families
use Rattle.conf_tree.specs.declared.token.Token.{Token}
use Rattle.conf_tree.specs.declared.draft.GroupBlock.{GroupBlock}
use Rattle.conf_tree.specs.declared.draft.NeighbourOption.TheVariants as options
use Rattle.conf_tree.specs.declared.draft.SetPlace.TheVariants as places
use Rattle.conf_tree.specs.Faults.{◌>>=◌}
use Rattle.conf_tree.specs.Reading.{Reading, line_of, fails, behind, word_is, mark_is}
use Rattle.conf_tree.specs.NeighbourReading.{remote_as_at, local_address_at, description_at, port_at, multihop_at, hold_min_option_at, hold_option_at, any_hold_option_at, family_at, announce_refresh_at, announce_as_4byte_at, capability_at, announce_at, max_prefix_at, rib_option_at, set_option_at, no_option_at, routing_option_at, session_option_at, connection_option_at, option_at, after_line_ends, separated_at, option_line_at, options_at, neighbour_body_at, neighbour_at, Members, with_option, with_neighbour, neighbour_line_at, group_members_at, group_at}
use Rattle.conf_tree.specs.Readable.{Each}
use Rattle.conf_sound.specs.InForm.{IsOption, IsOptionLine, IsBlock, IsGroup}
use Rattle.conf_sound.proofs.Finds.{AreGood, Finds, Leaves, ok, err, bind, bind_rest, either, good_behind, reading}
use Rattle.conf_sound.proofs.ReadingForms.{IsMember, AreAtMost, one_more, good_drop, unless_full_form, mark_form}
use Rattle.conf_sound.proofs.ValueForms.{number_form, as_number_form, hold_form, yes_no_form, address_form, name_form, group_name_form, quoted_form}
use Rattle.conf_sound.proofs.ItemForms.{set_form}

-- ---- one kind of option after another

remote_as_form : (tokens : List Token) → AreGood tokens → Finds IsOption (remote_as_at tokens)
unfolding remote_as_at
remote_as_form tokens g = bind _ _ (as_number_form 1 tokens g) (λ asn h rest. ok _ _ h rest)

local_address_form : (tokens : List Token) → AreGood tokens → Finds IsOption (local_address_at tokens)
unfolding local_address_at
local_address_form tokens g = bind _ _ (address_form tokens g) (λ address h rest. ok _ _ tt rest)

description_form : (tokens : List Token) → AreGood tokens → Finds IsOption (description_at tokens)
unfolding description_at
description_form tokens g = bind _ _ (quoted_form tokens g) (λ text h rest. ok _ _ h rest)

port_form : (tokens : List Token) → AreGood tokens → Finds IsOption (port_at tokens)
unfolding port_at
port_form tokens g = bind _ _ (number_form 1 65535 tokens g) (λ port h rest. ok _ _ h rest)

multihop_form : (tokens : List Token) → AreGood tokens → Finds IsOption (multihop_at tokens)
unfolding multihop_at
multihop_form tokens g = bind _ _ (number_form 1 255 tokens g) (λ hops h rest. ok _ _ h rest)

hold_min_option_form : (tokens : List Token) → AreGood tokens → Finds IsOption (hold_min_option_at tokens)
unfolding hold_min_option_at
hold_min_option_form tokens g = bind _ _ (number_form 3 65535 tokens g) (λ seconds h rest. ok _ _ h rest)

hold_option_form : (tokens : List Token) → AreGood tokens → Finds IsOption (hold_option_at tokens)
unfolding hold_option_at
hold_option_form tokens g = bind _ _ (hold_form tokens g) (λ seconds h rest. ok _ _ h rest)

any_hold_option_form : (tokens : List Token) → AreGood tokens → Finds IsOption (any_hold_option_at tokens)
unfolding any_hold_option_at
any_hold_option_form tokens g = search (reading, hold_min_option_form, hold_option_form, g)

family_form : (family : Family) (tokens : List Token) → AreGood tokens → Finds IsOption (family_at family tokens)
unfolding family_at
family_form family tokens g = search (reading, g, tt) depth 9

announce_refresh_form : (tokens : List Token) → AreGood tokens → Finds IsOption (announce_refresh_at tokens)
unfolding announce_refresh_at
announce_refresh_form tokens g = bind _ _ (yes_no_form tokens g) (λ on h rest. ok _ _ tt rest)

announce_as_4byte_form : (tokens : List Token) → AreGood tokens → Finds IsOption (announce_as_4byte_at tokens)
unfolding announce_as_4byte_at
announce_as_4byte_form tokens g = bind _ _ (yes_no_form tokens g) (λ on h rest. ok _ _ tt rest)

capability_form : (tokens : List Token) → AreGood tokens → Finds IsOption (capability_at tokens)
unfolding capability_at
capability_form tokens g = search (reading, announce_refresh_form, announce_as_4byte_form, g) depth 9

announce_form : (tokens : List Token) → AreGood tokens → Finds IsOption (announce_at tokens)
unfolding announce_at
announce_form tokens g = search (reading, family_form families.V4, family_form families.V6, capability_form, g) depth 9

max_prefix_form : (tokens : List Token) → AreGood tokens → Finds IsOption (max_prefix_at tokens)
unfolding max_prefix_at
max_prefix_form tokens g =
    bind _ _ (number_form 1 4294967295 tokens g)
    (λ most h rest. either (word_is (codes "restart") most.1) (fails NotInProfile most.1) (Ok (options.MaxPrefix most.0, most.1)) (λ e. err _) (λ e. ok _ _ h rest))

rib_option_form : (tokens : List Token) → AreGood tokens → Finds IsOption (rib_option_at tokens)
unfolding rib_option_at
rib_option_form tokens g = bind _ _ (name_form tokens g) (λ name h rest. ok _ _ h rest)

set_option_form : (tokens : List Token) → AreGood tokens → Finds IsOption (set_option_at tokens)
unfolding set_option_at
set_option_form tokens g = bind _ _ (set_form places.Neighbour tokens g) (λ set h rest. ok _ _ h rest)

-- ---- an option by its word

no_option_form : (tokens : List Token) → Finds IsOption (no_option_at tokens)
unfolding no_option_at
no_option_form tokens = search reading

routing_option_form : (tokens : List Token) → AreGood tokens → Finds IsOption (routing_option_at tokens)
unfolding routing_option_at
routing_option_form tokens g = search (reading, announce_form, max_prefix_form, rib_option_form, set_option_form, no_option_form, g) depth 9

session_option_form : (tokens : List Token) → AreGood tokens → Finds IsOption (session_option_at tokens)
unfolding session_option_at
session_option_form tokens g = search (reading, multihop_form, any_hold_option_form, routing_option_form, g, tt) depth 9

connection_option_form : (tokens : List Token) → AreGood tokens → Finds IsOption (connection_option_at tokens)
unfolding connection_option_at
connection_option_form tokens g = search (reading, description_form, port_form, session_option_form, g, tt) depth 9

option_form : (tokens : List Token) → AreGood tokens → Finds IsOption (option_at tokens)
unfolding option_at
option_form tokens g = search (reading, remote_as_form, local_address_form, connection_option_form, g) depth 9

-- ---- blocks

line_ends_good : (tokens : List Token) → AreGood tokens → AreGood (after_line_ends tokens)
unfolding after_line_ends
line_ends_good tokens g = good_drop _ tokens g

separated_form : (tokens : List Token) → AreGood tokens → Leaves (separated_at tokens)
unfolding separated_at
separated_form tokens g = search (reading, g)

option_line_form : (tokens : List Token) → AreGood tokens → Finds IsOptionLine (option_line_at tokens)
unfolding option_line_at
option_line_form tokens g = bind _ _ (option_form tokens g) (λ option h rest. bind_rest _ _ (separated_form option.1 rest) (λ after left. ok _ _ h left))

options_form : (most : ℕ) (tokens : List Token) → AreGood tokens → Finds (Each IsOptionLine) (options_at most tokens)
unfolding options_at
options_form zero tokens g = err _
options_form (suc most) tokens g =
    let g' : AreGood (after_line_ends tokens) = line_ends_good tokens g in
    either (mark_is (codes "}") (after_line_ends tokens)) (Ok ([], behind (after_line_ends tokens)))
    (option_line_at (after_line_ends tokens) >>= λ first. options_at most first.1 >>= λ others. Ok (first.0 ∷ others.0, others.1))
    (λ e. ok _ _ tt (good_behind _ g'))
    (λ e. bind _ _ (option_line_form (after_line_ends tokens) g') (λ first p rest. bind _ _ (options_form most first.1 rest) (λ others q left. ok _ _ (p, q) left)))

neighbour_body_form : (line : ℕ) (tokens : List Token) → AreGood tokens → Finds IsBlock (neighbour_body_at line tokens)
unfolding neighbour_body_at
neighbour_body_form line tokens g =
    bind _ _ (address_form tokens g)
    (λ address u rest. bind_rest _ _ (mark_form (codes "{") address.1 rest)
    (λ inside left. bind _ _ (options_form (length inside) inside left) (λ options h behind_them. ok _ _ h behind_them)))

pub neighbour_form : (full : Bool) (tokens : List Token) → AreGood tokens → Finds (IsMember IsBlock full) (neighbour_at full tokens)
unfolding neighbour_at
neighbour_form full tokens g =
    let body : Finds IsBlock (neighbour_body_at (line_of tokens) (behind tokens)) = neighbour_body_form (line_of tokens) (behind tokens) (good_behind tokens g) in
    unless_full_form IsBlock full counted.Neighbours tokens _ (search (reading, body))

-- ---- groups

neighbour_line_form : (full : Bool) (tokens : List Token) → AreGood tokens → Finds (IsMember IsBlock full) (neighbour_line_at full tokens)
unfolding neighbour_line_at
neighbour_line_form full tokens g = bind _ _ (neighbour_form full tokens g) (λ neighbour h rest. bind_rest _ _ (separated_form neighbour.1 rest) (λ after left. ok _ _ h left))

-- members in form, and no more neighbours than there is room for
abbrev AreMembers : ℕ → Members → Type 0
AreMembers room members = Each IsOptionLine members.0 × AreAtMost IsBlock room members.1

group_members_form : (room most : ℕ) (tokens : List Token) → AreGood tokens → Finds (AreMembers room) (group_members_at room most tokens)
unfolding group_members_at
group_members_form room zero tokens g = err _
group_members_form room (suc most) tokens g =
    let after : List Token = after_line_ends tokens in
    let g' : AreGood after = line_ends_good tokens g in
    let neighbour_first : Reading Members = neighbour_line_at (eqb room 0) after >>= λ first. group_members_at (room - 1) most first.1 >>= λ others. Ok (with_neighbour first.0 others.0, others.1) in
    let option_first : Reading Members = option_line_at after >>= λ first. group_members_at room most first.1 >>= λ others. Ok (with_option first.0 others.0, others.1) in
    let neighbour_first_form : Finds (AreMembers room) neighbour_first = bind _ _ (neighbour_line_form (eqb room 0) after g') (λ first p rest. bind _ _ (group_members_form (room - 1) most first.1 rest) (λ others q left. ok _ _ (q.0, ((p.0, q.1.0), one_more room (length others.0.1) p.1 q.1.1)) left)) in
    let option_first_form : Finds (AreMembers room) option_first = bind _ _ (option_line_form after g') (λ first p rest. bind _ _ (group_members_form room most first.1 rest) (λ others q left. ok _ _ ((p, q.0), q.1) left)) in
    either (mark_is (codes "}") after) (Ok (([], []), behind after)) (cond (word_is (codes "neighbor") after) neighbour_first option_first)
    (λ e. ok _ _ (tt, (tt, omega arith)) (good_behind _ g'))
    (λ e. either (word_is (codes "neighbor") after) neighbour_first option_first (λ h. neighbour_first_form) (λ h. option_first_form))

-- a group in form, and no more neighbours than there is room for
abbrev pub IsGroupWithin : ℕ → GroupBlock → Type 0
IsGroupWithin room group = IsGroup group × (length group.neighbours ≤ room)

pub group_form : (room : ℕ) (tokens : List Token) → AreGood tokens → Finds (IsGroupWithin room) (group_at room tokens)
unfolding group_at
group_form room tokens g =
    bind _ _ (group_name_form tokens g)
    (λ name h rest. bind_rest _ _ (mark_form (codes "{") name.1 rest)
    (λ inside left. bind _ _ (group_members_form room (length inside) inside left) (λ members p behind_them. ok _ _ ((h, p.0, p.1.0), p.1.1) behind_them)))
