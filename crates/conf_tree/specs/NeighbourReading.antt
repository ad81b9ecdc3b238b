-- Neighbours and groups as they are written.
use Rattle.std.specs.Prelude.{ℕ, zero, suc, ◌-◌, Bool, true, false, ◌||◌, List, [], ◌∷◌, length, drop, min, Result, Ok, is_some, if◌then◌else◌, ◌==◌, codes}
use Rattle.std.specs.List.{prefix_len}
use Rattle.net_base.specs.declared.addr.Family.{Family}
use Rattle.net_base.specs.declared.addr.Family.TheVariants as families
use Rattle.net_base.specs.declared.conf.ConfFault.{ConfFault}
use Rattle.net_base.specs.declared.conf.ConfKind.TheVariants.{NotInProfile}
use Rattle.net_base.specs.declared.conf.Counted.TheVariants as counted
use Rattle.conf_tree.specs.declared.token.Token.{Token}
use Rattle.conf_tree.specs.declared.draft.NeighbourOption.{NeighbourOption}
use Rattle.conf_tree.specs.declared.draft.NeighbourOption.TheVariants as options
use Rattle.conf_tree.specs.declared.draft.OptionLine.{OptionLine}
use Rattle.conf_tree.specs.declared.draft.NeighbourBlock.{NeighbourBlock}
use Rattle.conf_tree.specs.declared.draft.GroupBlock.{GroupBlock}
use Rattle.conf_tree.specs.declared.draft.SetPlace.TheVariants as places
use Rattle.conf_tree.specs.Faults.{◌>>=◌}
use Rattle.conf_tree.specs.Kinds.{is_line_end}
use Rattle.conf_tree.specs.Reading.{Reading, line_of, fails, unexpected, behind, word_of, word_is, word_in, mark_is, mark_at, ends_line, unless_full}
use Rattle.conf_tree.specs.Values.{number_at, as_number_at, hold_at, yes_no_at, address_at, prefix_of_word, name_at, group_name_at, quoted_at}
use Rattle.conf_tree.specs.ItemReading.{set_at}

-- ---- one kind of option after another, behind its word

unfoldable pub remote_as_at : List Token → Reading NeighbourOption
remote_as_at tokens = do
  asn ← as_number_at 1 tokens
  Ok (options.RemoteAs asn.0, asn.1)

unfoldable pub local_address_at : List Token → Reading NeighbourOption
local_address_at tokens = do
  address ← address_at tokens
  Ok (options.LocalAddress address.0, address.1)

unfoldable pub description_at : List Token → Reading NeighbourOption
description_at tokens = do
  text ← quoted_at tokens
  Ok (options.Description text.0, text.1)

unfoldable pub port_at : List Token → Reading NeighbourOption
port_at tokens = do
  port ← number_at 1 65535 tokens
  Ok (options.Port port.0, port.1)

unfoldable pub multihop_at : List Token → Reading NeighbourOption
multihop_at tokens = do
  hops ← number_at 1 255 tokens
  Ok (options.Multihop hops.0, hops.1)

unfoldable pub hold_min_option_at : List Token → Reading NeighbourOption
hold_min_option_at tokens = do
  seconds ← number_at 3 65535 tokens
  Ok (options.HoldMin seconds.0, seconds.1)

unfoldable pub hold_option_at : List Token → Reading NeighbourOption
hold_option_at tokens = do
  seconds ← hold_at tokens
  Ok (options.Hold seconds.0, seconds.1)

-- behind `holdtime`
unfoldable pub any_hold_option_at : List Token → Reading NeighbourOption
any_hold_option_at tokens = if word_is (codes "min") tokens then hold_min_option_at (behind tokens) else hold_option_at tokens

unfoldable pub family_at : Family → List Token → Reading NeighbourOption
family_at family tokens =
    if word_is (codes "none") tokens then Ok (options.Announce family false, behind tokens)
    else (if word_is (codes "unicast") tokens then Ok (options.Announce family true, behind tokens) else unexpected tokens)

unfoldable pub announce_refresh_at : List Token → Reading NeighbourOption
announce_refresh_at tokens = do
  on ← yes_no_at tokens
  Ok (options.AnnounceRefresh on.0, on.1)

unfoldable pub announce_as_4byte_at : List Token → Reading NeighbourOption
announce_as_4byte_at tokens = do
  on ← yes_no_at tokens
  Ok (options.AnnounceAs4Byte on.0, on.1)

-- a capability behind `announce`, where any other word is left out of the language
unfoldable pub capability_at : List Token → Reading NeighbourOption
capability_at tokens =
    if word_is (codes "refresh") tokens then announce_refresh_at (behind tokens)
    else (if word_is (codes "as-4byte") tokens then announce_as_4byte_at (behind tokens)
    else (if is_some (word_of tokens) then fails NotInProfile tokens else unexpected tokens))

-- behind `announce`
unfoldable pub announce_at : List Token → Reading NeighbourOption
announce_at tokens =
    if word_is (codes "IPv4") tokens then family_at families.V4 (behind tokens)
    else (if word_is (codes "IPv6") tokens then family_at families.V6 (behind tokens)
    else capability_at tokens)

-- behind `max-prefix`; `restart` behind the number is left out of the language
unfoldable pub max_prefix_at : List Token → Reading NeighbourOption
max_prefix_at tokens = do
  most ← number_at 1 4294967295 tokens
  if word_is (codes "restart") most.1 then fails NotInProfile most.1 else Ok (options.MaxPrefix most.0, most.1)

unfoldable pub rib_option_at : List Token → Reading NeighbourOption
rib_option_at tokens = do
  name ← name_at tokens
  Ok (options.Rib name.0, name.1)

unfoldable pub set_option_at : List Token → Reading NeighbourOption
set_option_at tokens = do
  set ← set_at places.Neighbour tokens
  Ok (options.Set set.0, set.1)

-- ---- an option by its word

abbrev pub left_out_of_neighbours : List (List ℕ)
left_out_of_neighbours =
    codes "ipsec" ∷ codes "tcp" ∷ codes "ttl-security" ∷ codes "depend" ∷ codes "demote" ∷ codes "enforce" ∷ codes "local-as"
    ∷ codes "role" ∷ codes "export" ∷ codes "route-reflector" ∷ []

-- no option of this language
unfoldable pub no_option_at : List Token → Reading NeighbourOption
no_option_at tokens = if word_in left_out_of_neighbours tokens then fails NotInProfile tokens else unexpected tokens

-- what the session announces and takes
unfoldable pub routing_option_at : List Token → Reading NeighbourOption
routing_option_at tokens =
    if word_is (codes "announce") tokens then announce_at (behind tokens)
    else (if word_is (codes "max-prefix") tokens then max_prefix_at (behind tokens)
    else (if word_is (codes "rib") tokens then rib_option_at (behind tokens)
    else (if word_is (codes "set") tokens then set_option_at (behind tokens)
    else no_option_at tokens)))

-- how far and how long the session lives, and what it carries
unfoldable pub session_option_at : List Token → Reading NeighbourOption
session_option_at tokens =
    if word_is (codes "down") tokens then Ok (options.Down, behind tokens)
    else (if word_is (codes "multihop") tokens then multihop_at (behind tokens)
    else (if word_is (codes "holdtime") tokens then any_hold_option_at (behind tokens)
    else routing_option_at tokens))

-- how the session comes up
unfoldable pub connection_option_at : List Token → Reading NeighbourOption
connection_option_at tokens =
    if word_is (codes "descr") tokens then description_at (behind tokens)
    else (if word_is (codes "port") tokens then port_at (behind tokens)
    else (if word_is (codes "passive") tokens then Ok (options.Passive, behind tokens)
    else session_option_at tokens))

unfoldable pub option_at : List Token → Reading NeighbourOption
option_at tokens =
    if word_is (codes "remote-as") tokens then remote_as_at (behind tokens)
    else (if word_is (codes "local-address") tokens then local_address_at (behind tokens)
    else connection_option_at tokens)

-- ---- blocks

-- the tokens behind line ends; the end of the text is none
unfoldable pub after_line_ends : List Token → List Token
after_line_ends tokens = drop (min (prefix_len (λ token. is_line_end token.kind) tokens) (length tokens - 1)) tokens

-- behind an option stands a line end or `}`
unfoldable pub separated_at : List Token → Result (List Token) ConfFault
separated_at tokens = if ends_line tokens || mark_is (codes "}") tokens then Ok tokens else unexpected tokens

-- an option with its line, and what separates it from the next one
unfoldable pub option_line_at : List Token → Reading OptionLine
option_line_at tokens = do
  option ← option_at tokens
  rest ← separated_at option.1
  Ok (record { line = line_of tokens; option = option.0 }, rest)

-- the options of a neighbour up to `}`; there are no more of them than tokens
unfoldable pub options_at : ℕ → List Token → Reading (List OptionLine)
options_at zero tokens = unexpected (after_line_ends tokens)
options_at (suc most) tokens =
    if mark_is (codes "}") (after_line_ends tokens) then Ok ([], behind (after_line_ends tokens))
    else (do
      first ← option_line_at (after_line_ends tokens)
      others ← options_at most first.1
      Ok (first.0 ∷ others.0, others.1))

-- what stands between the word `neighbor`, on this line, and its options' end
unfoldable pub neighbour_body_at : ℕ → List Token → Reading NeighbourBlock
neighbour_body_at line tokens = do
  address ← address_at tokens
  rest ← mark_at (codes "{") address.1
  options ← options_at (length rest) rest
  Ok (record { line = line; address = address.0; options = options.0 }, options.1)

-- a neighbour, of which one more can't be taken where there is no room; a prefix in the place of its address is left out
-- of the language
unfoldable pub neighbour_at : Bool → List Token → Reading NeighbourBlock
neighbour_at full tokens =
    unless_full full counted.Neighbours tokens
    (if is_some (prefix_of_word (behind tokens)) then fails NotInProfile (behind tokens) else neighbour_body_at (line_of tokens) (behind tokens))

-- ---- groups

-- the options and the neighbours of a group
abbrev pub Members : Type 0
Members = List OptionLine × List NeighbourBlock

abbrev pub with_option : OptionLine → Members → Members
with_option option members = (option ∷ members.0, members.1)

abbrev pub with_neighbour : NeighbourBlock → Members → Members
with_neighbour neighbour members = (members.0, neighbour ∷ members.1)

-- a neighbour, and what separates it from what follows
unfoldable pub neighbour_line_at : Bool → List Token → Reading NeighbourBlock
neighbour_line_at full tokens = do
  neighbour ← neighbour_at full tokens
  rest ← separated_at neighbour.1
  Ok (neighbour.0, rest)

-- What stands in a group up to `}`, with room for so many neighbours. There is no more of it than tokens.
unfoldable pub group_members_at : ℕ → ℕ → List Token → Reading Members
group_members_at room zero tokens = unexpected (after_line_ends tokens)
group_members_at room (suc most) tokens =
    if mark_is (codes "}") (after_line_ends tokens) then Ok (([], []), behind (after_line_ends tokens))
    else (if word_is (codes "neighbor") (after_line_ends tokens)
    then (do
      first ← neighbour_line_at (room == 0) (after_line_ends tokens)
      others ← group_members_at (room - 1) most first.1
      Ok (with_neighbour first.0 others.0, others.1))
    else (do
      first ← option_line_at (after_line_ends tokens)
      others ← group_members_at room most first.1
      Ok (with_option first.0 others.0, others.1)))

-- behind `group`
unfoldable pub group_at : ℕ → List Token → Reading GroupBlock
group_at room tokens = do
  name ← group_name_at tokens
  rest ← mark_at (codes "{") name.1
  members ← group_members_at room (length rest) rest
  Ok (record { name = name.0; options = members.0.0; neighbours = members.0.1 }, members.1)
