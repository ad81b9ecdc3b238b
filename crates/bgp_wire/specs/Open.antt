-- What an OPEN says (RFC 4271, section 4.2; RFC 5492, section 4; RFC 4760, section 8; RFC 2918, section 2;
-- RFC 6793, section 3), and how it is judged.
use Rattle.std.specs.Prelude.{ℕ, min, Bool, true, not, ◌&&◌, ◌||◌, ◌==◌, nat_lt, if◌then◌else◌, List, [], ◌∷◌, ◌++◌, length, drop, reverse, find, slice_index, Option, Some, None, Result, Ok, Err, is_some, unwrap_or, option_map}
use Rattle.std.specs.List.{list_all, list_any}
use Rattle.std.specs.Option.{option_map_or}
use Rattle.byteorder.specs.Endian.{big_number}
use Rattle.wire_buf.specs.Field.{◌>>=◌}
use Rattle.bgp_wire.specs.declared.notify.Notify.{Notify}
use Rattle.bgp_wire.specs.declared.open.OpenRules.{OpenRules}
use Rattle.bgp_wire.specs.declared.open.OpenFacts.{OpenFacts}
use Rattle.bgp_wire.specs.Message.{first_row, notify}
use Rattle.bgp_wire.specs.Entries.{Entry, entries}

-- The fields of an OPEN. Where its parameters or capabilities are malformed, both lists are empty.
pub record Open : Type 0 where
  pub version : ℕ
  pub my_as : ℕ
  pub hold : ℕ
  pub id : ℕ
  pub well_formed : Bool
  pub parameters : List Entry
  pub capabilities : List Entry

-- The optional parameters, which fill their length, and the length what is left of the body.
unfoldable pub parameters_of : List ℕ → Option (List Entry)
parameters_of body = if slice_index body 9 == length (drop 10 body) then entries (drop 10 body) else None

-- The capabilities of all parameters of type 2, in order.
unfoldable pub capabilities_in : List Entry → Option (List Entry)
capabilities_in [] = Some []
capabilities_in (p ∷ parameters) = do
  here ← (if p.code == 2 then entries p.value else Some [])
  others ← capabilities_in parameters
  Some (here ++ others)

-- A capability is of its own length: multiprotocol (1), route refresh (2), four-octet AS numbers (65).
abbrev pub has_its_length : Entry → Bool
has_its_length c =
    if c.code == 1 then length c.value == 4
    else if c.code == 2 then length c.value == 0
    else if c.code == 65 then length c.value == 4
    else true

-- The parameters and the capabilities, or None where some of them are malformed.
unfoldable pub lists_of : List ℕ → Option (List Entry × List Entry)
lists_of body = do
  parameters ← parameters_of body
  capabilities ← capabilities_in parameters
  if list_all has_its_length capabilities then Some (parameters, capabilities) else None

abbrev pub open_with : List ℕ → Option (List Entry × List Entry) → Open
open_with body lists = record {
  version = slice_index body 0;
  my_as = big_number 2 (drop 1 body);
  hold = big_number 2 (drop 3 body);
  id = big_number 4 (drop 5 body);
  well_formed = is_some lists;
  parameters = option_map_or (λ l. l.0) lists [];
  capabilities = option_map_or (λ l. l.1) lists [];
}

abbrev pub open_of : List ℕ → Open
open_of body = open_with body (lists_of body)

-- Capability 1 of a family's unicast prefixes; its third byte isn't looked at.
abbrev pub is_of_family : ℕ → Entry → Bool
is_of_family afi c = (c.code == 1) && ((big_number 2 c.value == afi) && (slice_index c.value 3 == 1))

abbrev pub is_of_code : ℕ → Entry → Bool
is_of_code code c = c.code == code

-- A peer without capability 1 offers IPv4.
abbrev pub offers_v4 : List Entry → Bool
offers_v4 capabilities = not (list_any (is_of_code 1) capabilities) || list_any (is_of_family 1) capabilities

abbrev pub offers_v6 : List Entry → Bool
offers_v6 capabilities = list_any (is_of_family 2) capabilities

abbrev pub offers : ℕ → List Entry → Bool
offers code capabilities = list_any (is_of_code code) capabilities

-- The AS number of the last capability 65.
abbrev pub four_octet_as : List Entry → Option ℕ
four_octet_as capabilities = option_map (λ c. big_number 4 c.value) (find (is_of_code 65) (reverse capabilities))

-- The AS of the peer: that of the last capability 65 if one is there, otherwise My AS.
abbrev pub as_of : Open → ℕ
as_of o = unwrap_or (four_octet_as o.capabilities) o.my_as

-- How an OPEN is judged (RFC 4271, section 6.2).
abbrev pub open_rows : Open → OpenRules → List (Bool × Notify)
open_rows o mine =
    (not (o.version == 4), notify 2 1)
    ∷ (not o.well_formed, notify 2 0)
    ∷ (list_any (λ p. not (p.code == 2)) o.parameters, notify 2 4)
    ∷ (not (as_of o == mine.remote_as), notify 2 2)
    ∷ (((o.hold == 1) || (o.hold == 2)) || (not (o.hold == 0) && nat_lt o.hold mine.hold_min), notify 2 6)
    ∷ ((o.id == 0) || ((o.id == mine.router_id) && (mine.remote_as == mine.asn)), notify 2 3)
    ∷ []

-- What both ends agreed by this OPEN.
abbrev pub facts_of : Open → OpenRules → OpenFacts
facts_of o mine = record {
  asn = as_of o;
  id = o.id;
  hold = min mine.hold o.hold;
  encoding = record {
    v4 = mine.v4 && offers_v4 o.capabilities;
    v6 = mine.v6 && offers_v6 o.capabilities;
    as4 = mine.as4 && offers 65 o.capabilities;
    refresh = mine.refresh && offers 2 o.capabilities;
    external = not (mine.remote_as == mine.asn);
  };
}

abbrev pub answered : Option Notify → OpenFacts → Result OpenFacts Notify
answered None facts = Ok facts
answered (Some fault) facts = Err fault

-- The answer to an OPEN: the first fault, or what was agreed.
abbrev pub answer_to : Open → OpenRules → Result OpenFacts Notify
answer_to o mine = answered (first_row (open_rows o mine)) (facts_of o mine)
