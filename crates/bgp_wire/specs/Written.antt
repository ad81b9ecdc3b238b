-- The bytes of the messages that are written.
use Rattle.std.specs.Prelude.{◌≡◌, ◌≢◌, ◌⊎◌, ℕ, ◌<◌, ◌≤◌, ◌^◌, min, Bool, not, ◌==◌, ◌&&◌, ◌||◌, nat_lt, if◌then◌else◌, List, [], ◌∷◌, ◌++◌, length, take, slice_index, flat_map, Option, Some, None}
use Rattle.byteorder.specs.Endian.{big_bytes, big_number}
use Rattle.net_base.specs.declared.addr.Family.{Family}
use Rattle.net_base.specs.declared.addr.Family.TheVariants.{V4, V6}
use Rattle.bgp_wire.specs.declared.open.OpenRules.{OpenRules}
use Rattle.bgp_wire.specs.declared.open.OpenFacts.{OpenFacts}
use Rattle.bgp_wire.specs.Message.{Message}
use Rattle.bgp_wire.specs.Entries.{Entry, entry_bytes}

-- An entry, where it is announced.
abbrev pub announced : Bool → ℕ → List ℕ → List Entry
announced is_there code value = if is_there then record { code = code; value = value } ∷ [] else []

-- The capabilities of an own OPEN: multiprotocol (1) for IPv4 and IPv6 unicast, route refresh (2), four-octet AS numbers (65).
abbrev pub capabilities_by : OpenRules → List Entry
capabilities_by r =
    ((announced r.v4 1 (0 ∷ 1 ∷ 0 ∷ 1 ∷ [])
    ++ announced r.v6 1 (0 ∷ 2 ∷ 0 ∷ 1 ∷ []))
    ++ announced r.refresh 2 [])
    ++ announced r.as4 65 (big_bytes 4 r.asn)

-- One parameter of capabilities, or none where there is no capability.
abbrev pub parameters_by : OpenRules → List Entry
parameters_by r = if length (capabilities_by r) == 0 then [] else record { code = 2; value = flat_map entry_bytes (capabilities_by r) } ∷ []

-- My AS: AS_TRANS for an AS number that has no two octets (RFC 6793, section 9).
abbrev pub my_as_by : OpenRules → ℕ
my_as_by r = if nat_lt r.asn 65536 then r.asn else 23456

abbrev pub fixed_by : OpenRules → List ℕ
fixed_by r = (((4 ∷ []) ++ big_bytes 2 (my_as_by r)) ++ big_bytes 2 r.hold) ++ big_bytes 4 r.router_id

abbrev pub optional_by : OpenRules → List ℕ
optional_by r = flat_map entry_bytes (parameters_by r)

-- An own OPEN (RFC 4271, section 4.2).
abbrev pub open_by : OpenRules → Message
open_by r = record { kind = 1; body = (fixed_by r ++ (length (optional_by r) ∷ [])) ++ optional_by r }

-- A NOTIFICATION without data (RFC 4271, section 4.5).
abbrev pub notification : ℕ → ℕ → Message
notification code sub = record { kind = 3; body = code ∷ sub ∷ [] }

-- A KEEPALIVE (RFC 4271, section 4.4).
abbrev pub keepalive : Message
keepalive = record { kind = 4; body = [] }

-- The address family number (RFC 4760).
abbrev pub afi_of : Family → ℕ
afi_of V4 = 1
afi_of V6 = 2

-- A ROUTE-REFRESH of unicast prefixes (RFC 2918, section 3).
abbrev pub refresh_of : Family → Message
refresh_of family = record { kind = 5; body = big_bytes 2 (afi_of family) ++ (0 ∷ 1 ∷ []) }

-- The family of a ROUTE-REFRESH; its third byte isn't looked at.
abbrev pub refreshed_family : List ℕ → Option Family
refreshed_family body =
    if slice_index body 3 == 1 then (
    if big_number 2 body == 1 then Some V4
    else if big_number 2 body == 2 then Some V6
    else None)
    else None

-- The new bytes begin with the old ones.
abbrev pub Keeps : List ℕ → List ℕ → Type 0
Keeps old new = take (length old) new ≡ old

-- The AS number that an OPEN by these rules tells.
abbrev pub heard_asn : OpenRules → ℕ
heard_asn r = if r.as4 then r.asn else my_as_by r

-- An OPEN by the rules of `ours` is acceptable to the other side's rules.
pub record IsAcceptable (ours theirs : OpenRules) : Type 0 where
  pub asn : theirs.remote_as ≡ heard_asn ours
  pub hold : (ours.hold ≡ 0) ⊎ ((3 ≤ ours.hold) × (theirs.hold_min ≤ ours.hold))
  pub id : 0 < ours.router_id
  pub other_id : (ours.router_id ≢ theirs.router_id) ⊎ (theirs.remote_as ≢ theirs.asn)

-- What the other side gathers from it.
abbrev pub facts_by : OpenRules → OpenRules → OpenFacts
facts_by ours theirs = record {
  asn = heard_asn ours;
  id = ours.router_id;
  hold = min theirs.hold ours.hold;
  encoding = record {
    v4 = theirs.v4 && (ours.v4 || not ours.v6);
    v6 = theirs.v6 && ours.v6;
    as4 = theirs.as4 && ours.as4;
    refresh = theirs.refresh && ours.refresh;
    external = not (theirs.remote_as == theirs.asn);
  };
}

-- Each field of the rules has its width.
pub record RulesHaveWidth (r : OpenRules) : Type 0 where
  pub asn : r.asn < 2 ^ 32
  pub hold : r.hold < 2 ^ 16
  pub router_id : r.router_id < 2 ^ 32
