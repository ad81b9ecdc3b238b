-- What capabilities and parameters add to what was heard before them.
use Rattle.std.specs.Prelude.{ℕ, min, Bool, false, not, ◌&&◌, ◌||◌, ◌==◌, nat_lt, is_some, if◌then◌else◌, List, [], ◌∷◌, drop, Option, Some, None, unwrap_or}
use Rattle.std.specs.List.{list_all, list_any}
use Rattle.std.specs.Option.{option_or}
use Rattle.byteorder.specs.Endian.{big_number}
use Rattle.wire_buf.specs.Field.{◌>>=◌}
use Rattle.bgp_wire.specs.declared.hearing.Offer.{Offer}
use Rattle.bgp_wire.specs.declared.hearing.Heard.{Heard}
use Rattle.bgp_wire.specs.declared.open.Said.{Said}
use Rattle.bgp_wire.specs.declared.open.OpenRules.{OpenRules}
use Rattle.bgp_wire.specs.declared.open.OpenFacts.{OpenFacts}
use Rattle.bgp_wire.specs.declared.notify.Notify.{Notify}
use Rattle.bgp_wire.specs.Message.{notify}
use Rattle.bgp_wire.specs.Entries.{Entry, entries}
use Rattle.bgp_wire.specs.Open.{is_of_code, is_of_family, four_octet_as, has_its_length, capabilities_in}

abbrev pub nothing : Heard
nothing = record { foreign = false; offer = record { families = false; v4 = false; v6 = false; refresh = false; asn = None } }

-- The offer, with what these capabilities say; None where one of them isn't of its length.
unfoldable pub offer_with : Offer → List Entry → Option Offer
offer_with o cs = if list_all has_its_length cs then Some (record {
  families = o.families || list_any (is_of_code 1) cs;
  v4 = o.v4 || list_any (is_of_family 1) cs;
  v6 = o.v6 || list_any (is_of_family 2) cs;
  refresh = o.refresh || list_any (is_of_code 2) cs;
  asn = option_or (four_octet_as cs) o.asn;
}) else None

-- What was heard, with what these parameters say; None where one of them is malformed.
unfoldable pub heard_with : Heard → List Entry → Option Heard
heard_with h ps = do
  capabilities ← capabilities_in ps
  offer ← offer_with h.offer capabilities
  Some (record { foreign = h.foreign || list_any (λ p. not (p.code == 2)) ps; offer = offer })

-- What the entries of a field add, or None where the field is malformed.
unfoldable pub offer_in : Offer → List ℕ → Option Offer
offer_in o bytes = entries bytes >>= offer_with o

unfoldable pub heard_in : Heard → List ℕ → Option Heard
heard_in h bytes = entries bytes >>= heard_with h

-- What the parameters and capabilities of an OPEN say in all.
abbrev pub offer_of : List Entry → Offer
offer_of cs = record {
  families = list_any (is_of_code 1) cs;
  v4 = list_any (is_of_family 1) cs;
  v6 = list_any (is_of_family 2) cs;
  refresh = list_any (is_of_code 2) cs;
  asn = four_octet_as cs;
}

abbrev pub heard_of : List Entry × List Entry → Heard
heard_of lists = record { foreign = list_any (λ p. not (p.code == 2)) lists.0; offer = offer_of lists.1 }

-- The rows behind those on the version and on what is malformed.
abbrev pub later_rows : Said → OpenRules → List (Bool × Notify)
later_rows s mine =
    (s.heard.foreign, notify 2 4)
    ∷ (not (s.asn == mine.remote_as), notify 2 2)
    ∷ (((s.hold == 1) || (s.hold == 2)) || (not (s.hold == 0) && nat_lt s.hold mine.hold_min), notify 2 6)
    ∷ ((s.id == 0) || ((s.id == mine.router_id) && (mine.remote_as == mine.asn)), notify 2 3)
    ∷ []

abbrev pub later_facts : Said → OpenRules → OpenFacts
later_facts s mine = record {
  asn = s.asn;
  id = s.id;
  hold = min mine.hold s.hold;
  encoding = record {
    v4 = mine.v4 && (not s.heard.offer.families || s.heard.offer.v4);
    v6 = mine.v6 && s.heard.offer.v6;
    as4 = mine.as4 && is_some s.heard.offer.asn;
    refresh = mine.refresh && s.heard.offer.refresh;
    external = not (mine.remote_as == mine.asn);
  };
}

abbrev pub said_of : List ℕ → Heard → Said
said_of body heard = record {
  asn = unwrap_or heard.offer.asn (big_number 2 (drop 1 body));
  hold = big_number 2 (drop 3 body);
  id = big_number 4 (drop 5 body);
  heard = heard;
}
