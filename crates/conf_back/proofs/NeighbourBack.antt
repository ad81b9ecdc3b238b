-- A neighbour that is read of the canonical text is the neighbour that was printed.
use Rattle.std.proofs.Common.{◌≡◌, ◌∙◌, ℕ, true, List, Option, ap}
use Rattle.std.specs.Prelude.{option_and_then, unwrap_or}
use Rattle.net_base.specs.declared.addr.Family.TheVariants.{V4, V6}
use Rattle.net_base.specs.Order.{same_family}
use Rattle.conf_tree.specs.declared.conf.Conf.{Conf}
use Rattle.conf_tree.specs.declared.neighbour.Neighbour.{Neighbour}
use Rattle.conf_tree.specs.Flat.{taken, neighbour_of, rib_number}
use Rattle.conf_tree.specs.Said.{rib_option_of}
use Rattle.conf_tree.specs.Readable.{IsNeighbour, IsWithinLimits}
use Rattle.conf_tree.specs.Settled.{IsSettled}
use Rattle.conf_back.proofs.Framed.{framed}
use Rattle.conf_back.proofs.RibsBack.{rib_number_back}
use Rattle.conf_back.proofs.OptionsBack.{placed_as, remote_as_taken, port_taken, hold_taken, hold_min_taken, v4_taken, v6_taken, refresh_taken, as_4byte_taken, rib_taken, local_address_taken, description_taken, passive_taken, down_taken, multihop_taken, max_prefix_taken, set_taken}

rib_back : (conf : Conf) (line : ℕ) (n : Neighbour) → IsWithinLimits conf → IsSettled conf → IsNeighbour conf n → unwrap_or (option_and_then (rib_number conf.ribs) (taken rib_option_of (placed_as conf line n))) 0 ≡ n.rib
rib_back conf line n fits s h =
    ap (λ (o : Option (List ℕ)). unwrap_or (option_and_then (rib_number conf.ribs) o) 0) (rib_taken conf line n)
    ∙ ap (λ (o : Option ℕ). unwrap_or o 0) (rib_number_back conf n.rib fits s h.rib)

pub neighbour_back : (conf : Conf) (line : ℕ) (n : Neighbour) → IsWithinLimits conf → IsSettled conf → IsNeighbour conf n → neighbour_of (framed conf) (placed_as conf line n) ≡ n
unfolding neighbour_of
neighbour_back conf line n fits s h = λ i. record {
  address = n.address;
  group = n.group;
  remote_as = unwrap_or (remote_as_taken conf line n i) 0;
  local_address = local_address_taken conf line n i;
  description = description_taken conf line n i;
  port = unwrap_or (port_taken conf line n i) 179;
  passive = passive_taken conf line n i;
  down = down_taken conf line n i;
  multihop = multihop_taken conf line n i;
  hold = unwrap_or (hold_taken conf line n i) conf.hold;
  hold_min = unwrap_or (hold_min_taken conf line n i) conf.hold_min;
  announce_v4 = unwrap_or (v4_taken conf line n i) (same_family n.address.family V4);
  announce_v6 = unwrap_or (v6_taken conf line n i) (same_family n.address.family V6);
  announce_refresh = unwrap_or (refresh_taken conf line n i) true;
  announce_as_4byte = unwrap_or (as_4byte_taken conf line n i) true;
  max_prefix = max_prefix_taken conf line n i;
  rib = rib_back conf line n fits s h i;
  set = set_taken conf line n i;
}
