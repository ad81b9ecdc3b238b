use Rattle.std.proofs.Common.{rules, refl, ap, ◌∙◌}
use Rattle.std.specs.Net.Addr.{segments_of}
use Rattle.net_base.specs.Bits.{groups_of_bits}
use Rattle.net_base.proofs.Bits.{groups_of_bits-from_be_bytes, segments_of-octets_of}
use Rattle.net_base.proofs.addr.AddrFromIpv6Addr.from.Goals as goal

pub returns : goal.returns
returns c = (
  refl,
  ap groups_of_bits c.from_be_bytes.ensures
      ∙ groups_of_bits-from_be_bytes c.octets.result (search rules) (search rules)
      ∙ ap segments_of c.octets.ensures
      ∙ segments_of-octets_of _,
)
