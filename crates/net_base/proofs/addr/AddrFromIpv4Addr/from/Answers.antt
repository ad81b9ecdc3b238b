use Rattle.std.proofs.Common.{rules, refl, ap, ◌∙◌}
use Rattle.net_base.specs.Bits.{octets_of_bits}
use Rattle.net_base.proofs.Bits.{octets_of_bits-from_be_bytes}
use Rattle.net_base.proofs.addr.AddrFromIpv4Addr.from.Goals as goal

pub returns : goal.returns
returns c = (
  refl,
  ap octets_of_bits (c.from.ensures ∙ c.from_be_bytes.ensures)
      ∙ octets_of_bits-from_be_bytes c.octets.result (search rules) (search rules)
      ∙ c.octets.ensures,
)
