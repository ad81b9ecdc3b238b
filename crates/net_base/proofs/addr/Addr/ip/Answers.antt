use Rattle.std.proofs.Common.{sym}
use Rattle.std.specs.Net.Addr.{IsIpv4OfBits, IsIpv6OfBits}
use Rattle.net_base.specs.Bits.{octets_of_bits, groups_of_bits}
use Rattle.net_base.proofs.addr.Addr.ip.Goals as goal

pub returns-in-V4 : goal.returns-in-V4
unfolding octets_of_bits IsIpv4OfBits
returns-in-V4 c = (c.in-V4.is, sym c.from_bits.ensures)

pub returns-in-V6 : goal.returns-in-V6
unfolding groups_of_bits IsIpv6OfBits
returns-in-V6 c = (c.in-V6.is, sym c.from_bits-in-V6.ensures)
