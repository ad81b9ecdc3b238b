use Rattle.net_base.proofs.AddrText.{shown_v4, shown_v6}
use Rattle.net_base.proofs.addr.AddrDisplay.fmt.Goals as goal

pub returns-in-V4-clause-writes : goal.returns-in-V4-clause-writes
returns-in-V4-clause-writes g c = λ plain ok.
    rw (shown_v4 c.args.self.now c.from_bits.result c.in-V4.is c.from_bits.ensures) (c.fmt.ensures.writes plain ok)

pub returns-in-V6-clause-writes : goal.returns-in-V6-clause-writes
returns-in-V6-clause-writes g c = λ plain ok.
    rw (shown_v6 c.args.self.now c.from_bits-in-V6.result c.in-V6.is c.from_bits-in-V6.ensures, ← c.hex_groups.ensures)
    (c.fmt-in-V6.ensures.writes plain ok)
