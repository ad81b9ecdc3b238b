-- How many bits an address of each family has.
use Rattle.std.specs.Prelude.{ℕ}
use Rattle.net_base.specs.declared.addr.Family.{Family}
use Rattle.net_base.specs.declared.addr.Family.TheVariants.{V4, V6}

-- the bits of an address
abbrev pub width_of : Family → ℕ
width_of V4 = 32
width_of V6 = 128
