use Rattle.std.proofs.Common.{◌≤◌, ◌<◌, ap, ◌∙◌, arith, Some}
use Rattle.net_base.specs.Width.{width_of}
use Rattle.net_base.proofs.PrefixText.{no_addr, no_len, long_len, both_parts}
use Rattle.net_base.proofs.prefix.Prefix.from_parts.Goals as goal

pub returns-in_default : goal.returns-in_default
returns-in_default c = no_addr _ _ c.in_default.ensures.value

pub returns-in_default-read_u32 : goal.returns-in_default-read_u32
returns-in_default-read_u32 c =
    no_len _ _ c.in-Ok.addr c.in_default-read_u32.field-0 c.in-Ok.ensures.value c.in_default-read_u32.ensures.grammar

pub returns-then-len-from : goal.returns-then-len-from
returns-then-len-from c =
    let past : width_of c.in-Ok.addr.family < c.in-Ok-read_u32.len = omega (arith, c.width.ensures, c.from.ensures) in
    long_len _ _ c.in-Ok.addr c.in-Ok-read_u32.len c.in-Ok.ensures.value c.in-Ok-read_u32.ensures.grammar.0 past

pub returns : goal.returns
returns c =
    let fits : c.in-Ok-read_u32.len ≤ width_of c.in-Ok.addr.family = omega (arith, c.width.ensures, c.from.ensures) in
    ap Some c.new.ensures
    ∙ both_parts _ _ c.in-Ok.addr c.in-Ok-read_u32.len c.in-Ok.ensures.value c.in-Ok-read_u32.ensures.grammar.0 fits
