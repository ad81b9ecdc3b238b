use Rattle.std.proofs.Common.{◌≡◌, ◌-◌, ◌%◌, ◌^◌, min, refl, sym, arith}
use Rattle.net_base.specs.Width.{width_of}
use Rattle.net_base.specs.Bits.{host_len, without_low, without_low-lt, without_low-mod}
use Rattle.net_base.proofs.Equal.{same_prefix}
use Rattle.net_base.proofs.prefix.Prefix.new.Goals as goal

pub invariant_of-result : goal.invariant_of-result
invariant_of-result c =
    let host = width_of c.args.addr.family - c.args.len in
    let is : c.without_low.result ≡ c.args.addr.bits - c.args.addr.bits % 2 ^ host = rw (← c.width.ensures) c.without_low.ensures in
    record {
      in_family = rw is (without_low-lt c.args.addr.bits host _ c.args.addr.in_family);
      within = c.requires;
      host_bits_zero = rw is (without_low-mod c.args.addr.bits host);
    }

pub returns : goal.returns
returns c =
    let family = c.args.addr.family in
    let kept : min c.args.len (width_of family) ≡ c.args.len = omega (arith, c.requires) in
    let bits : c.without_low.result ≡ without_low (host_len family (min c.args.len (width_of family))) c.args.addr.bits = rw (kept, ← c.width.ensures) c.without_low.ensures in
    same_prefix _ _ refl bits (sym kept)
