use Rattle.std.proofs.Common.{◌≡◌, ◌+◌, ◌-◌, ◌^◌, ◌<◌, rules, subst, sym, ap, ◌∙◌, ℕ}
use Rattle.net_base.specs.declared.prefix.Prefix.{Prefix}
use Rattle.net_base.specs.Bits.{host_len}
use Rattle.net_base.specs.Width.{width_of}
use Rattle.nexthop_track.proofs.Blocks.{last_fits, wide}
use Rattle.nexthop_track.proofs.below.last_addr.Goals as goal

fits : (p : Prefix) (ones : ℕ) → ones ≡ 2 ^ host_len p.family p.len - 1 → p.bits + ones < 2 ^ width_of p.family
fits p ones low = subst (λ (n : ℕ). p.bits + n < 2 ^ width_of p.family) (sym low) (last_fits (width_of p.family) p.len p.bits p.within p.in_family p.host_bits_zero)

pub overflow_add-result : goal.overflow_add-result
overflow_add-result c =
    let low : c.ones.result ≡ 2 ^ host_len c.args.prefix.family c.args.prefix.len - 1 = c.ones.ensures ∙ ap (λ w. 2 ^ (w - c.args.prefix.len) - 1) c.width.ensures in
    let bound : c.args.prefix.bits + c.ones.result < 2 ^ 128 = wide c.args.prefix.family _ (fits c.args.prefix c.ones.result low) in
    search rules

pub invariant_of-result : goal.invariant_of-result
invariant_of-result c =
    let low : c.ones.result ≡ 2 ^ host_len c.args.prefix.family c.args.prefix.len - 1 = c.ones.ensures ∙ ap (λ w. 2 ^ (w - c.args.prefix.len) - 1) c.width.ensures in
    record { in_family = fits c.args.prefix c.ones.result low }
