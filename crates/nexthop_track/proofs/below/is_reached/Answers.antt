use Rattle.std.proofs.Common.{◌≡◌, ◌&&◌, ◌||◌, ℕ, false, nat_lt, sym, subst, ◌∙◌, arith}
use Rattle.net_base.specs.declared.prefix.Prefix.{Prefix}
use Rattle.net_base.specs.Bits.{prefix_of}
use Rattle.net_base.specs.PrefixSet.{is_in}
use Rattle.nexthop_track.specs.Hops.{is_other}
use Rattle.nexthop_track.proofs.Coverings.{reaches, none_reaches, and_at}
use Rattle.nexthop_track.proofs.below.is_reached.Goals as goal

pub returns-then-counts : goal.returns-then-counts
returns-then-counts c = sym (reaches c.args.routes.now (is_other c.args.besides) c.args.qualify_default c.args.addr c.loop-len.len c.new-prefix.result c.new-prefix.ensures (sym c.counts.ensures ∙ c.if-counts.true))

pub loop-len-preserved : goal.loop-len-preserved
loop-len-preserved c =
    let Unused : Prefix → Type 0 = λ p. ((is_other c.args.besides p && (c.args.qualify_default || nat_lt 0 p.len)) && is_in c.args.routes.now p) ≡ false in
    let At : ℕ → Type 0 = λ k. Unused (prefix_of c.args.addr k) in
    and_at At c.loop-len.len c.loop-len.invariant (subst Unused c.new-prefix.ensures (sym c.counts.ensures ∙ c.if-counts.false))

pub returns : goal.returns
returns c = sym (none_reaches c.args.routes.now (is_other c.args.besides) c.args.qualify_default c.args.addr (λ k h. c.loop-len.invariant k (omega (arith, c.loop-len-test.false, c.width-len-end.ensures))))
