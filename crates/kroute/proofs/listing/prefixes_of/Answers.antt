use Rattle.std.proofs.Common.{Iter, subst, ap, ◌∙◌}
use Rattle.std.specs.Slice.Iter.{iter_rest}
use Rattle.net_base.specs.declared.addr.Addr.{Addr}
use Rattle.net_base.specs.declared.prefix.Prefix.{Prefix}
use Rattle.kroute.specs.Rows.{Rows}
use Rattle.kroute.proofs.Steps.{Known, none_known, one_prefix, all_known}
use Rattle.kroute.proofs.listing.prefixes_of.Goals as goal

pub loop-prefix-init : goal.loop-prefix-init
loop-prefix-init c =
    none_known (iter_rest c.into_iter-prefix-iterator.result) c.args.rows.now c.new-known.result c.new-known.ensures
    (ap (λ (it : Iter (Prefix × Addr)). iter_rest it) c.into_iter-prefix-iterator.ensures.into_iter_gives ∙ c.iter-prefix-items.ensures.rest)

pub loop-prefix-preserved : goal.loop-prefix-preserved
loop-prefix-preserved c =
    one_prefix c.loop-prefix.known c.add.new.self c.in-Some.field-0.now (iter_rest c.next.new.self) c.args.rows.now c.in_ok-add.ensures.ok
    (subst (λ (rows : Rows). Known c.loop-prefix.known rows c.args.rows.now) c.in-Some.ensures.steps c.loop-prefix.invariant)

pub returns : goal.returns
returns c = all_known c.loop-prefix.known (iter_rest c.loop-prefix.prefix-iterator) c.args.rows.now c.in-None.ensures.steps.0 c.loop-prefix.invariant
