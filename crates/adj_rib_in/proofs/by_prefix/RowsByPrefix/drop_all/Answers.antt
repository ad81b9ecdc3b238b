use Rattle.std.proofs.Common.{◌≡◌, [], ◌∷◌, ◌++◌, Option, length, length-append, sym, ap, ◌∙◌, subst, arith}
use Rattle.std.specs.Prelude.{IfSome}
use Rattle.std.specs.List.{All}
use Rattle.std.specs.declared.cmp.Ordering.TheVariants.{Less}
use Rattle.net_base.specs.declared.prefix.Prefix.{Prefix}
use Rattle.net_base.specs.contracts.prefix.PrefixOrd.TheImpl.{cmp-value as derived}
use Rattle.net_base.proofs.Order.{derived_prefix_cmp}
use Rattle.adj_rib_in.specs.Held.{held_at, held_but, routes_of}
use Rattle.adj_rib_in.proofs.Dropped.{above, rows_step, one_less, one_more}
use Rattle.adj_rib_in.proofs.Uses.{dropped_swaps}
use Rattle.adj_rib_in.proofs.by_prefix.RowsByPrefix.drop_all.Goals as goal

pub drop_one-requires : goal.drop_one-requires
drop_one-requires c =
    let first = subst (λ (o : Option Prefix). IfSome o (λ p. c.loop-prefix.prefixes.keys ≡ p ∷ c.pop_first.new.self.keys)) c.in-Some.is c.pop_first.ensures.removal in
    omega (arith, c.loop-prefix.invariant.room, ap (λ keys. length keys) first)

pub loop-prefix-preserved : goal.loop-prefix-preserved
loop-prefix-preserved c =
    let prefix = c.in-Some.prefix in
    let rest = c.pop_first.new.self.keys in
    let held = c.loop-prefix.self in
    let first = subst (λ (o : Option Prefix). IfSome o (λ p. c.loop-prefix.prefixes.keys ≡ p ∷ rest)) c.in-Some.is c.pop_first.ensures.removal in
    let others = above derived.it derived_prefix_cmp prefix rest (subst (λ (o : Option Prefix). IfSome o (λ p. All (λ q. derived.it p q ≡ Less) rest)) c.in-Some.is c.pop_first.ensures.all_above) in
    record {
      rows = λ p. rows_step c.args.session held c.drop_one.new.self prefix c.drop_one.ensures.row rest others p ∙ ap (λ keys. held_but c.args.session keys (held_at held) p) (sym first) ∙ c.loop-prefix.invariant.rows p;
      dropped = ap (λ items. items ++ routes_of c.args.session rest c.drop_one.new.self) c.drop_one.ensures.dropped
          ∙ one_more c.args.session held c.drop_one.new.self prefix rest c.loop-prefix.dropped.items c.drop_one.ensures.row others
          ∙ ap (λ keys. c.loop-prefix.dropped.items ++ routes_of c.args.session keys held) (sym first)
          ∙ c.loop-prefix.invariant.dropped;
      swaps = dropped_swaps c.args.self.now held c.drop_one.new.self c.args.session prefix c.loop-prefix.dropped.items c.drop_one.new.dropped.items c.loop-prefix.invariant.swaps c.drop_one.ensures.swaps c.drop_one.ensures.dropped;
      room = omega (
        arith,
        c.loop-prefix.invariant.room,
        ap (λ keys. length keys) first,
        ap (λ items. length items) c.drop_one.ensures.dropped,
        length-append c.loop-prefix.dropped.items (routes_of c.args.session (prefix ∷ []) held),
        one_less c.args.session held prefix,
        c.drop_one.ensures.room,
      );
    }
