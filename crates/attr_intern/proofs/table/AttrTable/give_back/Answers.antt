use Rattle.std.proofs.Common.{◌≡◌, ap, sym, ◌∙◌, subst, arith, refl, option_map}
use Rattle.std.proofs.lemmas.Bool.{eqb-true, eqb-false}
use Rattle.attr_intern.specs.Table.{shared_at, uses_at}
use Rattle.attr_intern.specs.Kept.{Sets, one_less}
use Rattle.attr_intern.proofs.KeptSteps.{used_in}
use Rattle.attr_intern.proofs.Uses.{takes_last, takes_less, used_once_or_more}
use Rattle.attr_intern.proofs.table.AttrTable.give_back.Goals as goal

pub returns-then-has_one_use : goal.returns-then-has_one_use
returns-then-has_one_use c =
    let number = ap (λ one. one.number) c.one.view_is in
    takes_last c.args.self.now c.free.new.self c.args.one (used_in _ _ _ c.self.invariant c.self.view_is) c.requires
    (subst (λ n. uses_at c.args.self.now n ≡ 1) number (eqb-true _ _ (sym c.has_one_use.ensures ∙ c.if-has_one_use.true)))
    (subst (λ n. Sets c.args.self.now c.free.new.self n _) number c.free.ensures)

pub use_less-requires : goal.use_less-requires
use_less-requires c =
    let some = used_once_or_more c.args.self.now c.args.one (shared_at c.args.self.now c.args.one.number) refl (used_in _ _ _ c.self.invariant c.self.view_is) c.requires in
    let here = ap (λ one. uses_at c.args.self.now one.number) c.one.view_is in
    omega (arith, some, here, eqb-false _ _ (sym c.has_one_use.ensures ∙ c.if-has_one_use.false))

pub returns : goal.returns
returns c =
    let number = ap (λ one. one.number) c.one.view_is in
    let some = used_once_or_more c.args.self.now c.args.one (shared_at c.args.self.now c.args.one.number) refl (used_in _ _ _ c.self.invariant c.self.view_is) c.requires in
    let here = ap (λ one. uses_at c.args.self.now one.number) c.one.view_is in
    takes_less c.args.self.now c.use_less.new.self c.args.one (shared_at c.args.self.now c.args.one.number) refl (used_in _ _ _ c.self.invariant c.self.view_is) c.requires
    (omega (arith, some, here, eqb-false _ _ (sym c.has_one_use.ensures ∙ c.if-has_one_use.false)))
    (subst (λ n. Sets c.args.self.now c.use_less.new.self n (option_map one_less (shared_at c.args.self.now n))) number c.use_less.ensures)
