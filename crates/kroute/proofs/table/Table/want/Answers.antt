use Rattle.std.proofs.Common.{◌≡◌, true, None, refl, sym, ap, subst, ◌∙◌}
use Rattle.std.specs.BTreeMap.{insert_entry, is_at}
use Rattle.std.specs.Cmp.{eq_by_cmp_equiv}
use Rattle.std.specs.Map.{lookup, remove_entry}
use Rattle.std.specs.Ordering.{is_eq}
use Rattle.net_base.specs.contracts.prefix.PrefixOrd.TheImpl.{cmp-value as derived}
use Rattle.net_base.specs.Order.{prefix_cmp}
use Rattle.net_base.proofs.Order.{derived_prefix_cmp, prefix_cmp-total}
use Rattle.kroute.specs.Phases.{with_work}
use Rattle.kroute.specs.Rows.{Rows}
use Rattle.kroute.specs.Table.{TableState, wants}
use Rattle.kroute.proofs.Lists.{ByPrefix, same_table, put_and_taken, err_of, none_of}
use Rattle.kroute.proofs.table.Table.want.Goals as goal

pub returns-then-contains_key-clause-ok : goal.returns-then-contains_key-clause-ok
returns-then-contains_key-clause-ok c =
    let old = c.self.inside.wanted.entries in
    same_table c.insert.new.self.entries (insert_entry prefix_cmp old c.args.prefix c.args.hop) c.add_work.new.self (with_work c.args.prefix c.self.inside.phase)
    (c.in_ok-insert.ensures.entries ∙ ap (λ (r : ByPrefix). insert_entry r old c.args.prefix c.args.hop) derived_prefix_cmp) c.in_ok-add_work.ensures.ok
    ∙ ap (λ (t : TableState). wants c.args.prefix c.args.hop t) c.self.view_is

pub returns-then-is_err-clause-err : goal.returns-then-is_err-clause-err
returns-then-is_err-clause-err c =
    let old = c.self.inside.wanted.entries in
    let itself : is_eq (derived.it c.args.prefix c.args.prefix) ≡ true = ap (λ (r : ByPrefix). is_eq (r c.args.prefix c.args.prefix)) derived_prefix_cmp ∙ (eq_by_cmp_equiv prefix_cmp-total).refl c.args.prefix in
    let absent : lookup (is_at (derived.it c.args.prefix)) old ≡ None = none_of _ (sym c.contains_key.ensures ∙ c.if-contains_key.false) in
    same_table c.remove.new.self.entries old c.add_work-2.new.self c.self.inside.phase
    (c.remove.ensures.entries ∙ ap (λ (rows : Rows). remove_entry (is_at (derived.it c.args.prefix)) rows) c.in_ok-insert-2.ensures.entries ∙ put_and_taken derived.it c.args.prefix c.args.hop old itself absent)
    (err_of c.add_work-2.result (sym c.is_err.ensures.value ∙ c.if-is_err.true) c.add_work-2.ensures.err)
    ∙ c.self.view_is
