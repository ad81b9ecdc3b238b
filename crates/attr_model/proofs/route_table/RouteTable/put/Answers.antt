use Rattle.std.proofs.Common.{◌≡◌, subst}
use Rattle.std.specs.BTreeMap.{insert_entry}
use Rattle.std.specs.declared.cmp.Ordering.{Ordering}
use Rattle.net_base.specs.declared.prefix.Prefix.{Prefix}
use Rattle.net_base.specs.Order.{prefix_cmp}
use Rattle.net_base.proofs.Order.{derived_prefix_cmp}
use Rattle.attr_model.proofs.route_table.RouteTable.put.Goals as goal

pub returns : goal.returns
returns c =
    let Puts : (Prefix → Prefix → Ordering) → Type 0 = λ cmp.
    c.insert.new.self.entries ≡ insert_entry cmp c.self.inside.routes.entries c.args.prefix c.args.attrs in
    let entries : Puts prefix_cmp = subst Puts derived_prefix_cmp c.in_ok-insert.ensures.entries in
    cc entries
