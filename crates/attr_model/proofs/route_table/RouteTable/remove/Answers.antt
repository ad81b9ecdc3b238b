use Rattle.std.proofs.Common.{◌≡◌, subst}
use Rattle.std.specs.BTreeMap.{is_at}
use Rattle.std.specs.Map.{remove_entry}
use Rattle.std.specs.declared.cmp.Ordering.{Ordering}
use Rattle.net_base.specs.declared.prefix.Prefix.{Prefix}
use Rattle.net_base.specs.Order.{prefix_cmp}
use Rattle.net_base.proofs.Order.{derived_prefix_cmp}
use Rattle.attr_model.proofs.route_table.RouteTable.remove.Goals as goal

pub returns : goal.returns
returns c =
    let Puts : (Prefix → Prefix → Ordering) → Type 0 = λ cmp.
    c.remove.new.self.entries ≡ remove_entry (is_at (cmp c.args.prefix)) c.self.inside.routes.entries in
    let entries : Puts prefix_cmp = subst Puts derived_prefix_cmp c.remove.ensures.entries in
    cc entries
