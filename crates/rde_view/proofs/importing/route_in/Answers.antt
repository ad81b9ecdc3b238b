use Rattle.std.proofs.Common.{ap, ◌∙◌}
use Rattle.std.specs.Prelude.{option_map}
use Rattle.adj_rib_in.specs.declared.row.Entry.{Entry}
use Rattle.rde_view.proofs.Held.{attrs_found}
use Rattle.rde_view.proofs.importing.route_in.Goals as goal

pub returns-in-Some : goal.returns-in-Some
returns-in-Some c = ap (option_map (λ (entry : Entry). entry.attrs)) c.in-Some.ensures ∙ attrs_found c.args.number c.args.entries.now

pub returns-in-None : goal.returns-in-None
returns-in-None c = ap (option_map (λ (entry : Entry). entry.attrs)) c.in-None.ensures ∙ attrs_found c.args.number c.args.entries.now
