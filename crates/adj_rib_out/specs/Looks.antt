-- The references in looks, and in what was built.
use Rattle.std.specs.Prelude.{List, [], ◌∷◌, flat_map, Option, None, Some}
use Rattle.attr_model.specs.Numbered.{Numbered}
use Rattle.adj_rib_out.specs.declared.look.Look.{Look}
use Rattle.adj_rib_out.specs.declared.look.Built.{Built}
use Rattle.adj_rib_out.specs.declared.look.Built.TheVariants.{Withdraw, Announce}
use Rattle.adj_rib_out.specs.Rows.{one_or_none}

abbrev pub wanted_in : List Look → List Numbered
wanted_in looks = flat_map (λ look. one_or_none look.wanted) looks

abbrev pub used_by : Option Built → List Numbered
used_by None = []
used_by (Some (Withdraw prefixes)) = []
used_by (Some (Announce one prefixes)) = one ∷ []
