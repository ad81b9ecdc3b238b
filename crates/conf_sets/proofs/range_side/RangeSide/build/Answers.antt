use Rattle.std.proofs.Common.{◌∙◌, ap, sym, true}
use Rattle.std.specs.List.{list_any}
use Rattle.std.proofs.lemmas.List.Sorted.{list_any-IsPermutation}
use Rattle.std.proofs.lemmas.Map.Views.{any-filter_same}
use Rattle.conf_sets.specs.Tables.{is_of_family}
use Rattle.conf_sets.proofs.range_side.RangeSide.build.Goals as goal

pub returns : goal.returns
returns c test fits =
    ap (list_any test) c.from_vec.ensures
    ∙ (sym (list_any-IsPermutation test _ _ c.in_ok-entries.ensures.all)
    ∙ any-filter_same test (is_of_family c.args.family) true fits c.args.list.now)
