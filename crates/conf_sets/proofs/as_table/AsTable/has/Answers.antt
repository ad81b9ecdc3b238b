use Rattle.std.proofs.Common.{◌∙◌, ap}
use Rattle.std.specs.Prelude.{◌==◌, ℕ, List}
use Rattle.std.specs.List.{list_any}
use Rattle.conf_sets.proofs.as_table.AsTable.has.Goals as goal

pub returns-then-len-le-SHORT : goal.returns-then-len-le-SHORT
returns-then-len-le-SHORT c =
    let there = λ (numbers : List ℕ). list_any (λ number. number == c.args.asn) numbers in
    c.has_as.ensures ∙ (ap there c.as_slice.ensures.value ∙ (c.self.inside.same c.args.asn ∙ ap there c.self.view_is))

pub returns-else-len-le-SHORT : goal.returns-else-len-le-SHORT
returns-else-len-le-SHORT c =
    let there = λ (numbers : List ℕ). list_any (λ number. number == c.args.asn) numbers in
    c.is_found.ensures ∙ (ap there c.as_slice-else-len-le-SHORT.ensures.value ∙ (c.self.inside.same c.args.asn ∙ ap there c.self.view_is))
