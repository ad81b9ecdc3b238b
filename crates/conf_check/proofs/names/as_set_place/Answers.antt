use Rattle.std.proofs.Common.{rules, ◌∙◌}
use Rattle.std.proofs.lemmas.Fn.{always_returns_same}
use Rattle.conf_tree.specs.Flat.{text_cmp}
use Rattle.conf_check.proofs.Search.{searched_place}
use Rattle.conf_check.proofs.names.as_set_place.Goals as goal

pub returns : goal.returns
returns c =
    c.ok.ensures.value
    ∙ searched_place (λ s. s.name) c.args.sets.now c.args.name.now c.binary_search_by.result c.requires c.binary_search_by.ensures.bound
    (c.binary_search_by.ensures.position (λ s. text_cmp s.name c.args.name.now) (always_returns_same _ _ _ (λ a r f k. search rules)))
