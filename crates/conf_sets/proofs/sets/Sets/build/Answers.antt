use Rattle.std.proofs.Common.{◌∙◌, rules}
use Rattle.conf_sets.proofs.sets.Sets.build.Goals as goal

pub returns : goal.returns
returns c = record {
  prefix_sets = c.prefix_sets.view_is ∙ c.in_ok-prefix_sets.ensures;
  as_sets = c.as_sets.view_is ∙ c.in_ok-as_sets.ensures;
  origin_sets = c.origin_sets.view_is ∙ c.in_ok-origin_sets.ensures;
  roas = search rules;
}
