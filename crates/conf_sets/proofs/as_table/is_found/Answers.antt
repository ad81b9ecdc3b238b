use Rattle.std.proofs.Common.{◌∙◌}
use Rattle.conf_sets.proofs.Numbers.{found_is}
use Rattle.conf_sets.proofs.as_table.is_found.Goals as goal

pub returns : goal.returns
returns c = c.is_ok.ensures.value ∙ found_is c.args.numbers.now c.args.asn c.binary_search.result c.requires c.binary_search.ensures.position
