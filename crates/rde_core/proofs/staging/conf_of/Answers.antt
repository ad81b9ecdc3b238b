use Rattle.conf_tree.specs.Language.{most_canonical_bytes}
use Rattle.rde_core.proofs.staging.conf_of.Goals as goal

pub returns-in-Ok : goal.returns-in-Ok
returns-in-Ok c = record {
  readable = c.configurations_can_be_written.ensures most_canonical_bytes c.args.assembly.text c.in-Ok.given.1 c.in-Ok.ensures.1;
  within = c.configurations_are_within_limits.ensures most_canonical_bytes c.args.assembly.text c.in-Ok.given.1 c.in-Ok.ensures.1;
  settled = c.configurations_are_settled.ensures most_canonical_bytes c.args.assembly.text c.in-Ok.given.1 c.in-Ok.ensures.1;
}
