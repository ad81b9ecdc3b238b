use Rattle.std.proofs.Common.{ap, ◌∙◌}
use Rattle.adj_rib_out.specs.Out.{is_again}
use Rattle.adj_rib_out.proofs.Keeps.{kept_passed}
use Rattle.adj_rib_out.proofs.session.SessionOut.pass.Goals as goal

pub invariant_of-self : goal.invariant_of-self
invariant_of-self c = (
  kept_passed c.self.inside.rows c.tidy.new.self c.self.inside.queue c.remove.new.self c.args.prefix c.self.invariant.0 c.tidy.ensures.rows c.tidy.ensures.again
      (ap (λ out. is_again out c.args.prefix) c.self.view_is ∙ c.requires) c.remove.ensures.members,
  c.self.invariant.1,
)
