use Rattle.std.proofs.Common.{sym, ◌∙◌}
use Rattle.attr_model.proofs.SameAttrs.{attrs_eq-Decides}
use Rattle.attr_model.proofs.laws.equal_attributes_are_one.Goals as goal

pub returns : goal.returns
returns c =
    let d = attrs_eq-Decides c.args.a.now c.args.b.now in
    (λ is. d.0 (sym c.eq.ensures ∙ is), λ one. c.eq.ensures ∙ d.1 one)
