use Rattle.std.proofs.Common.{◌∙◌, sym}
use Rattle.attr_model.proofs.SameAttrs.{attrs_eq-Decides}
use Rattle.filter_engine.proofs.evaluation.are_same.Goals as goal

pub returns : goal.returns
returns c =
    let decides = attrs_eq-Decides c.args.one.now c.args.other.now in (
      λ same. decides.0 (sym c.eq.ensures ∙ same),
      λ same. c.eq.ensures ∙ decides.1 same,
    )
