use Rattle.std.proofs.Common.{◌≡◌, ◌∙◌, sym, subst}
use Rattle.attr_model.specs.Valid.{IsPath}
use Rattle.attr_model.proofs.PrependedValid.{outcome_valid}
use Rattle.attr_model.proofs.path.Path.prepend.Goals as goal

pub returns-clause-valid : goal.returns-clause-valid
returns-clause-valid c =
    let before : c.args.self.now ≡ c.into_vec-segments.result.items = sym c.self.view_is ∙ sym c.replace.ensures.value ∙ sym c.into_vec-segments.ensures in
    λ valid. subst IsPath (sym c.from_vec.ensures)
    (outcome_valid c.prepend_to-outcome.result c.args.asn c.args.times c.into_vec-segments.result.items c.prepend_to-outcome.new.segments.items
    c.prepend_to-outcome.ensures.ok c.prepend_to-outcome.ensures.err (subst IsPath before valid))
