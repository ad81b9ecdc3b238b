use Rattle.std.proofs.Common.{◌∙◌, ap, sym, false}
use Rattle.std.specs.List.{list_any}
use Rattle.std.specs.Option.{option_map_or}
use Rattle.filter_engine.specs.Conditions.{path_numbers, numbers_in}
use Rattle.filter_engine.specs.Wanted.{is_wanted}
use Rattle.filter_engine.proofs.LastNumber.{any_last}
use Rattle.filter_engine.proofs.path_test.part_has_wanted.Goals as goal

pub returns-in-Some : goal.returns-in-Some
returns-in-Some g c =
    let p = is_wanted (g.M.Members.conf_of c.args.sets.now) c.args.wanted in
    let numbers = path_numbers c.args.path.now in
    c.is_wanted.ensures
    ∙ (ap (λ o. option_map_or p o false) (sym c.in-Some.is ∙ c.last_number.ensures)
    ∙ (sym (any_last p numbers) ∙ ap (λ part. list_any p (numbers_in part numbers)) (sym c.in-Source.is)))

pub returns-in-None : goal.returns-in-None
returns-in-None g c =
    let p = is_wanted (g.M.Members.conf_of c.args.sets.now) c.args.wanted in
    let numbers = path_numbers c.args.path.now in
    ap (λ o. option_map_or p o false) (sym c.in-None.is ∙ c.last_number.ensures)
    ∙ (sym (any_last p numbers) ∙ ap (λ part. list_any p (numbers_in part numbers)) (sym c.in-Source.is))
