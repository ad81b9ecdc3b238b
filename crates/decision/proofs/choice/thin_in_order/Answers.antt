use Rattle.std.proofs.Common.{◌∙◌, ap}
use Rattle.decision.specs.Best.{thinned, unbeaten, is_preferred, has_shorter_path, has_lower_origin, has_lower_med_among, has_nearer_origin, is_heavier, has_lower_id, has_lower_peer}
use Rattle.decision.proofs.choice.thin_in_order.Goals as goal

pub returns : goal.returns
unfolding thinned
returns c =
    let preferred = c.thin.ensures ∙ ap (unbeaten is_preferred) c.keep_eligible.ensures in
    let shortest = c.thin-2.ensures ∙ ap (unbeaten has_shorter_path) preferred in
    let lowest_origin = c.thin-3.ensures ∙ ap (unbeaten has_lower_origin) shortest in
    let lowest_med = c.thin_by_med.ensures ∙ ap (unbeaten (has_lower_med_among c.args.med_always)) lowest_origin in
    let nearest = c.thin-4.ensures ∙ ap (unbeaten has_nearer_origin) lowest_med in
    let heaviest = c.thin-5.ensures ∙ ap (unbeaten is_heavier) nearest in
    let lowest_id = c.thin-6.ensures ∙ ap (unbeaten has_lower_id) heaviest in
    c.thin-7.ensures ∙ ap (unbeaten has_lower_peer) lowest_id
