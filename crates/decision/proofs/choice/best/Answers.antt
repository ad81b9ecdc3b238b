use Rattle.std.proofs.Common.{◌∙◌, ap, sym}
use Rattle.std.specs.Prelude.{slice_get, option_and_then}
use Rattle.std.proofs.lemmas.Iterator.Adapters.{position_from-zero}
use Rattle.decision.specs.Best.{best_of, thinned}
use Rattle.decision.proofs.Flags.{first_picked, length_all, picked_all}
use Rattle.decision.proofs.Eligible.{none_eligible, some_eligible, no_entry, no_place}
use Rattle.decision.proofs.choice.best.Goals as goal

-- the entry at the answer is the best of the definition
choice : goal.returns-clause-choice
unfolding best_of
choice c =
    ap (option_and_then (slice_get c.args.candidates.now)) (c.first_flag.ensures.place ∙ position_from-zero (λ flag. flag) c.thin_in_order.new.left)
    ∙ (first_picked c.thin_in_order.new.left c.args.candidates.now (c.thin_in_order.auto.left ∙ length_all 257 c.args.candidates.now c.requires.few)
    ∙ ap (λ left. slice_get left 0) (c.thin_in_order.ensures ∙ ap (thinned c.args.med_always) (picked_all 257 c.args.candidates.now c.requires.few)))

pub returns-clause-choice : goal.returns-clause-choice
returns-clause-choice c = choice c

pub returns-clause-none : goal.returns-clause-none
returns-clause-none c = (
  λ none. some_eligible c.args.med_always c.args.candidates.now (sym (choice c) ∙ no_entry c.args.candidates.now c.first_flag.result none),
  λ none. no_place c.args.candidates.now c.thin_in_order.new.left c.first_flag.result (c.thin_in_order.auto.left ∙ length_all 257 c.args.candidates.now c.requires.few) c.first_flag.ensures.within (choice c ∙ none_eligible c.args.med_always c.args.candidates.now none),
)
