use Rattle.std.proofs.Common.{◌∙◌, sym, ap}
use Rattle.conf_tree.specs.Cuts.{run}
use Rattle.conf_lex.specs.declared.run.Taken.{Taken}
use Rattle.conf_lex.specs.Views.{rules_of, seen_of}
use Rattle.conf_lex.specs.Parts.{goes_on, taken_behind}
use Rattle.conf_tree.proofs.Runs.{run_on, run_off, behind_on, behind_off}
use Rattle.conf_lex.proofs.Runs.{taken_more, taken_none}
use Rattle.conf_lex.proofs.run.Taken.take_run.Goals as goal

pub loop-seen-preserved : goal.loop-seen-preserved
loop-seen-preserved c =
    let p = goes_on (rules_of c.args.rules) c.args.part in
    let old = c.loop-seen.reader in
    let new = c.next_in.new.reader in
    let seen = seen_of c.in-Some.seen in
    let taken = c.in-Some.ensures.taken in
    record {
      so_far = ap (λ (t : Taken). taken_behind t (run p new)) c.in_ok-push.ensures
          ∙ taken_more c.loop-seen.self seen (run p new)
          ∙ ap (taken_behind c.loop-seen.self) (sym (run_on p old seen new taken.1 taken.0))
          ∙ c.loop-seen.invariant.so_far;
      left = sym (behind_on p old seen new taken.1 taken.0) ∙ c.loop-seen.invariant.left;
    }

pub returns : goal.returns
returns c =
    let p = goes_on (rules_of c.args.rules) c.args.part in
    let old = c.loop-seen.reader in
    let taken = c.in_default.ensures.taken in (
      sym (taken_none c.loop-seen.self) ∙ ap (taken_behind c.loop-seen.self) (sym (run_off p old taken.0)) ∙ c.loop-seen.invariant.so_far,
      taken.1 ∙ sym (behind_off p old taken.0) ∙ c.loop-seen.invariant.left,
    )
