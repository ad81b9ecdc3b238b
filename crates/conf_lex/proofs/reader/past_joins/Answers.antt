use Rattle.std.proofs.Common.{◌≡◌, ◌∙◌, sym, ap, ◌+◌, ◌≤◌, true, false, arith, length, length-drop}
use Rattle.conf_tree.specs.Joined.{joined_from}
use Rattle.conf_lex.specs.Readers.{begins_join}
use Rattle.conf_lex.proofs.Joining.{join_away, join_two, part_behind}
use Rattle.conf_lex.proofs.reader.past_joins.Goals as goal

pub loop-at-preserved : goal.loop-at-preserved
loop-at-preserved c =
    let at = c.loop-at.at in
    let begins : begins_join at.rest.now ≡ true = sym c.is_join.ensures ∙ c.loop-at-test.true in
    let two : 2 ≤ length at.rest.now = join_two at.rest.now begins in
    record {
      within = record {
        short = omega (arith, ap length (part_behind 2 at.rest.now), length-drop 2 at.rest.now);
        numbered = omega arith;
      };
      same = ap (joined_from false (at.line + 1) (at.place + 2)) (part_behind 2 at.rest.now)
          ∙ sym (join_away at.line at.place at.rest.now begins)
          ∙ c.loop-at.invariant.same;
    }
