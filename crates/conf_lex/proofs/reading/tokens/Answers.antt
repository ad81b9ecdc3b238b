use Rattle.std.proofs.Common.{◌≡◌, ◌∙◌, ◌≤◌, refl, sym, ap, List, subst, arith, length, length-take, take, true, false, []}
use Rattle.conf_tree.specs.declared.token.Token.{Token}
use Rattle.conf_tree.specs.Cuts as cuts
use Rattle.conf_tree.specs.Macros.{Macros, no_macros}
use Rattle.conf_tree.specs.Joined.{Seen, joined}
use Rattle.conf_tree.specs.Tokens.{lines_read, tokens}
use Rattle.conf_lex.specs.Reading.{put_tokens}
use Rattle.conf_lex.specs.Tables.{macros_of}
use Rattle.conf_lex.specs.Views.{rules_of}
use Rattle.conf_tree.proofs.Joining.{joined_length}
use Rattle.conf_lex.proofs.ReadingLines.{line_more, line_fails, lines_end, lines_begin}
use Rattle.conf_lex.proofs.reading.tokens.Goals as goal

not_empty : (left : List Seen) → (left ≡ [] → false ≡ true) → left ≡ [] → ⊥
not_empty left h e = let t = h e in cc

pub loop-reader-init : goal.loop-reader-init
loop-reader-init c =
    let reader = c.new-reader.ensures ∙ ap joined c.front.ensures in
    record {
      within = subst (λ (xs : List Seen). length xs ≤ 134217729) (sym reader) (omega (arith, joined_length false 1 0 (take c.args.limit c.args.text.now), length-take c.args.limit c.args.text.now, c.requires));
      so_far = ap (λ (xs : List Token). put_tokens xs (lines_read (rules_of c.up_to-rules.result) (macros_of c.new-macros.result) 0 c.new-reader.result)) c.new-tokens.ensures ∙ lines_begin _
          ∙ ap (λ (r : cuts.Rules). lines_read r (macros_of c.new-macros.result) 0 c.new-reader.result) c.up_to-rules.ensures
          ∙ ap (λ (m : Macros). lines_read (cuts.rules_of c.args.limit c.args.text.now) m 0 c.new-reader.result) c.new-macros.ensures
          ∙ ap (λ (xs : List Seen). lines_read (cuts.rules_of c.args.limit c.args.text.now) no_macros 0 xs) reader;
    }

pub returns : goal.returns
unfolding tokens
returns c =
    lines_end (rules_of c.up_to-rules.result) (macros_of c.loop-reader.macros) c.loop-reader.size c.loop-reader.reader c.loop-reader.tokens _ (c.loop-reader-test.ensures.0 refl) c.loop-reader.invariant.so_far

pub returns-in-Err : goal.returns-in-Err
unfolding tokens
returns-in-Err c =
    line_fails (rules_of c.up_to-rules.result) (macros_of c.loop-reader.macros) c.loop-reader.size c.loop-reader.reader c.loop-reader.tokens _ c.in-Err.error (not_empty c.loop-reader.reader c.loop-reader-test.ensures.1) c.loop-reader.invariant.so_far c.in-Err.ensures

pub loop-reader-smaller : goal.loop-reader-smaller
loop-reader-smaller c =
    (line_more (rules_of c.up_to-rules.result) (macros_of c.loop-reader.macros) c.loop-reader.size c.loop-reader.reader c.loop-reader.tokens (record { tokens = c.read_line.new.tokens; macros = macros_of c.read_line.new.macros; size = c.in-Ok.after; rest = c.read_line.new.reader }) (not_empty c.loop-reader.reader c.loop-reader-test.ensures.1) c.in-Ok.ensures).1

pub loop-reader-preserved : goal.loop-reader-preserved
loop-reader-preserved c =
    let more = line_more (rules_of c.up_to-rules.result) (macros_of c.loop-reader.macros) c.loop-reader.size c.loop-reader.reader c.loop-reader.tokens (record { tokens = c.read_line.new.tokens; macros = macros_of c.read_line.new.macros; size = c.in-Ok.after; rest = c.read_line.new.reader }) (not_empty c.loop-reader.reader c.loop-reader-test.ensures.1) c.in-Ok.ensures in
    record {
      within = omega (arith, more.1, c.loop-reader.invariant.within);
      so_far = more.0 ∙ c.loop-reader.invariant.so_far;
    }
