use Rattle.std.proofs.Common.{◌≡◌, ◌++◌, length}
use Rattle.event_text.specs.Grammar.{words_of}
use Rattle.event_text.proofs.event.split_words.Given as goal

-- the parts so far and those of the rest are those of the text
abbrev pub invariant-loop-word : goal.invariant-loop-word
invariant-loop-word l = l.words ++ words_of l.rest ≡ words_of l.text

abbrev pub decreases-loop-word : goal.decreases-loop-word
decreases-loop-word l = length l.rest
