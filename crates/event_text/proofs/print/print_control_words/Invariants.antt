use Rattle.std.proofs.Common.{◌≡◌, ◌++◌, drop}
use Rattle.core_msgs.specs.EventText.{words_text}
use Rattle.event_text.proofs.print.print_control_words.Given as goal

-- the bytes so far, followed by what is to come, are the whole
abbrev pub invariant-loop-word : goal.invariant-loop-word
invariant-loop-word l = l.out ++ words_text (drop l.word-index l.words) ≡ l.fn.out ++ words_text l.words
