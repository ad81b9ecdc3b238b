use Rattle.std.proofs.Common.{◌≡◌, ◌+◌, ◌*◌, ◌^◌, ◌≤◌, length, drop}
use Rattle.core_msgs.specs.EventText.{words_text}
use Rattle.core_msgs.proofs.event.words_length.Given as goal

-- what is counted, and what the words to come have, is what all words have
abbrev pub invariant-loop-word : goal.invariant-loop-word
invariant-loop-word l = record {
  counted : l.length + length (words_text (drop l.word-index l.words)) ≡ length (words_text l.words);
  small : l.length ≤ l.word-index * 2 ^ 65;
}
