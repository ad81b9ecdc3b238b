use Rattle.std.proofs.Common.{◌≡◌, ◌+◌, ◌≤◌, length}
use Rattle.peer_io.specs.Queue.{IsFirst, begun_of, ended, unsent}
use Rattle.peer_io.proofs.outbox.pass.Given as goal

abbrev pub invariant-loop-first : goal.invariant-loop-first
invariant-loop-first l = record {
  waiting : unsent (l.begun + l.left) l.waiting.items ≡ unsent (l.initial.begun + l.n) l.initial.waiting.items;
  begun : begun_of (l.begun + l.left) l.waiting.items ≡ begun_of (l.initial.begun + l.n) l.initial.waiting.items;
  updates : l.updates + ended (l.begun + l.left) l.waiting.items ≡ ended (l.initial.begun + l.n) l.initial.waiting.items;
  few : l.updates + length l.waiting.items ≤ length l.initial.waiting.items;
  first : IsFirst l.begun l.waiting.items;
}

abbrev pub decreases-loop-first : goal.decreases-loop-first
decreases-loop-first l = length l.waiting.items
