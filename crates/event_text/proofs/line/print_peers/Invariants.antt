use Rattle.std.proofs.Common.{◌≡◌, ◌++◌, drop}
use Rattle.event_text.specs.Lines.{peers_text}
use Rattle.event_text.proofs.line.print_peers.Given as goal

-- the bytes so far, followed by what is to come, are the whole
abbrev pub invariant-loop-peer : goal.invariant-loop-peer
invariant-loop-peer l = l.out ++ peers_text (drop l.peer-index l.peers) ≡ l.fn.out ++ peers_text l.peers
