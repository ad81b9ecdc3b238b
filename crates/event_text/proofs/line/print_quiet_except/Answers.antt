use Rattle.std.proofs.Common.{codes}
use Rattle.event_text.specs.Lines.{peers_text}
use Rattle.event_text.proofs.Behind.{second_behind}
use Rattle.event_text.proofs.line.print_quiet_except.Goals as goal

pub returns : goal.returns
returns c =
    second_behind c.print_peers.result c.args.out.now c.extend_from_slice.new.self c.print_peers.new.out (codes "quiet except") (peers_text c.args.peers.now)
    c.in_ok-extend_from_slice.ensures.ok c.print_peers.ensures
