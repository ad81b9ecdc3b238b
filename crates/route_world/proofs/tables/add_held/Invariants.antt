use Rattle.std.proofs.Common.{◌≡◌, fold, drop}
use Rattle.route_world.specs.World.{with_prefixes}
use Rattle.route_world.proofs.tables.add_held.Given as goal

-- the set so far, with what is left, is the set with all
abbrev pub invariant-loop-session : goal.invariant-loop-session
invariant-loop-session l = fold with_prefixes l.known (drop l.session-index l.sessions) ≡ fold with_prefixes l.initial.known l.sessions
