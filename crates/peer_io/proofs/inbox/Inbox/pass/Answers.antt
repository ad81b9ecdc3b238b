use Rattle.std.proofs.Common.{◌≡◌, ◌∙◌, ℕ, List, ◌∷◌, [], ◌++◌, drop, sym, ap, subst}
use Rattle.peer_io.specs.Reading.{CameAs, message_in}
use Rattle.peer_io.proofs.Fronts.{came_off}
use Rattle.peer_io.proofs.inbox.Inbox.pass.Goals as goal

pub returns-clause-came : goal.returns-clause-came
returns-clause-came c kind e came given h =
    subst (λ (held : List ℕ). CameAs came (given ++ message_in kind c.args.size c.args.self.now ∷ []) held)
    (sym (c.take.ensures ∙ ap (drop c.args.size) c.self.view_is)) (came_off came given c.args.self.now kind c.args.size e h)
