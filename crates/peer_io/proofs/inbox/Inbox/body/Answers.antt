use Rattle.std.proofs.Common.{◌≡◌, ◌∙◌, ℕ, ◌+◌, ◌-◌, drop, take, List, ap, sym, arith}
use Rattle.std.proofs.lemmas.List.{drop-take}
use Rattle.peer_io.proofs.inbox.Inbox.body.Goals as goal

pub returns : goal.returns
returns c =
    let all : 19 + (c.args.size - 19) ≡ c.args.size = omega (arith, c.requires.header) in
    ap (λ (x : List ℕ). take (c.args.size - 19) (drop 19 x)) (c.peek.ensures ∙ c.self.view_is)
    ∙ sym (drop-take 19 (c.args.size - 19) c.args.self.now) ∙ ap (λ (n : ℕ). drop 19 (take n c.args.self.now)) all
