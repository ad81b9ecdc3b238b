use Rattle.std.proofs.Common.{◌≡◌, ◌∙◌, ℕ, sym, arith}
use Rattle.std.proofs.lemmas.List.{take_rest}
use Rattle.peer_io.proofs.Fronts.{judged_more}
use Rattle.peer_io.proofs.inbox.judged.Goals as goal

pub returns-in-More : goal.returns-in-More
returns-in-More c size e =
    let same : c.read_u16.result ≡ size = cc in
    let says = rw (take_rest c.args.bytes.now 16) at c.read_u16.ensures in
    judged_more c.args.bytes.now size (omega arith) (sym same ∙ says) (sym c.requires ∙ c.in-More.is)
