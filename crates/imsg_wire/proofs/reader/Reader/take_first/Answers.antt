use Rattle.std.proofs.Common.{◌∙◌, sym, ap}
use Rattle.imsg_wire.specs.Frame.{front_of}
use Rattle.imsg_wire.proofs.Stream.{takes_nothing}
use Rattle.imsg_wire.proofs.reader.Reader.take_first.Goals as goal

pub returns-in_err-raw : goal.returns-in_err-raw
returns-in_err-raw c =
    let whole = rw c.in-Some.is at c.in_ok-header.ensures in
    let held = sym c.self.view_is ∙ sym c.peek-2.ensures in
    takes_nothing c.args.self.now c.take_frame.new.held _ _ c.from_residual-in_err-raw.result (ap front_of held ∙ whole.0) (c.in_err-raw.ensures.err ∙ c.self.view_is) c.from_residual-in_err-raw.ensures.1
