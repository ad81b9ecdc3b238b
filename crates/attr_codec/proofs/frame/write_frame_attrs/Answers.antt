use Rattle.std.proofs.lemmas.Result.{on_ok_weaker}
use Rattle.attr_codec.proofs.Frames.{frame_back, framed_short}
use Rattle.attr_codec.proofs.frame.write_frame_attrs.Goals as goal

pub put_attrs-written-requires-clause-size : goal.put_attrs-written-requires-clause-size
put_attrs-written-requires-clause-size c = framed_short c.args.attrs.now c.requires.valid c.requires.short

pub returns-clause-reads_back : goal.returns-clause-reads_back
returns-clause-reads_back c =
    rw c.keep_on_err.ensures.result
    (on_ok_weaker c.put_attrs-written.result (λ width. frame_back c.args.attrs.now (record { valid = c.requires.valid; width = width; short = c.requires.short })) c.put_attrs-written.ensures.width)
