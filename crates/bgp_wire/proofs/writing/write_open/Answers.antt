use Rattle.std.proofs.lemmas.Result.{on_ok_weaker}
use Rattle.bgp_wire.proofs.Bytes.{open_is_message}
use Rattle.bgp_wire.proofs.ReadBack.{answer_back}
use Rattle.bgp_wire.proofs.writing.write_open.Goals as goal

pub returns-clause-reads_back : goal.returns-clause-reads_back
returns-clause-reads_back c =
    rw c.keep_on_err.ensures.result
    (on_ok_weaker c.put_open-written.result (λ width theirs acceptable. answer_back c.args.mine.now theirs width acceptable) c.put_open-written.ensures.width)

pub returns-clause-whole : goal.returns-clause-whole
returns-clause-whole c = open_is_message c.args.mine.now
