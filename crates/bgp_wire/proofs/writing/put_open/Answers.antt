use Rattle.std.proofs.Common.{◌≡◌, ◌+◌, length}
use Rattle.bgp_wire.specs.Written.{optional_by}
use Rattle.bgp_wire.proofs.Bytes.{open_message}
use Rattle.bgp_wire.proofs.writing.put_open.Goals as goal

pub returns-clause-ok : goal.returns-clause-ok
returns-clause-ok c =
    let size : 29 + c.from.result ≡ 29 + length (optional_by c.args.mine.now) = cc in
    open_message c.args.mine.now c.args.out.now c.put_header.new.out c.put_open_body.new.out (29 + c.from.result) size c.in_ok-put_header.ensures.ok c.in_ok-put_open_body.ensures.ok
