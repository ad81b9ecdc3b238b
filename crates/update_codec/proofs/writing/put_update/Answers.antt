use Rattle.std.proofs.Common.{◌≡◌, arith}
use Rattle.update_codec.specs.Written.{message_size}
use Rattle.update_codec.proofs.Bytes.{message_put}
use Rattle.update_codec.proofs.writing.put_update.Goals as goal

pub returns-clause-ok : goal.returns-clause-ok
returns-clause-ok c =
    let size : c.size_of-size.result ≡ message_size c.args.enc c.args.update.now = omega (arith, c.requires.fits, c.size_of-size.ensures) in
    message_put c.args.enc c.args.update.now c.args.out.now c.put_header.new.out c.put_body.new.out c.size_of-size.result size c.in_ok-put_header.ensures.ok c.in_ok-put_body.ensures.ok
