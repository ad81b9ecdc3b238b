use Rattle.update_codec.proofs.Bytes.{whole_size, fits_size, is_message}
use Rattle.update_codec.proofs.ReadBack.{read_back}
use Rattle.std.proofs.lemmas.Result.{on_ok_weaker}
use Rattle.update_codec.proofs.writing.write_update.Goals as goal

pub returns-clause-size : goal.returns-clause-size
returns-clause-size c = whole_size c.args.enc c.args.update.now

pub returns-clause-whole : goal.returns-clause-whole
returns-clause-whole c = is_message c.args.enc c.args.update.now (fits_size c.args.enc c.args.update.now c.requires.fits)

pub returns-clause-reads_back : goal.returns-clause-reads_back
returns-clause-reads_back c =
    rw c.keep_on_err.ensures.result
    (on_ok_weaker c.put_update-written.result (λ width. read_back c.args.enc c.args.update.now c.requires.writable (fits_size c.args.enc c.args.update.now c.requires.fits) width) c.put_update-written.ensures.width)

pub put_update-written-requires-clause-fits : goal.put_update-written-requires-clause-fits
put_update-written-requires-clause-fits c = fits_size c.args.enc c.args.update.now c.requires.fits
