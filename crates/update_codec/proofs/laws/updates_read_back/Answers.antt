use Rattle.update_codec.proofs.Bytes.{whole_size, fits_size, is_message}
use Rattle.update_codec.proofs.ReadBack.{read_back}
use Rattle.update_codec.proofs.laws.updates_read_back.Goals as goal

pub returns-clause-size : goal.returns-clause-size
returns-clause-size c enc update = whole_size enc update

pub returns-clause-whole : goal.returns-clause-whole
returns-clause-whole c enc update fits = is_message enc update (fits_size enc update fits)

pub returns-clause-reads_back : goal.returns-clause-reads_back
returns-clause-reads_back c enc update may fits width = read_back enc update may (fits_size enc update fits) width
