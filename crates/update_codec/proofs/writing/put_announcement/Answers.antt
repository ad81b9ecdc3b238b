use Rattle.update_codec.proofs.Bytes.{keeps_result}
use Rattle.update_codec.proofs.writing.put_announcement.Goals as goal

pub returns-in-V6-clause-err : goal.returns-in-V6-clause-err
returns-in-V6-clause-err c = keeps_result c.put_mp_announcement.result c.args.out.now c.push.new.self c.put_mp_announcement.new.out _ c.in_ok-push.ensures.ok c.put_mp_announcement.ensures.err
