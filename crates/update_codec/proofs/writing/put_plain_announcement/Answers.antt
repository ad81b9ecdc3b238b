use Rattle.attr_codec.proofs.Shorts.{short_values}
use Rattle.update_codec.proofs.writing.put_plain_announcement.Goals as goal

pub write_attrs-requires-clause-size : goal.write_attrs-requires-clause-size
write_attrs-requires-clause-size c = short_values c.args.enc c.args.attrs.now c.requires.valid.unknown_types c.requires.size
