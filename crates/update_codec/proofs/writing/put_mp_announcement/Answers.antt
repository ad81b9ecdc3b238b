use Rattle.std.proofs.Common.{arith, length-append, ◌≤◌, length}
use Rattle.attr_codec.specs.Written.{row_bytes, reach_row, attrs_bytes}
use Rattle.attr_codec.proofs.Appends.{keeps_on, on_err}
use Rattle.attr_codec.proofs.Shorts.{short_values}
use Rattle.update_codec.proofs.writing.put_mp_announcement.Goals as goal

pub write_attrs-requires-clause-size : goal.write_attrs-requires-clause-size
write_attrs-requires-clause-size c =
    let all : length (attrs_bytes c.args.enc c.args.attrs.now) ≤ 65535 = omega (arith, c.requires.size, length-append (row_bytes (reach_row c.args.attrs.now.hop.bits c.args.prefixes.now)) (attrs_bytes c.args.enc c.args.attrs.now)) in
    short_values c.args.enc c.args.attrs.now c.requires.valid.unknown_types all

pub returns-in_err-write_reach-clause-err : goal.returns-in_err-write_reach-clause-err
returns-in_err-write_reach-clause-err c =
    on_err _ _ (keeps_on c.args.out.now c.put_u16.new.self c.write_reach.new.out _ c.in_ok-put_u16.ensures.ok c.in_err-write_reach.ensures.err)
