use Rattle.std.proofs.Common.{◌+◌, ◌-◌, length, take, drop, ap, ◌∙◌, arith, length-drop}
use Rattle.std.proofs.lemmas.List.{take_all}
use Rattle.net_base.specs.Prefix.{prefix_from}
use Rattle.net_base.proofs.PrefixText.{no_slash, parts_at}
use Rattle.net_base.proofs.prefix.Prefix.read_parts.Goals as goal

pub returns-in_default : goal.returns-in_default
returns-in_default c = no_slash c.args.text.now c.in_default.ensures.place

pub returns : goal.returns
returns c =
    let text = c.args.text.now in
    let behind = drop (c.in-Some.slash + 1) text in
    let whole = take_all (length text - (c.in-Some.slash + 1)) behind (omega (arith, length-drop (c.in-Some.slash + 1) text)) in
    c.from_parts.ensures
    ∙ ap (prefix_from (take c.in-Some.slash text)) whole
    ∙ parts_at text c.in-Some.slash c.in-Some.ensures.place
