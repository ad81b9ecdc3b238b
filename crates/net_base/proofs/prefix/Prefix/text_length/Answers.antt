use Rattle.std.proofs.Common.{◌++◌, length, decimal, codes, ap, ◌∙◌, arith, length-append}
use Rattle.net_base.specs.Addr.{addr_text}
use Rattle.net_base.proofs.PrefixText.{shown_prefix}
use Rattle.net_base.proofs.prefix.Prefix.text_length.Goals as goal

pub returns-clause-value : goal.returns-clause-value
returns-clause-value c =
    let whole = ap length (shown_prefix c.args.self c.addr.result c.addr.ensures)
    ∙ length-append (addr_text c.addr.result) (codes "/" ++ decimal c.args.self.len) in
    omega (arith, whole, ap (λ n. length (decimal n)) c.from.ensures)
