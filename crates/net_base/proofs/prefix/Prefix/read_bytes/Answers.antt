use Rattle.std.proofs.Common.{rules}
use Rattle.net_base.proofs.PrefixText.{parses_prefix}
use Rattle.net_base.proofs.prefix.Prefix.read_bytes.Goals as goal

pub returns-clause-grammar : goal.returns-clause-grammar
returns-clause-grammar c =
    parses_prefix c.args.text.now c.ok_or.result (search rules)
