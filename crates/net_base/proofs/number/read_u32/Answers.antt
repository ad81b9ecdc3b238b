use Rattle.std.proofs.Common.{rules}
use Rattle.net_base.proofs.Numbers.{read_number_is}
use Rattle.net_base.proofs.number.read_u32.Goals as goal

pub returns-in_err-value-clause-value : goal.returns-in_err-value-clause-value
returns-in_err-value-clause-value c = read_number_is _ _ _ (search rules)

pub returns-clause-value : goal.returns-clause-value
returns-clause-value c = read_number_is _ _ _ (search rules)
