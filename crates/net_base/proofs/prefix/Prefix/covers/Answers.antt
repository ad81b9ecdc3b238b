use Rattle.std.proofs.Common.{rules}
use Rattle.std.specs.Bool.{one_answer}
use Rattle.net_base.proofs.Covering.{covers_Decides}
use Rattle.net_base.proofs.prefix.Prefix.covers.Goals as goal

pub returns-then-ne-clause-value : goal.returns-then-ne-clause-value
returns-then-ne-clause-value c = one_answer _ _ (search rules) (covers_Decides c.args.self c.args.other)

pub returns-clause-value : goal.returns-clause-value
returns-clause-value c = one_answer _ _ (search rules) (covers_Decides c.args.self c.args.other)
