use Rattle.attr_codec.specs.Frame.{inner}
use Rattle.attr_codec.proofs.Frames.{beside_valid}
use Rattle.attr_codec.proofs.ReadValid.{field_valid}
use Rattle.std.proofs.Common.{subst}
use Rattle.std.specs.Prelude.{IfSome, Option}
use Rattle.attr_model.specs.declared.attrs.Attrs.{Attrs}
use Rattle.attr_model.specs.Valid.{IsValid}
use Rattle.std.proofs.Common.{sym, arith}
use Rattle.attr_codec.proofs.frame.attrs_in.Goals as goal

pub returns-in-Ok-clause-valid : goal.returns-in-Ok-clause-valid
returns-in-Ok-clause-valid c =
    subst (λ (o : Option Attrs). IfSome o IsValid) (sym c.beside.ensures) (beside_valid c.args.hop c.args.weight c.in-Ok.said _ c.in-Ok.ensures (field_valid inner c.args.bytes.now (λ i. omega (arith, c.type_inv.bytes i))))
