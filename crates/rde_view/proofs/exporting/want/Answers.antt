use Rattle.std.proofs.Common.{Option, option_copied, refl}
use Rattle.rde_view.proofs.Alone.{want_fits}
use Rattle.rde_view.proofs.exporting.want.Goals as goal

pub returns-clause-alone : goal.returns-clause-alone
returns-clause-alone g c =
    want_fits c.args.view.now c.args.live.now c.args.prefix (option_copied c.args.best) (record { prefix = c.args.prefix; attrs = c.in_ok-attrs.attrs }) refl c.in_ok-attrs.ensures
