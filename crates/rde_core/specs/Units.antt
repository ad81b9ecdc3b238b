-- Which units of work can be done.
use Rattle.std.specs.Prelude.{◌<◌, length}
use Rattle.adj_rib_out.specs.Out.{out_at}
use Rattle.rde_tables.specs.Routes.{AllRoutes}
use Rattle.rde_view.specs.declared.live.Live.{Live}
use Rattle.rde_core.specs.declared.units.Unit.{Unit as Work}
use Rattle.rde_core.specs.declared.units.Unit.TheVariants.{Refresh, Build}

-- fewer than 16 messages of a session are in flight
abbrev pub HasRoom : AllRoutes → Live → Type 0
HasRoom routes live = length (out_at routes.outs live.number).flight < 16

-- A RIB is one of 16, and a session has room for a message.
abbrev pub CanBeDone : AllRoutes → Work → Type 0
CanBeDone routes (Refresh rib) = rib < 16
CanBeDone routes (Build live) = HasRoom routes live
