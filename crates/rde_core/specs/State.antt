-- What the decision core has: its view, its routes, which prefixes are known, and whether memory ran out.
use Rattle.std.specs.Prelude.{Bool, List}
use Rattle.net_base.specs.declared.prefix.Prefix.{Prefix}
use Rattle.rde_tables.specs.Routes.{AllRoutes}
use Rattle.rde_view.specs.View.{ViewState}

pub record DecisionState : Type 0 where
  pub view : ViewState
  pub routes : AllRoutes
  pub known : List Prefix
  pub spent : Bool
