-- The routes that are held, kept and told, with the table of their attributes.
use Rattle.std.specs.Prelude.{List, ◌++◌}
use Rattle.attr_model.specs.Numbered.{Numbered}
use Rattle.attr_intern.specs.Table.{Table}
use Rattle.adj_rib_in.specs.Held.{Held}
use Rattle.adj_rib_in.specs.Uses.{kept as held_refs}
use Rattle.rib_multi.specs.Rows.{Ribs}
use Rattle.rib_multi.specs.Uses.{refs_of}
use Rattle.adj_rib_out.specs.Out.{Outs, kept as told_refs}
use Rattle.rde_tables.specs.Uses.{Accounts}

pub record AllRoutes : Type 0 where
  pub table : Table
  pub held : Held
  pub ribs : Ribs
  pub outs : Outs

-- the references of what sessions hold, of what the RIBs keep, and of what sessions were told
abbrev pub refs : AllRoutes → List Numbered
refs routes = held_refs routes.held ++ (refs_of routes.ribs ++ told_refs routes.outs)

-- No use of the attributes is lost: each number is used as often as routes have it.
abbrev pub IsExact : AllRoutes → Type 0
IsExact routes = Accounts routes.table (refs routes)
