-- UPDATEs and routes whose next hops have the family of their prefixes (RFC 4760 section 3).
use Rattle.std.specs.Prelude.{◌≡◌, List}
use Rattle.std.specs.List.{AllByRecursion}
use Rattle.net_base.specs.declared.prefix.Prefix.{Prefix}
use Rattle.attr_model.specs.declared.attrs.Attrs.{Attrs}
use Rattle.update_codec.specs.declared.update.Update.{Update}
use Rattle.attr_model.specs.Routes.{RouteTable}

-- The next hop has the family of a prefix.
abbrev pub HasFamily : Attrs → Prefix → Type 0
HasFamily attrs prefix = attrs.hop.family ≡ prefix.family

-- That of each group that is announced has the family of each of its prefixes.
abbrev pub AnnouncesFamilies : Update → Type 0
AnnouncesFamilies update = AllByRecursion (λ (group : Attrs × List Prefix). AllByRecursion (HasFamily group.0) group.1) update.announced

-- That of each route has the family of its prefix.
abbrev pub HaveFamilies : RouteTable → Type 0
HaveFamilies routes = AllByRecursion (λ (route : Prefix × Attrs). HasFamily route.1 route.0) routes
