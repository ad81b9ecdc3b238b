-- UPDATEs and routes whose attributes are valid.
use Rattle.std.specs.Prelude.{List}
use Rattle.std.specs.List.{AllByRecursion}
use Rattle.net_base.specs.declared.prefix.Prefix.{Prefix}
use Rattle.attr_model.specs.declared.attrs.Attrs.{Attrs}
use Rattle.attr_model.specs.Valid.{IsValid}
use Rattle.update_codec.specs.declared.update.Update.{Update}
use Rattle.attr_model.specs.Routes.{RouteTable}

-- A group's attributes are valid.
abbrev pub HasValid : Attrs × List Prefix → Type 0
HasValid group = IsValid group.0

-- Those of each group that is announced are.
abbrev pub AnnouncesValid : Update → Type 0
AnnouncesValid update = AllByRecursion HasValid update.announced

-- Those of each route are.
abbrev pub HaveValid : RouteTable → Type 0
HaveValid routes = AllByRecursion (λ (route : Prefix × Attrs). IsValid route.1) routes
