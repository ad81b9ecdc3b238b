-- What may be sent to a session (RFC 4271 sections 4.3 and 5).
use Rattle.std.specs.Prelude.{◌≡◌, ℕ, ◌≤◌, Bool, true, not, is_some, List, length, Option, Some, None, IfSome, ⊤}
use Rattle.std.specs.List.{AllByRecursion}
use Rattle.net_base.specs.declared.addr.Family.{Family}
use Rattle.net_base.specs.declared.prefix.Prefix.{Prefix}
use Rattle.bgp_wire.specs.declared.open.Encoding.{Encoding}
use Rattle.attr_model.specs.declared.attrs.Attrs.{Attrs}
use Rattle.attr_model.specs.Routes.{route_at}
use Rattle.attr_model.specs.Valid.{IsValid}
use Rattle.attr_codec.specs.Prefixes.{prefix_bytes}
use Rattle.attr_codec.specs.Size.{update_size}
use Rattle.attr_codec.specs.Width.{HaveWidth, IsNumber}
use Rattle.conf_tree.specs.declared.neighbour.Neighbour.{Neighbour}
use Rattle.route_world.specs.declared.world.World.{World}
use Rattle.route_world.specs.declared.world.Session.{Session}
use Rattle.route_world.specs.Export.{exchanges}

-- Attributes could have been sent with a prefix: they are valid, and their next hop has the family of the prefix.
pub record IsGood (prefix : Prefix) (attrs : Attrs) : Type 0 where
  pub valid : IsValid attrs
  pub family : attrs.hop.family ≡ prefix.family

-- those of a route, where there is one
abbrev pub IsGoodIf : Prefix → Option Attrs → Type 0
IsGoodIf prefix None = ⊤
IsGoodIf prefix (Some attrs) = IsGood prefix attrs

-- those of each route to a prefix that a session holds
abbrev pub HoldGood : Prefix → World → Type 0
HoldGood prefix world = AllByRecursion (λ (session : Session). IsGoodIf prefix (route_at session.held prefix)) world.sessions

-- An UPDATE with them and this prefix alone may be written to a session: the family is agreed, the weight stays here, LOCAL_PREF is
-- there exactly within the own AS (RFC 4271 section 5.1.5), and the message is no longer than one may be.
pub record MayBeTold (enc : Encoding) (neighbour : Neighbour) (prefix : Prefix) (attrs : Attrs) : Type 0 where
  pub good : IsGood prefix attrs
  pub agreed : exchanges enc neighbour prefix.family ≡ true
  pub weight : attrs.weight ≡ 0
  pub local_pref : is_some attrs.local_pref ≡ not enc.external
  pub fits : update_size enc attrs (length (prefix_bytes prefix)) ≤ 4096

-- Each number of what a session says has its width: its AS number, and those of the route to a prefix that it holds.
pub record HasWidthAt (prefix : Prefix) (session : Session) : Type 0 where
  pub asn : IsNumber session.facts.asn
  pub route : IfSome (route_at session.held prefix) HaveWidth

abbrev pub HaveWidthAt : Prefix → World → Type 0
HaveWidthAt prefix world = AllByRecursion (HasWidthAt prefix) world.sessions
