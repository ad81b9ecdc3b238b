-- Origin validation of a route against a list of authorizations (RFC 6811, section 2).
use Rattle.std.specs.Prelude.{ℕ, Bool, false, ◌&&◌, not, List, Option, None, Some, ◌==◌, nat_le, if◌then◌else◌}
use Rattle.std.specs.List.{list_any}
use Rattle.net_base.specs.declared.prefix.Prefix.{Prefix}
use Rattle.net_base.specs.declared.roa.Roa.{Roa}
use Rattle.net_base.specs.declared.roa.Ovs.{Ovs}
use Rattle.net_base.specs.declared.roa.Ovs.TheVariants.{Valid, Invalid, NotFound}
use Rattle.net_base.specs.Prefix.{covers}

-- the route comes from this AS, which isn't 0
abbrev pub comes_from : ℕ → Option ℕ → Bool
comes_from source None = false
comes_from source (Some origin) = (origin == source) && not (source == 0)

-- the authorization covers the prefix, which is not longer than it allows, and names the origin
abbrev pub matches : Prefix → Option ℕ → Roa → Bool
matches prefix origin roa =
    covers roa.prefix prefix && nat_le prefix.len roa.maxlen && comes_from roa.source origin

-- Valid where some authorization matches, NotFound where none covers, and Invalid otherwise
unfoldable pub origin_validation : List Roa → Prefix → Option ℕ → Ovs
origin_validation roas prefix origin =
    if list_any (matches prefix origin) roas then Valid
    else (if list_any (λ roa. covers roa.prefix prefix) roas then Invalid else NotFound)
