-- The held routes of all sessions, by prefix.
use Rattle.std.specs.Prelude.{◌≡◌, ℕ, Bool, cond, List, [], Option, unwrap_or, option_map, filter_map}
use Rattle.std.specs.Map.{lookup}
use Rattle.std.specs.Ordering.{is_eq}
use Rattle.net_base.specs.declared.prefix.Prefix.{Prefix}
use Rattle.net_base.specs.Order.{prefix_cmp}
use Rattle.net_base.specs.PrefixSet.{is_in}
use Rattle.attr_model.specs.Numbered.{Numbered}
use Rattle.adj_rib_in.specs.declared.row.Entry.{Entry}
use Rattle.adj_rib_in.specs.Row.{attrs_of, without}

abbrev pub Held : Type 0
Held = List (Prefix × List Entry)

abbrev pub is_same : Prefix → Prefix → Bool
is_same prefix other = is_eq (prefix_cmp prefix other)

-- the routes to a prefix, in order of session
abbrev pub held_at : Held → Prefix → List Entry
held_at held prefix = unwrap_or (lookup (is_same prefix) held) []

-- the route of a session to a prefix
abbrev pub route_at : Held → Prefix → ℕ → Option Numbered
route_at held prefix session = attrs_of session (held_at held prefix)

-- The prefix has this row now, and each other prefix the row that it had.
abbrev pub SetsRow : Held → Held → Prefix → List Entry → Type 0
SetsRow old new prefix row = (other : Prefix) → held_at new other ≡ cond (is_same prefix other) row (held_at old other)

-- the routes to a prefix without that of a session, where the prefix is one of these
abbrev pub held_but : ℕ → List Prefix → (Prefix → List Entry) → Prefix → List Entry
held_but session prefixes held prefix = cond (is_in prefixes prefix) (without session (held prefix)) (held prefix)

-- the routes of a session to these prefixes, in their order
abbrev pub routes_of : ℕ → List Prefix → Held → List (Prefix × Numbered)
routes_of session prefixes held = filter_map (λ prefix. option_map (λ attrs. (prefix, attrs)) (route_at held prefix session)) prefixes

-- Each prefix has the row that it had.
abbrev pub IsSame : Held → Held → Type 0
IsSame old new = (prefix : Prefix) → held_at new prefix ≡ held_at old prefix
