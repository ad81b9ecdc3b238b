-- The routes to one prefix, one of a session at most, in order of session.
use Rattle.std.specs.Prelude.{ℕ, ◌<◌, ◌==◌, nat_lt, cond, not, filter, List, [], ◌∷◌, Option, Some, None, is_some}
use Rattle.std.specs.List.{AllByRecursion}
use Rattle.attr_model.specs.Numbered.{Numbered}
use Rattle.adj_rib_in.specs.declared.row.Entry.{Entry}

-- each session is below those behind it
abbrev pub IsInOrder : List Entry → Type 0
IsInOrder [] = Unit {0}
IsInOrder (entry ∷ rest) = AllByRecursion (λ other. entry.session < other.session) rest × IsInOrder rest

-- the route of a session
abbrev pub attrs_of : ℕ → List Entry → Option Numbered
attrs_of session [] = None
attrs_of session (entry ∷ rest) = cond (entry.session == session) (Some entry.attrs) (attrs_of session rest)

-- the route in the place of its session's one
abbrev pub replaced : Entry → List Entry → List Entry
replaced route [] = []
replaced route (entry ∷ rest) = cond (entry.session == route.session) (route ∷ rest) (entry ∷ replaced route rest)

-- the route in its place in the order
abbrev pub inserted : Entry → List Entry → List Entry
inserted route [] = route ∷ []
inserted route (entry ∷ rest) = cond (nat_lt route.session entry.session) (route ∷ entry ∷ rest) (entry ∷ inserted route rest)

-- the row with this route as its session's one
abbrev pub put : Entry → List Entry → List Entry
put route row = cond (is_some (attrs_of route.session row)) (replaced route row) (inserted route row)

-- the row without the route of a session
abbrev pub without : ℕ → List Entry → List Entry
without session row = filter (λ entry. not (entry.session == session)) row
