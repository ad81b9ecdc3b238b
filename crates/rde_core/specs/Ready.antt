-- Which queued prefixes a build may look at.
use Rattle.std.specs.Prelude.{◌≡◌, ℕ, true, not, List, [], ◌∷◌, take, filter}
use Rattle.std.specs.List.{AllByRecursion}
use Rattle.std.specs.Ordering.{is_lt}
use Rattle.net_base.specs.declared.prefix.Prefix.{Prefix}
use Rattle.net_base.specs.Order.{prefix_cmp}
use Rattle.rib_multi.specs.Rows.{Ribs, is_marked_at}
use Rattle.adj_rib_out.specs.Out.{Outs, out_at, is_queued}

-- each prefix is below those behind it
abbrev pub IsAscending : List Prefix → Type 0
IsAscending [] = Unit {0}
IsAscending (prefix ∷ rest) = AllByRecursion (λ other. is_lt (prefix_cmp prefix other) ≡ true) rest × IsAscending rest

-- Prefixes that are queued for a session, in order.
pub record IsReady (outs : Outs) (session : ℕ) (prefixes : List Prefix) : Type 0 where
  pub queued : AllByRecursion (λ prefix. is_queued (out_at outs session) prefix ≡ true) prefixes
  pub order : IsAscending prefixes

-- the first prefixes, so many at most, that aren't marked in a RIB
abbrev pub first_unmarked : List Prefix → Ribs → ℕ → ℕ → List Prefix → List Prefix
first_unmarked known ribs rib most prefixes = take most (filter (λ p. not (is_marked_at known ribs rib p)) prefixes)
