-- The prefixes that are listed for each session, so that its routes are found.
use Rattle.std.specs.Prelude.{◌≡◌, ℕ, ◌==◌, Bool, true, List, [], Option, Some, None, is_some}
use Rattle.std.specs.BTreeSet.{BTreeSet}
use Rattle.std.specs.Map.{lookup}
use Rattle.net_base.specs.declared.prefix.Prefix.{Prefix}
use Rattle.net_base.specs.PrefixSet.{is_in}
use Rattle.adj_rib_in.specs.Held.{Held, route_at}

abbrev pub Listed : Type 0
Listed = List (ℕ × BTreeSet Prefix)

abbrev pub keys_or_none : Option (BTreeSet Prefix) → List Prefix
keys_or_none None = []
keys_or_none (Some set) = set.keys

-- the prefixes that are listed for a session
abbrev pub listed_of : Listed → ℕ → List Prefix
listed_of listed session = keys_or_none (lookup (λ other. session == other) listed)

abbrev pub is_listed : Listed → ℕ → Prefix → Bool
is_listed listed session prefix = is_in (listed_of listed session) prefix

-- Each held route has its prefix listed for its session.
abbrev pub ListsAll : Listed → Held → Type 0
ListsAll listed held = (session : ℕ) (prefix : Prefix) → is_some (route_at held prefix session) ≡ true → is_listed listed session prefix ≡ true
