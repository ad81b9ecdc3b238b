-- The rows of one session by prefix: what it was told, and what it is to be told again.
use Rattle.std.specs.Prelude.{Bool, false, List, [], ◌∷◌, flat_map, Option, None, Some, is_some}
use Rattle.std.specs.Map.{lookup}
use Rattle.std.specs.Ordering.{eq_by_cmp}
use Rattle.net_base.specs.declared.prefix.Prefix.{Prefix}
use Rattle.net_base.specs.Order.{prefix_cmp}
use Rattle.attr_model.specs.Numbered.{Numbered}
use Rattle.adj_rib_out.specs.declared.rows.Row.{Row}

abbrev pub SentRows : Type 0
SentRows = List (Prefix × Row)

abbrev pub is_same : Prefix → Prefix → Bool
is_same prefix other = eq_by_cmp prefix_cmp prefix other

abbrev pub row_at : SentRows → Prefix → Option Row
row_at rows prefix = lookup (is_same prefix) rows

abbrev pub has_row : SentRows → Prefix → Bool
has_row rows prefix = is_some (row_at rows prefix)

-- what the session was told of a prefix
abbrev pub told_of : Option Row → Option Numbered
told_of None = None
told_of (Some row) = row.told

abbrev pub told_in : SentRows → Prefix → Option Numbered
told_in rows prefix = told_of (row_at rows prefix)

-- whether it is to be told the prefix again, whatever it was told
abbrev pub again_of : Option Row → Bool
again_of None = false
again_of (Some row) = row.again

abbrev pub again_in : SentRows → Prefix → Bool
again_in rows prefix = again_of (row_at rows prefix)

-- ---- the prefixes of which it was told anything

abbrev pub prefix_where : Prefix → Option Numbered → List Prefix
prefix_where prefix None = []
prefix_where prefix (Some one) = prefix ∷ []

abbrev pub told_prefix : Prefix → Row → List Prefix
told_prefix prefix row = prefix_where prefix row.told

abbrev pub told_prefixes : SentRows → List Prefix
told_prefixes rows = flat_map (λ entry. told_prefix entry.0 entry.1) rows

-- ---- the references that are kept

abbrev pub one_or_none : Option Numbered → List Numbered
one_or_none None = []
one_or_none (Some one) = one ∷ []

abbrev pub kept_in : SentRows → List Numbered
kept_in rows = flat_map (λ entry. one_or_none entry.1.told) rows
