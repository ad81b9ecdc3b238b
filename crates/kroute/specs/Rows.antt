-- The rows of kernel tables: each a prefix and its next hop, in order of prefix.
use Rattle.std.specs.Prelude.{◌≡◌, ◌≢◌, ◌⊎◌, ℕ, ◌+◌, ◌≤◌, min, Bool, List, length, Option, Result, Ok, Err, OnOk, OnErr}
use Rattle.std.specs.declared.cmp.Ordering.{Ordering}
use Rattle.std.specs.Option.{option_map}
use Rattle.std.specs.BTreeMap.{insert_entry, is_at}
use Rattle.std.specs.List.Sorted.{IsStrictlySortedBy}
use Rattle.std.specs.Map.{keys_of, remove_entry}
use Rattle.net_base.specs.declared.addr.Addr.{Addr}
use Rattle.net_base.specs.declared.prefix.Prefix.{Prefix}
use Rattle.net_base.specs.Order.{prefix_cmp}
use Rattle.net_base.specs.PrefixSet.{is_in}
use Rattle.io_edge.specs.Faults.{last_count, Rose}

abbrev pub Rows : Type 0
Rows = List (Prefix × Addr)

-- the rows are in order of prefix, each prefix once
abbrev pub IsByPrefix : Rows → Type 0
IsByPrefix rows = IsStrictlySortedBy prefix_cmp (keys_of rows)

-- the prefixes are in order, each once
abbrev pub IsInOrder : List Prefix → Type 0
IsInOrder prefixes = IsStrictlySortedBy prefix_cmp prefixes

-- The set has exactly the prefixes that pass, in order.
pub record IsSetOf (prefixes : List Prefix) (test : Prefix → Bool) : Type 0 where
  pub in_order : IsInOrder prefixes
  pub has : (q : Prefix) → is_in prefixes q ≡ test q

-- the rows with this one put among them, or in the place of the row of its prefix
abbrev pub with_row : {P A : Type 0} → (P → P → Ordering) → Option (List (P × A)) → P → A → Option (List (P × A))
with_row order told prefix hop = option_map (λ rows. insert_entry order rows prefix hop) told

-- the rows without that of the prefix
abbrev pub without_row : {P A : Type 0} → (P → P → Ordering) → Option (List (P × A)) → P → Option (List (P × A))
without_row order told prefix = option_map (λ rows. remove_entry (is_at (order prefix)) rows) told

-- A call on one table leaves the rows of all others. Its own are as asked, and after a failure as before or as asked.
pub record ChangesRows {A T E : Type 0} (old new : ℕ → A) (table : ℕ) (asked : A) (result : Result T E) : Type 0 where
  pub ok : OnOk result (new table ≡ asked)
  pub failed : OnErr result ((new table ≡ old table) ⊎ (new table ≡ asked))
  pub others : (other : ℕ) → other ≢ table → new other ≡ old other

-- A failure raises the count of the table, and no count falls; every other answer leaves all counts as they were.
pub record CountsTable {T E : Type 0} (old new : ℕ → ℕ) (table : ℕ) (result : Result T E) : Type 0 where
  pub ok : OnOk result ((other : ℕ) → new other ≡ old other)
  pub failed : OnErr result (Rose (old table) (new table))
  pub never_falls : (other : ℕ) → old other ≤ new other

-- the count of listed rows rises by those of an answer, up to its last value
abbrev pub CountsListed : {X E : Type 0} → ℕ → ℕ → Result (List X) E → Type 0
CountsListed old new (Ok rows) = new ≡ min (old + length rows) last_count
CountsListed old new (Err _) = new ≡ old
