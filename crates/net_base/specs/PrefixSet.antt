-- Sets of prefixes, seen as the list of their prefixes in order.
use Rattle.std.specs.Prelude.{◌≡◌, Bool, true, false, List, Option, MatchOption}
use Rattle.std.specs.List.{list_any}
use Rattle.std.specs.Ordering.{eq_by_cmp, is_gt}
use Rattle.net_base.specs.declared.prefix.Prefix.{Prefix}
use Rattle.net_base.specs.Order.{prefix_cmp}

-- the prefix is one of these
abbrev pub is_in : List Prefix → Prefix → Bool
is_in prefixes p = list_any (eq_by_cmp prefix_cmp p) prefixes

-- the prefix passes the test, and no prefix below it does
pub record IsLeastOf (test : Prefix → Bool) (p : Prefix) : Type 0 where
  pub passes : test p ≡ true
  pub least : (q : Prefix) → test q ≡ true → is_gt (prefix_cmp p q) ≡ false

-- the least prefix that passes the test; none exactly where none does
abbrev pub IsLeast : (Prefix → Bool) → Option Prefix → Type 0
IsLeast test found = MatchOption found ((q : Prefix) → test q ≡ false) (IsLeastOf test)
