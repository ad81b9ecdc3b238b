-- A queue in order.
use Rattle.std.specs.Prelude.{ℕ, zero, suc, Bool, false, ◌&&◌, Option, None, Some}
use Rattle.std.specs.Ordering.{is_lt}
use Rattle.net_base.specs.declared.prefix.Prefix.{Prefix}
use Rattle.net_base.specs.Order.{prefix_cmp}
use Rattle.net_base.specs.PrefixSet.{IsLeast}

abbrev pub is_above : Option Prefix → Prefix → Bool
is_above None p = false
is_above (Some before) p = is_lt (prefix_cmp before p)

-- The prefix that passes the test with n others before it: the least one, or the least above the one before.
abbrev pub IsNth : (Prefix → Bool) → ℕ → Option Prefix → Type 0
IsNth test zero found = IsLeast test found
IsNth test (suc n) found = (before : Option Prefix) × (IsNth test n before × IsLeast (λ p. test p && is_above before p) found)
