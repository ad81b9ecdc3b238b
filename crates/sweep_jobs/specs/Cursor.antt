-- How far a sweep over the known prefixes has come.
use Rattle.std.specs.Prelude.{Bool, true, false}
use Rattle.std.specs.Ordering.{is_lt}
use Rattle.net_base.specs.declared.prefix.Prefix.{Prefix}
use Rattle.net_base.specs.Order.{prefix_cmp}
use Rattle.sweep_jobs.specs.declared.cursor.Cursor.{Cursor}
use Rattle.sweep_jobs.specs.declared.cursor.Cursor.TheVariants.{Idle, Before, Behind}

-- the sweep hasn't passed the prefix yet
abbrev pub is_ahead : Cursor → Prefix → Bool
is_ahead Idle p = false
is_ahead Before p = true
is_ahead (Behind given) p = is_lt (prefix_cmp given p)
