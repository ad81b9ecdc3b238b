-- The marked prefixes as a set over those that are known.
use Rattle.std.specs.Prelude.{Bool, List, ◌&&◌, ◌||◌}
use Rattle.net_base.specs.declared.prefix.Prefix.{Prefix}
use Rattle.net_base.specs.PrefixSet.{is_in}
use Rattle.sweep_jobs.specs.declared.cursor.Cursor.{Cursor}
use Rattle.sweep_jobs.specs.Cursor.{is_ahead}

-- how far a sweep has come, and the prefixes that were touched and not given since
pub record MarkedPrefixes : Type 0 where
  pub cursor : Cursor
  pub touched : List Prefix

-- touched, or known and still ahead of the sweep
abbrev pub is_marked : List Prefix → MarkedPrefixes → Prefix → Bool
is_marked known marks p = is_in marks.touched p || (is_in known p && is_ahead marks.cursor p)
