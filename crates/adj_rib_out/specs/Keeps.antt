-- What the rows and the queue of a session keep.
use Rattle.std.specs.Prelude.{◌≡◌, true, List}
use Rattle.net_base.specs.declared.prefix.Prefix.{Prefix}
use Rattle.net_base.specs.PrefixSet.{is_in}
use Rattle.adj_rib_out.specs.Rows.{SentRows, has_row, again_in}

-- A queued prefix has a row, and what is to be told again is queued.
pub record IsKept (rows : SentRows) (queue : List Prefix) : Type 0 where
  pub has_row : (p : Prefix) → is_in queue p ≡ true → has_row rows p ≡ true
  pub queued : (p : Prefix) → again_in rows p ≡ true → is_in queue p ≡ true
