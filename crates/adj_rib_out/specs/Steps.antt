-- What each call does to what one session has, at every prefix.
use Rattle.std.specs.Prelude.{◌≡◌, Bool, ◌&&◌, ◌||◌}
use Rattle.net_base.specs.declared.prefix.Prefix.{Prefix}
use Rattle.adj_rib_out.specs.Rows.{is_same}
use Rattle.adj_rib_out.specs.Out.{Out, told_at, is_queued, is_again}

-- Nothing changes.
pub record IsSame (old new : Out) : Type 0 where
  pub told : (p : Prefix) → told_at new p ≡ told_at old p
  pub queued : (p : Prefix) → is_queued new p ≡ is_queued old p
  pub again : (p : Prefix) → is_again new p ≡ is_again old p
  pub flight : new.flight ≡ old.flight

-- The prefix is queued, and is to be told again where that is asked or was so already.
pub record Queues (prefix : Prefix) (anew : Bool) (old new : Out) : Type 0 where
  pub told : (p : Prefix) → told_at new p ≡ told_at old p
  pub queued : (p : Prefix) → is_queued new p ≡ (is_same p prefix || is_queued old p)
  pub again : (p : Prefix) → is_again new p ≡ (is_same p prefix && anew || is_again old p)
  pub flight : new.flight ≡ old.flight
