-- What a message does to what one session has, at every prefix.
use Rattle.std.specs.Prelude.{◌≡◌, ℕ, ◌≤◌, not, ◌&&◌, if◌then◌else◌, List, [], ◌∷◌, ◌++◌, fold, Option, None, Some}
use Rattle.net_base.specs.declared.prefix.Prefix.{Prefix}
use Rattle.net_base.specs.PrefixSet.{is_in}
use Rattle.attr_model.specs.Numbered.{Numbered}
use Rattle.adj_rib_out.specs.declared.look.Look.{Look}
use Rattle.adj_rib_out.specs.Rows.{is_same}
use Rattle.adj_rib_out.specs.Out.{Out, told_at, is_queued, is_again}
use Rattle.adj_rib_out.specs.Message.{Message, message_size, with_look, prefixes_of, wanted_of, as_told}

-- the lengths that a message puts in flight
abbrev pub lengths_of : Option Message → List ℕ
lengths_of None = []
lengths_of (Some message) = message_size message ∷ []

-- A message is told: its prefixes have what it says, and all others what they had. It is in flight behind the others. Its prefixes
-- leave the queue, and so do the looks that are as told; no other does.
pub record Tells (message : Option Message) (looks : List Look) (old new : Out) : Type 0 where
  pub told : (p : Prefix) → told_at new p ≡ (if is_in (prefixes_of message) p then wanted_of message else told_at old p)
  pub queued : (p : Prefix) → is_queued new p ≡ (is_queued old p && not (is_in (prefixes_of message) p) && not (is_in (as_told old looks) p))
  pub again : (p : Prefix) → is_again new p ≡ (is_again old p && not (is_in (prefixes_of message) p))
  pub flight : new.flight ≡ old.flight ++ lengths_of message

-- ---- one look

-- A prefix leaves the queue.
pub record Passes (prefix : Prefix) (old new : Out) : Type 0 where
  pub told : (p : Prefix) → told_at new p ≡ told_at old p
  pub queued : (p : Prefix) → is_queued new p ≡ (not (is_same p prefix) && is_queued old p)
  pub again : (p : Prefix) → is_again new p ≡ is_again old p
  pub flight : new.flight ≡ old.flight

-- A prefix is told, and leaves the queue.
pub record Takes (prefix : Prefix) (wanted : Option Numbered) (old new : Out) : Type 0 where
  pub told : (p : Prefix) → told_at new p ≡ (if is_same p prefix then wanted else told_at old p)
  pub queued : (p : Prefix) → is_queued new p ≡ (not (is_same p prefix) && is_queued old p)
  pub again : (p : Prefix) → is_again new p ≡ (not (is_same p prefix) && is_again old p)
  pub flight : new.flight ≡ old.flight

-- the message fits
abbrev pub FitsIn : Option Message → Type 0
FitsIn None = Unit {0}
FitsIn (Some message) = message_size message ≤ 4096

-- All looks are handled, and the message is as it is begun with those that joined.
pub record Settled (looks : List Look) (old new : Out) (start message : Option Message) : Type 0 where
  pub rule : message ≡ fold (with_look old) start looks
  pub fits : FitsIn message
  pub same : wanted_of message ≡ wanted_of start
  pub told : (p : Prefix) → told_at new p ≡ (if is_in (prefixes_of message) p then wanted_of message else told_at old p)
  pub queued : (p : Prefix) → is_queued new p ≡ (is_queued old p && not (is_in (prefixes_of message) p) && not (is_in (as_told old looks) p))
  pub again : (p : Prefix) → is_again new p ≡ (is_again old p && not (is_in (prefixes_of message) p))
  pub flight : new.flight ≡ old.flight
