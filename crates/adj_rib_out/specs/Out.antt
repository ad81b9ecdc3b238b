-- The Adj-RIBs-Out of all sessions (RFC 4271 section 3.2): what each was told, its queue, and its messages in flight.
use Rattle.std.specs.Prelude.{ℕ, ◌==◌, Bool, List, [], flat_map, Option, unwrap_or}
use Rattle.std.specs.Map.{lookup}
use Rattle.net_base.specs.declared.prefix.Prefix.{Prefix}
use Rattle.net_base.specs.PrefixSet.{is_in}
use Rattle.attr_model.specs.Numbered.{Numbered}
use Rattle.adj_rib_out.specs.Rows.{SentRows, told_in, again_in, kept_in}

-- What one session was told and is to be told again, the prefixes queued for it in order, and how many bytes each of its
-- messages in flight has, the oldest first.
pub record Out : Type 0 where
  pub rows : SentRows
  pub queue : List Prefix
  pub flight : List ℕ

abbrev pub nothing : Out
nothing = record { rows = []; queue = []; flight = [] }

-- what the session was told of a prefix, or none
abbrev pub told_at : Out → Prefix → Option Numbered
told_at out prefix = told_in out.rows prefix

-- whether a prefix is queued
abbrev pub is_queued : Out → Prefix → Bool
is_queued out prefix = is_in out.queue prefix

-- whether it is to be told again
abbrev pub is_again : Out → Prefix → Bool
is_again out prefix = again_in out.rows prefix

-- the references that the session keeps
abbrev pub kept_of : Out → List Numbered
kept_of out = kept_in out.rows

-- ---- all sessions

abbrev pub Outs : Type 0
Outs = List (ℕ × Out)

-- what a session has; one that never began, or has ended, has nothing
abbrev pub out_at : Outs → ℕ → Out
out_at outs session = unwrap_or (lookup (λ other. session == other) outs) nothing

abbrev pub kept : Outs → List Numbered
kept outs = flat_map (λ entry. kept_of entry.1) outs
