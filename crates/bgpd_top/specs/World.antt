-- What passes between a world and who serves it.
use Rattle.std.specs.Prelude.{◌≡◌, ℕ, List, [], ◌∷◌, ◌++◌, Option, Some, None, Result, Ok, Err}
use Rattle.core_msgs.specs.declared.event.Event.{Event}
use Rattle.core_msgs.specs.declared.answer.Line.{Line}
use Rattle.bgpd_top.specs.declared.world.WorldFault.{WorldFault}
use Rattle.bgpd_top.specs.declared.world.WorldEnd.{WorldEnd}
use Rattle.bgpd_top.specs.declared.world.WorldEnd.TheVariants.{Open, Ended, Failed}

pub data Talk : Type 0 where
  -- the world gave this event
  Gave : (event : Event) → Talk
  -- it gives no more: it gave all, or it failed
  Closed : (end : WorldEnd) → Talk
  -- it noted these bytes behind an answer of `next`
  Noted : (bytes : List ℕ) → Talk
  -- it was handed this line
  Heard : (line : Line) → Talk

-- what an answer of `next` says
abbrev pub said_by : Result (Option Event) WorldFault → Talk
said_by (Ok (Some event)) = Gave event
said_by (Ok None) = Closed Ended
said_by (Err fault) = Closed (Failed fault)

-- how many events an answer of `next` gives
abbrev pub given_by : Result (Option Event) WorldFault → ℕ
given_by (Ok (Some event)) = 1
given_by (Ok None) = 0
given_by (Err fault) = 0

-- whether a world still gives events behind an answer of `next`
abbrev pub end_behind : Result (Option Event) WorldFault → WorldEnd
end_behind (Ok (Some event)) = Open
end_behind (Ok None) = Ended
end_behind (Err fault) = Failed fault

-- all that passed between two states, the newest first
abbrev pub Passed : {W : Type 0} → (W → Talk → W → Type 0) → W → List Talk → W → Type 0
Passed passes first [] last = first ≡ last
Passed {W} passes first (talk ∷ before) last = (mid : W) × Passed passes first before mid × passes mid talk last

-- the events given, the oldest first
abbrev pub given : List Talk → List Event
given [] = []
given (Gave event ∷ before) = given before ++ event ∷ []
given (Closed end ∷ before) = given before
given (Noted bytes ∷ before) = given before
given (Heard line ∷ before) = given before

-- the lines heard since the last event was given, the oldest first
abbrev pub heard : List Talk → List Line
heard [] = []
heard (Gave event ∷ before) = []
heard (Closed end ∷ before) = heard before
heard (Noted bytes ∷ before) = heard before
heard (Heard line ∷ before) = heard before ++ line ∷ []

-- what was noted, one entry for each answer of `next`, the oldest first
abbrev pub noted : List Talk → List (List ℕ)
noted [] = []
noted (Gave event ∷ before) = noted before
noted (Closed end ∷ before) = noted before
noted (Noted bytes ∷ before) = noted before ++ bytes ∷ []
noted (Heard line ∷ before) = noted before
