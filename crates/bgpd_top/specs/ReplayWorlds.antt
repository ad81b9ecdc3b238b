-- What passes with the world of an event file.
use Rattle.std.specs.Prelude.{◌≡◌, [], Option, option_map, IfSome}
use Rattle.event_text.specs.Grammar.{FileEvents, no_more, with_event}
use Rattle.event_text.specs.Grammar as file
use Rattle.bgpd_top.specs.World.{Talk, Gave, Closed, Noted, Heard}
use Rattle.bgpd_top.specs.declared.world.WorldEnd.{WorldEnd}
use Rattle.bgpd_top.specs.declared.world.WorldEnd.TheVariants.{Open, Ended, Failed}
use Rattle.bgpd_top.specs.declared.world.WorldFault.TheVariants.{BadEvent, ReadFault, TooLong, NoMemory}

-- the file ends so
abbrev pub EndsSo : Option FileEvents → WorldEnd → Type 0
EndsSo events Ended = IfSome events (λ all. all ≡ no_more file.Ended)
EndsSo events (Failed (BadEvent line)) = IfSome events (λ all. all ≡ no_more (file.BadEvent line))
EndsSo events (Failed TooLong) = IfSome events (λ all. all ≡ no_more file.TooLong)
EndsSo events (Failed ReadFault) = Unit {0}
EndsSo events (Failed NoMemory) = Unit {0}
EndsSo events Open = ⊥

-- by the events that were to come before, and those that are to come behind
abbrev pub PassesFile : Option FileEvents → Talk → Option FileEvents → Type 0
PassesFile before (Gave event) now = before ≡ option_map (with_event event) now
PassesFile before (Closed end) now = EndsSo before end
PassesFile before (Noted bytes) now = (bytes ≡ []) × (before ≡ now)
PassesFile before (Heard line) now = before ≡ now
