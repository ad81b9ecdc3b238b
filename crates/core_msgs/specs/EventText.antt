-- The text of an event as it stands in an event file, with its line ends.
use Rattle.std.specs.Prelude.{ℕ, Bool, true, false, List, [], ◌∷◌, ◌++◌, flat_map, codes, decimal, ◌==◌, Option, Some, None, slice_get, length, ◌-◌, if◌then◌else◌}
use Rattle.hex.specs.Hex.{encode_lower}
use Rattle.net_base.specs.declared.way.Way.{Way}
use Rattle.net_base.specs.declared.way.Way.TheVariants.{In, Out}
use Rattle.net_base.specs.Addr.{addr_text}
use Rattle.net_base.specs.Prefix.{prefix_text}
use Rattle.core_msgs.specs.declared.parts.LinkName.{LinkName}
use Rattle.core_msgs.specs.declared.parts.LinkName.TheVariants.{Ps, Sp, Pr, Rp, Sr, Rs}
use Rattle.core_msgs.specs.declared.event.Event.{Event}
use Rattle.core_msgs.specs.declared.event.Event.TheVariants as event

-- LF
abbrev pub line_end : List ℕ
line_end = 10 ∷ []

-- who made a connection
abbrev pub way_word : Way → List ℕ
way_word In = codes "in"
way_word Out = codes "out"

-- a link by its two ends
abbrev pub link_word : LinkName → List ℕ
link_word Ps = codes "ps"
link_word Sp = codes "sp"
link_word Pr = codes "pr"
link_word Rp = codes "rp"
link_word Sr = codes "sr"
link_word Rs = codes "rs"

-- whether a route of the kernel came or went
abbrev pub kernel_word : Bool → List ℕ
kernel_word true = codes "up"
kernel_word false = codes "down"

-- the words of a control command, with a blank before each
abbrev pub words_text : List (List ℕ) → List ℕ
words_text words = flat_map (λ word. codes " " ++ word) words

-- the line of an event, and of a `reload` the first one, without its LF
abbrev pub event_line : Event → List ℕ
event_line (event.Time moment) = codes "time " ++ decimal moment
event_line (event.Open peer way) = codes "open " ++ (addr_text peer ++ (codes " " ++ way_word way))
event_line (event.Bytes peer bytes) = codes "bytes " ++ (addr_text peer ++ (codes " " ++ encode_lower bytes))
event_line (event.Close peer) = codes "close " ++ addr_text peer
event_line (event.KernelRoute prefix up) = codes "kroute " ++ (prefix_text prefix ++ (codes " " ++ kernel_word up))
event_line (event.Reload text) = codes "reload"
event_line (event.Deliver link count) = codes "deliver " ++ (link_word link ++ (codes " " ++ decimal count))
event_line (event.Work count) = codes "work " ++ decimal count
event_line (event.Write peer count) = codes "write " ++ (addr_text peer ++ (codes " " ++ decimal count))
event_line (event.Stall peer) = codes "stall " ++ addr_text peer
event_line (event.Flow peer) = codes "flow " ++ addr_text peer
event_line (event.Turn count) = codes "turn " ++ decimal count
event_line event.Settle = codes "settle"
event_line (event.Ctl words) = codes "ctl" ++ words_text words
event_line (event.Cut link) = codes "cut " ++ link_word link
event_line (event.KernelFail table call) = codes "kfail " ++ (decimal table ++ (codes " " ++ decimal call))
event_line event.Stop = codes "stop"

-- the LF that the last line lacks
abbrev pub missing_end : Option ℕ → List ℕ
missing_end None = []
missing_end (Some last) = if last == 10 then [] else line_end

-- the text of a reload with its last line ended
abbrev pub ended : List ℕ → List ℕ
ended text = text ++ missing_end (slice_get text (length text - 1))

-- the lines behind the first: the text of a `reload`, and the line that ends it
abbrev pub lines_behind : Event → List ℕ
lines_behind (event.Reload text) = ended text ++ (codes "." ++ line_end)
lines_behind other = []

unfoldable pub event_text : Event → List ℕ
event_text e = event_line e ++ (line_end ++ lines_behind e)
