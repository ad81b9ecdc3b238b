-- The grammar of an event file, line by line.
use Rattle.std.specs.Prelude.{ℕ, ◌+◌, ◌^◌, Bool, true, false, not, List, [], ◌∷◌, ◌++◌, drop, length, Option, Some, None, Result, Ok, Err, option_map, option_and_then, if◌then◌else◌, ◌==◌, nat_lt, bytes_eq, codes}
use Rattle.std.specs.List.{before_first, slice_split}
use Rattle.std.specs.Option.{option_map_or}
use Rattle.std.specs.Result.{result_ok}
use Rattle.std.specs.Str.{is_utf8}
use Rattle.hex.specs.Hex.{decode_of}
use Rattle.net_base.specs.declared.way.Way.{Way}
use Rattle.net_base.specs.declared.way.Way.TheVariants.{In, Out}
use Rattle.net_base.specs.Number.{number_of}
use Rattle.net_base.specs.Addr.{read_addr}
use Rattle.net_base.specs.Prefix.{read_prefix}
use Rattle.core_msgs.specs.declared.parts.LinkName.{LinkName}
use Rattle.core_msgs.specs.declared.parts.LinkName.TheVariants.{Ps, Sp, Pr, Rp, Sr, Rs}
use Rattle.core_msgs.specs.declared.event.Event.{Event}
use Rattle.core_msgs.specs.declared.event.Event.TheVariants as event
use Rattle.event_text.specs.declared.words.Kind.{Kind}
use Rattle.event_text.specs.declared.words.Kind.TheVariants as kind

-- an empty line or a comment
abbrev pub is_skipped : List ℕ → Bool
is_skipped [] = true
is_skipped (b ∷ line) = b == 35

-- a blank, which separates words
abbrev pub is_blank : ℕ → Bool
is_blank b = b == 32

-- the words of a line: what stands between its blanks, so that an empty word stands between two
abbrev pub words_of : List ℕ → List (List ℕ)
words_of line = slice_split is_blank line

-- ---- what one word says

-- a number below this limit
abbrev pub number_below : ℕ → List ℕ → Option ℕ
number_below limit word = option_and_then (λ n. if nat_lt n limit then Some n else None) (number_of word)

abbrev pub count_of : List ℕ → Option ℕ
count_of word = number_below (2 ^ 32) word

-- a moment in seconds
abbrev pub moment_of : List ℕ → Option ℕ
moment_of word = number_below (2 ^ 63) word

-- the number of a call, counted from 1
abbrev pub call_of : List ℕ → Option ℕ
call_of word = option_and_then (λ n. if n == 0 then None else Some n) (count_of word)

-- bytes in hexadecimal digits of either case, at least one byte
abbrev pub bytes_of : List ℕ → Option (List ℕ)
bytes_of [] = None
bytes_of (digit ∷ word) = result_ok (decode_of (digit ∷ word))

abbrev pub way_of : List ℕ → Option Way
way_of word = if bytes_eq word (codes "in") then Some In else (if bytes_eq word (codes "out") then Some Out else None)

-- whether a route of the kernel came or went
abbrev pub kernel_of : List ℕ → Option Bool
kernel_of word = if bytes_eq word (codes "up") then Some true else (if bytes_eq word (codes "down") then Some false else None)

abbrev pub link_of : List ℕ → Option LinkName
link_of word =
    if bytes_eq word (codes "ps") then Some Ps
    else (if bytes_eq word (codes "sp") then Some Sp
    else (if bytes_eq word (codes "pr") then Some Pr
    else (if bytes_eq word (codes "rp") then Some Rp
    else (if bytes_eq word (codes "sr") then Some Sr
    else (if bytes_eq word (codes "rs") then Some Rs
    else None)))))

-- the kind of an event by its first word; `reload` and `ctl` have lines of their own forms
abbrev pub kind_of : List ℕ → Option Kind
kind_of word =
    if bytes_eq word (codes "time") then Some kind.Time
    else (if bytes_eq word (codes "open") then Some kind.Open
    else (if bytes_eq word (codes "bytes") then Some kind.Bytes
    else (if bytes_eq word (codes "close") then Some kind.Close
    else (if bytes_eq word (codes "kroute") then Some kind.KernelRoute
    else (if bytes_eq word (codes "deliver") then Some kind.Deliver
    else (if bytes_eq word (codes "work") then Some kind.Work
    else (if bytes_eq word (codes "write") then Some kind.Write
    else (if bytes_eq word (codes "stall") then Some kind.Stall
    else (if bytes_eq word (codes "flow") then Some kind.Flow
    else (if bytes_eq word (codes "turn") then Some kind.Turn
    else (if bytes_eq word (codes "settle") then Some kind.Settle
    else (if bytes_eq word (codes "cut") then Some kind.Cut
    else (if bytes_eq word (codes "kfail") then Some kind.KernelFail
    else (if bytes_eq word (codes "stop") then Some kind.Stop
    else None))))))))))))))

-- ---- productions: each reads words at the front, and gives what they say and the words behind them

infixl 10 ◌>>=◌
abbrev ◌>>=◌ : {A B : Type 0} → Option A → (A → Option B) → Option B
o >>= f = option_and_then f o

-- what the first word says, and the words behind it
abbrev pub word_at : {X : Type 0} → (List ℕ → Option X) → List (List ℕ) → Option (X × List (List ℕ))
word_at says [] = None
word_at says (word ∷ words) = option_map (λ x. (x, words)) (says word)

-- what two words say
abbrev pub two_at : {X Y : Type 0} → (List ℕ → Option X) → (List ℕ → Option Y) → List (List ℕ) → Option ((X × Y) × List (List ℕ))
two_at first second words = do
  x ← word_at first words
  y ← word_at second x.1
  Some ((x.0, y.0), y.1)

-- the event of a production's value
abbrev pub as_event : {X : Type 0} → (X → Event) → Option (X × List (List ℕ)) → Option (Event × List (List ℕ))
as_event to_event read = option_map (λ r. (to_event r.0, r.1)) read

-- the words behind the first of an event of this kind
unfoldable pub event_behind : Kind → List (List ℕ) → Option (Event × List (List ℕ))
event_behind kind.Time words = as_event (λ moment. event.Time moment) (word_at moment_of words)
event_behind kind.Open words = as_event (λ p. event.Open p.0 p.1) (two_at read_addr way_of words)
event_behind kind.Bytes words = as_event (λ p. event.Bytes p.0 p.1) (two_at read_addr bytes_of words)
event_behind kind.Close words = as_event (λ peer. event.Close peer) (word_at read_addr words)
event_behind kind.KernelRoute words = as_event (λ p. event.KernelRoute p.0 p.1) (two_at read_prefix kernel_of words)
event_behind kind.Deliver words = as_event (λ p. event.Deliver p.0 p.1) (two_at link_of count_of words)
event_behind kind.Work words = as_event (λ count. event.Work count) (word_at count_of words)
event_behind kind.Write words = as_event (λ p. event.Write p.0 p.1) (two_at read_addr count_of words)
event_behind kind.Stall words = as_event (λ peer. event.Stall peer) (word_at read_addr words)
event_behind kind.Flow words = as_event (λ peer. event.Flow peer) (word_at read_addr words)
event_behind kind.Turn words = as_event (λ count. event.Turn count) (word_at count_of words)
event_behind kind.Settle words = Some (event.Settle, words)
event_behind kind.Cut words = as_event (λ link. event.Cut link) (word_at link_of words)
event_behind kind.KernelFail words = as_event (λ p. event.KernelFail p.0 p.1) (two_at count_of call_of words)
event_behind kind.Stop words = Some (event.Stop, words)

-- an event of words
abbrev pub event_at : List (List ℕ) → Option (Event × List (List ℕ))
event_at words = do
  kind ← word_at kind_of words
  event_behind kind.0 kind.1

-- what was read, where no word is left behind it
abbrev pub whole : {X : Type 0} → Option (X × List (List ℕ)) → Option X
whole None = None
whole (Some (x, [])) = Some x
whole (Some (x, word ∷ words)) = None

-- ---- lines

-- the first word of a line
abbrev pub first_word : List ℕ → List ℕ
first_word line = before_first is_blank line

-- the words of a control command: its text is cut at each blank, and an empty text has none
abbrev pub control_words : List ℕ → List (List ℕ)
control_words [] = []
control_words (b ∷ text) = words_of (b ∷ text)

-- the event of one line that is no `reload`: a control command's text stands behind `ctl` and one blank
abbrev pub line_event : List ℕ → Option Event
line_event line =
    if bytes_eq (first_word line) (codes "ctl") then (if is_utf8 line then Some (event.Ctl (control_words (drop 4 line))) else None)
    else whole (event_at (words_of line))

-- the line that begins the text of a configuration, and the one behind it
abbrev pub is_reload : List ℕ → Bool
is_reload line = bytes_eq line (codes "reload")

abbrev pub ends_text : List ℕ → Bool
ends_text line = bytes_eq line (codes ".")

-- one line more of a text
abbrev pub with_line : List ℕ → List ℕ → List ℕ
with_line text line = text ++ line ++ (10 ∷ [])

-- how the events of a file end: with the file, at a line that isn't of the grammar, or at a limit
pub data FileEnd : Type 0 where
  Ended : FileEnd
  BadEvent : (line : ℕ) → FileEnd
  TooLong : FileEnd

-- the events of a file, and how they end
pub record FileEvents : Type 0 where
  pub events : List Event
  pub end : FileEnd

abbrev pub no_more : FileEnd → FileEvents
no_more end = record { events = []; end = end }

abbrev pub with_event : Event → FileEvents → FileEvents
with_event event rest = record { events = event ∷ rest.events; end = rest.end }

-- a text that isn't ended is a bad event at the last line of the file
abbrev pub unended : ℕ → FileEnd → FileEnd
unended last Ended = BadEvent last
unended last (BadEvent line) = BadEvent line
unended last TooLong = TooLong

-- The events of lines, before which so many stand, and behind which the file ends so: outside of a text, and in
-- the text of a `reload`, which has come so far.
abbrev pub events_from : Option (List ℕ) → ℕ → List (List ℕ) → FileEnd → FileEvents
events_from None before [] end = no_more end
events_from (Some text) before [] end = no_more (unended before end)
events_from None before (line ∷ lines) end =
    if is_skipped line then events_from None (before + 1) lines end
    else (if is_reload line then events_from (Some []) (before + 1) lines end
    else option_map_or (λ event. with_event event (events_from None (before + 1) lines end)) (line_event line) (no_more (BadEvent (before + 1))))
events_from (Some text) before (line ∷ lines) end =
    if ends_text line then with_event (event.Reload text) (events_from None (before + 1) lines end)
    else events_from (Some (with_line text line)) (before + 1) lines end
