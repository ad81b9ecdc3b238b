-- How the events to come change with each line that is read.
use Rattle.std.proofs.Common.{◌≡◌, ℕ, ◌+◌, ◌-◌, ◌<◌, Bool, true, false, List, [], ◌∷◌, Option, None, Some, option_map, IfSome, cond, refl, sym, ap, ◌∙◌, arith, inl, inr}
use Rattle.std.specs.Option.{option_map_or}
use Rattle.io_edge.specs.declared.lines.LineFault.{LineFault}
use Rattle.io_edge.specs.FileLines.{lines_in, fault_in}
use Rattle.io_edge.specs.Reading.{Reading, ahead, lines_ahead, fault_ahead, Ends}
use Rattle.event_text.specs.Grammar.{FileEnd, Ended, TooLong, BadEvent, FileEvents, events_from, no_more, with_event, line_event, is_reload, is_skipped, ends_text, with_line}
use Rattle.std.proofs.Common.{not, ◌&&◌, Ok, Err}
use Rattle.std.specs.Option.{ok_or}
use Rattle.core_msgs.specs.declared.event.Event.{Event}
use Rattle.core_msgs.specs.declared.event.Event.TheVariants.{Reload}
use Rattle.event_text.specs.declared.event.LinesHeld.{LinesHeld}
use Rattle.event_text.specs.Held.{wants_more, held_then, held_event}
use Rattle.bgpd_top.specs.Ahead.{events_to_come, events_of_file, end_of_lines, held_then_come, text_then, event_then}
use Rattle.bgpd_top.specs.Reader.{EndsTooLong, before_head}

-- before anything was read, the events to come are those of the file
whole_at : (left : Option (List ℕ)) → events_to_come None 0 (option_map (lines_in 0) left) (option_map (fault_in 0) left) ≡ option_map events_of_file left
whole_at None = refl
whole_at (Some bytes) = refl

pub fresh : (r : Reading) → r.passed ≡ 0 → ((left : Option (List ℕ)) → ahead r left ≡ left) → (left : Option (List ℕ)) →
    events_to_come None 0 (lines_ahead r left) (fault_ahead r left) ≡ option_map events_of_file left
unfolding lines_ahead fault_ahead
fresh r none whole left = rw (none, whole left) (whole_at left)

-- a line that is passed over
skip_at : (skipped : Bool) (before : ℕ) (line : List ℕ) (lines : List (List ℕ)) (end : FileEnd) → is_skipped line ≡ skipped → skipped ≡ true →
    events_from None before (line ∷ lines) end ≡ events_from None (before + 1) lines end
skip_at true before line lines end e h = rw e refl
skip_at false before line lines end e h = cc

pub skip : (before : ℕ) (line : List ℕ) (lines : Option (List (List ℕ))) (fault : Option (Option LineFault)) → is_skipped line ≡ true →
    events_to_come None before (option_map (λ others. line ∷ others) lines) fault ≡ events_to_come None (before + 1) lines fault
skip before line None fault e = refl
skip before line (Some lines) None e = refl
skip before line (Some lines) (Some fault) e = ap Some (skip_at (is_skipped line) before line lines (end_of_lines fault) refl e)

-- no line is to come
pub ended : (before : ℕ) (lines : Option (List (List ℕ))) (fault : Option (Option LineFault)) → Ends lines fault None →
    IfSome (events_to_come None before lines fault) (λ file. file ≡ no_more Ended)
ended before None fault e = tt
ended before (Some lines) None e = tt
ended before (Some lines) (Some fault) e = rw (e.no_line, e.then) refl

pub too_long : (before : ℕ) (lines : Option (List (List ℕ))) (fault : Option (Option LineFault)) → EndsTooLong lines fault →
    IfSome (events_to_come None before lines fault) (λ file. file ≡ no_more TooLong)
too_long before None fault e = tt
too_long before (Some lines) None e = tt
too_long before (Some lines) (Some fault) e = elim e [ inl h ↦ rw (h.no_line, h.then) refl | inr h ↦ rw (h.no_line, h.then) refl ]

-- both halves of a test hold
and_true : (a b : Bool) → a && b ≡ true → (a ≡ true) × (b ≡ true)
and_true true true e = (refl, refl)
and_true true false e = cc
and_true false b e = cc

not_true : (b : Bool) → not b ≡ true → b ≡ false
not_true true e = cc
not_true false e = refl

-- what is to come where a text goes on in the next line
text_goes_on : (held : LinesHeld) (lines : Option (List (List ℕ))) (fault : Option (Option LineFault)) → wants_more held ≡ true →
    held_then_come held lines fault ≡ events_to_come (Some held.text) held.last lines fault
text_goes_on held lines fault wants =
    let both : (is_reload held.head ≡ true) × (not held.ended ≡ true) = and_true (is_reload held.head) (not held.ended) wants in
    let open_text : held.ended ≡ false = not_true held.ended both.1 in
    ap (λ b. cond b (text_then held.ended held lines fault) (event_then (line_event held.head) held.first (events_to_come None held.last lines fault))) both.0
    ∙ ap (λ b. text_then b held lines fault) open_text

came : (held : LinesHeld) (lines : Option (List (List ℕ))) (fault : Option (Option LineFault)) → is_reload held.head ≡ true →
    held_then_come held lines fault ≡ text_then held.ended held lines fault
came held lines fault reload =
    ap (λ b. cond b (text_then held.ended held lines fault) (event_then (line_event held.head) held.first (events_to_come None held.last lines fault))) reload

-- the line that ends a text
more_end : (text : List ℕ) (last : ℕ) (line : List ℕ) (lines : Option (List (List ℕ))) (fault : Option (Option LineFault)) → ends_text line ≡ true →
    events_to_come (Some text) last (option_map (λ others. line ∷ others) lines) fault
    ≡ option_map (with_event (Reload text)) (events_to_come None (last + 1) lines fault)
more_end text last line None fault e = refl
more_end text last line (Some lines) None e = refl
more_end text last line (Some lines) (Some fault) e =
    ap (λ b. Some (cond b (with_event (Reload text) (events_from None (last + 1) lines (end_of_lines fault)))
    (events_from (Some (with_line text line)) (last + 1) lines (end_of_lines fault)))) e

-- a line of a text
more_on : (text : List ℕ) (last : ℕ) (line : List ℕ) (lines : Option (List (List ℕ))) (fault : Option (Option LineFault)) → ends_text line ≡ false →
    events_to_come (Some text) last (option_map (λ others. line ∷ others) lines) fault
    ≡ events_to_come (Some (with_line text line)) (last + 1) lines fault
more_on text last line None fault e = refl
more_on text last line (Some lines) None e = refl
more_on text last line (Some lines) (Some fault) e =
    ap (λ b. Some (cond b (with_event (Reload text) (events_from None (last + 1) lines (end_of_lines fault)))
    (events_from (Some (with_line text line)) (last + 1) lines (end_of_lines fault)))) e

more_case : (ends : Bool) (held : LinesHeld) (line : List ℕ) (lines : Option (List (List ℕ))) (fault : Option (Option LineFault)) →
    ends_text line ≡ ends → is_reload held.head ≡ true → held.ended ≡ false →
    events_to_come (Some held.text) held.last (option_map (λ others. line ∷ others) lines) fault
    ≡ held_then_come (cond ends (record held { ended = true; last = held.last + 1 }) (record held { text = with_line held.text line; last = held.last + 1 })) lines fault
more_case true held line lines fault e reload open_text =
    more_end held.text held.last line lines fault e ∙ sym (came (record held { ended = true; last = held.last + 1 }) lines fault reload)
more_case false held line lines fault e reload open_text =
    let next : LinesHeld = record held { text = with_line held.text line; last = held.last + 1 } in
    more_on held.text held.last line lines fault e
    ∙ sym (came next lines fault reload ∙ ap (λ b. text_then b next lines fault) open_text)

-- one line more of a text
pub more : (held : LinesHeld) (line : List ℕ) (lines : Option (List (List ℕ))) (fault : Option (Option LineFault)) → wants_more held ≡ true →
    held_then_come held (option_map (λ others. line ∷ others) lines) fault ≡ held_then_come (held_then held line) lines fault
more held line lines fault wants =
    let both : (is_reload held.head ≡ true) × (not held.ended ≡ true) = and_true (is_reload held.head) (not held.ended) wants in
    text_goes_on held (option_map (λ others. line ∷ others) lines) fault wants
    ∙ more_case (ends_text line) held line lines fault refl both.0 (not_true held.ended both.1)

cut_at : (text : List ℕ) (last : ℕ) (lines : Option (List (List ℕ))) (fault : Option (Option LineFault)) → EndsTooLong lines fault →
    IfSome (events_to_come (Some text) last lines fault) (λ file. file ≡ no_more TooLong)
cut_at text last None fault e = tt
cut_at text last (Some lines) None e = tt
cut_at text last (Some lines) (Some fault) e = elim e [ inl h ↦ rw (h.no_line, h.then) refl | inr h ↦ rw (h.no_line, h.then) refl ]

-- a limit is passed in a text
pub cut : (held : LinesHeld) (lines : Option (List (List ℕ))) (fault : Option (Option LineFault)) → wants_more held ≡ true → EndsTooLong lines fault →
    IfSome (held_then_come held lines fault) (λ file. file ≡ no_more TooLong)
cut held lines fault wants e = rw (text_goes_on held lines fault wants) (cut_at held.text held.last lines fault e)

event_then_none : (event : Option Event) (number : ℕ) → event_then event number None ≡ None
event_then_none None number = refl
event_then_none (Some event) number = refl

nothing_at : (reload : Bool) (event : Option Event) (number : ℕ) → None ≡ cond reload None (event_then event number None)
nothing_at true event number = refl
nothing_at false event number = sym (event_then_none event number)

begin_at : (reload : Bool) (event : Option Event) (count : ℕ) (lines : List (List ℕ)) (end : FileEnd) →
    Some (cond reload (events_from (Some []) count lines end)
    (option_map_or (λ event. with_event event (events_from None count lines end)) event (no_more (BadEvent count))))
    ≡ cond reload (Some (events_from (Some []) count lines end)) (event_then event count (Some (events_from None count lines end)))
begin_at true event count lines end = refl
begin_at false None count lines end = refl
begin_at false (Some event) count lines end = refl

-- the first line of an event
pub begin : (head : List ℕ) (count : ℕ) (lines : Option (List (List ℕ))) (fault : Option (Option LineFault)) → is_skipped head ≡ false → 0 < count →
    before_head head count lines fault ≡ held_then_come (record { first = count; last = count; head = head; text = []; ended = false }) lines fault
begin head count None fault kept some = nothing_at (is_reload head) (line_event head) count
begin head count (Some lines) None kept some = nothing_at (is_reload head) (line_event head) count
begin head count (Some lines) (Some fault) kept some =
    let number : count - 1 + 1 ≡ count = omega arith in
    rw (kept, number) (begin_at (is_reload head) (line_event head) count lines (end_of_lines fault))

done_at : (reload ended : Bool) (read : Option Event) (held : LinesHeld) (event : Event) (lines : Option (List (List ℕ))) (fault : Option (Option LineFault)) →
    cond reload (cond ended (Ok (Reload held.text)) (Err held.last)) (ok_or read held.first) ≡ Ok event →
    cond reload (text_then ended held lines fault) (event_then read held.first (events_to_come None held.last lines fault))
    ≡ option_map (with_event event) (events_to_come None held.last lines fault)
done_at true true read held event lines fault e =
    let same : Reload held.text ≡ event = cc in ap (λ x. option_map (with_event x) (events_to_come None held.last lines fault)) same
done_at true false read held event lines fault e = cc
done_at false ended None held event lines fault e = cc
done_at false ended (Some found) held event lines fault e =
    let same : found ≡ event = cc in ap (λ x. option_map (with_event x) (events_to_come None held.last lines fault)) same

-- the lines held are this event
pub done : (held : LinesHeld) (event : Event) (lines : Option (List (List ℕ))) (fault : Option (Option LineFault)) → held_event held ≡ Ok event →
    held_then_come held lines fault ≡ option_map (with_event event) (events_to_come None held.last lines fault)
done held event lines fault e = done_at (is_reload held.head) held.ended (line_event held.head) held event lines fault e

bad_if : (number : ℕ) (rest : Option FileEvents) → IfSome (option_map (λ _. no_more (BadEvent number)) rest) (λ file. file ≡ no_more (BadEvent number))
bad_if number None = tt
bad_if number (Some rest) = refl

unended_at : (text : List ℕ) (last : ℕ) (lines : Option (List (List ℕ))) (fault : Option (Option LineFault)) → Ends lines fault None →
    IfSome (events_to_come (Some text) last lines fault) (λ file. file ≡ no_more (BadEvent last))
unended_at text last None fault e = tt
unended_at text last (Some lines) None e = tt
unended_at text last (Some lines) (Some fault) e = rw (e.no_line, e.then) refl

-- the file ends in a text
pub unended : (held : LinesHeld) (lines : Option (List (List ℕ))) (fault : Option (Option LineFault)) → wants_more held ≡ true → Ends lines fault None →
    IfSome (held_then_come held lines fault) (λ file. file ≡ no_more (BadEvent held.last))
unended held lines fault wants ends = rw (text_goes_on held lines fault wants) (unended_at held.text held.last lines fault ends)

bad_at : (reload ended : Bool) (read : Option Event) (held : LinesHeld) (number : ℕ) (lines : Option (List (List ℕ))) (fault : Option (Option LineFault)) →
    cond reload (cond ended (Ok (Reload held.text)) (Err held.last)) (ok_or read held.first) ≡ Err number →
    reload && not ended ≡ false →
    IfSome (cond reload (text_then ended held lines fault) (event_then read held.first (events_to_come None held.last lines fault)))
    (λ file. file ≡ no_more (BadEvent number))
bad_at true true read held number lines fault e whole = cc
bad_at true false read held number lines fault e whole =
    cc
bad_at false ended None held number lines fault e whole =
    let same : held.first ≡ number = cc in rw (← same) (bad_if held.first (events_to_come None held.last lines fault))
bad_at false ended (Some found) held number lines fault e whole = cc

-- the lines held are no event
pub bad : (held : LinesHeld) (number : ℕ) (lines : Option (List (List ℕ))) (fault : Option (Option LineFault)) → held_event held ≡ Err number →
    wants_more held ≡ false → IfSome (held_then_come held lines fault) (λ file. file ≡ no_more (BadEvent number))
bad held number lines fault e whole = bad_at (is_reload held.head) held.ended (line_event held.head) held number lines fault e whole

-- an event that isn't of the grammar, from its first line on
pub bad_event_comes : (file : Option FileEvents) (head : List ℕ) (count number : ℕ) (first held : LinesHeld)
    (lines later : Option (List (List ℕ))) (fault then : Option (Option LineFault)) →
    (is_skipped head ≡ false) × (0 < count) × (file ≡ before_head head count lines fault) →
    first ≡ record { first = count; last = count; head = head; text = []; ended = false } →
    held_then_come first lines fault ≡ held_then_come held later then →
    held_event held ≡ Err number → wants_more held ≡ false → IfSome file (λ all. all ≡ no_more (BadEvent number))
bad_event_comes file head count number first held lines later fault then at_head is_first same e whole =
    let comes : file ≡ held_then_come held later then =
    at_head.2 ∙ begin head count lines fault at_head.0 at_head.1 ∙ ap (λ h. held_then_come h lines fault) (sym is_first) ∙ same in
    rw comes (bad held number later then e whole)
