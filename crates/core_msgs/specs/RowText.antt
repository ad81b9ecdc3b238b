-- The rows of shows, each as its line without the LF.
use Rattle.std.specs.Prelude.{ℕ, Bool, true, false, List, [], ◌∷◌, ◌++◌, flat_map, codes, decimal, Option, None, Some, unwrap_or, if◌then◌else◌, ◌==◌}
use Rattle.net_base.specs.declared.addr.Addr.{Addr}
use Rattle.net_base.specs.Addr.{addr_text}
use Rattle.net_base.specs.Prefix.{prefix_text}
use Rattle.attr_model.specs.declared.attrs.Attrs.{Attrs}
use Rattle.attr_model.specs.declared.path.Segment.{Segment}
use Rattle.attr_model.specs.declared.path.Segment.TheVariants.{Set, Sequence}
use Rattle.attr_model.specs.declared.row.Flag.{Flag}
use Rattle.attr_model.specs.declared.row.Flag.TheVariants.{Best, Eligible, Not, Held}
use Rattle.attr_model.specs.declared.row.RouteRow.{RouteRow}
use Rattle.conf_tree.specs.declared.sets.SetKind.{SetKind}
use Rattle.conf_tree.specs.declared.sets.SetKind.TheVariants as set
use Rattle.core_msgs.specs.declared.row.State.{State}
use Rattle.core_msgs.specs.declared.row.State.TheVariants as state
use Rattle.core_msgs.specs.declared.row.Coupling.{Coupling}
use Rattle.core_msgs.specs.declared.row.Coupling.TheVariants.{Coupled, Decoupled, Lost}
use Rattle.core_msgs.specs.declared.row.Row.{Row}
use Rattle.core_msgs.specs.declared.row.Row.TheVariants as row

abbrev pub flag_text : Flag → List ℕ
flag_text Best = codes ">"
flag_text Eligible = codes "*"
flag_text Not = codes "-"
flag_text Held = codes "="

-- the neighbour that a route came from, or went to
abbrev pub who_text : Option Addr → List ℕ
who_text None = codes "local"
who_text (Some address) = addr_text address

-- ORIGIN by its word (RFC 4271 section 4.3)
abbrev pub origin_text : ℕ → List ℕ
origin_text origin = if origin == 0 then codes "igp" else (if origin == 1 then codes "egp" else codes "incomplete")

-- the numbers of a set, with commas between them
abbrev pub set_text : List ℕ → List ℕ
set_text [] = []
set_text (n ∷ numbers) = decimal n ++ flat_map (λ m. codes "," ++ decimal m) numbers

-- a segment, with a blank before each number and before a set
abbrev pub segment_text : Segment → List ℕ
segment_text (Sequence numbers) = flat_map (λ n. codes " " ++ decimal n) numbers
segment_text (Set numbers) = codes " {" ++ (set_text numbers ++ codes "}")

-- a path, with a blank before it
abbrev pub path_text : List Segment → List ℕ
path_text [] = codes " -"
path_text (segment ∷ segments) = flat_map segment_text (segment ∷ segments)

-- the attributes that are shown; an absent LOCAL_PREF counts 100, an absent MED 0
abbrev pub attrs_text : Attrs → List ℕ
attrs_text a =
    codes " nexthop " ++ (addr_text a.hop ++ (codes " lp " ++ (decimal (unwrap_or a.local_pref 100)
    ++ (codes " med " ++ (decimal (unwrap_or a.med 0) ++ (codes " weight " ++ (decimal a.weight
    ++ (codes " origin " ++ (origin_text a.origin ++ codes " path")))))))))

-- a route, where `from` or `to` stands before the neighbour
abbrev pub route_text : List ℕ → RouteRow → List ℕ
route_text word r =
    ((flag_text r.flag ++ (codes " " ++ (prefix_text r.prefix ++ (codes " " ++ (word ++ codes " ")))))
    ++ who_text r.who) ++ (attrs_text r.attrs ++ path_text r.attrs.path)

-- the state of a session (RFC 4271 section 8.2.2), and Down for one that is administratively down
abbrev pub state_word : State → List ℕ
state_word state.Down = codes "Down"
state_word state.Idle = codes "Idle"
state_word state.Connect = codes "Connect"
state_word state.Active = codes "Active"
state_word state.OpenSent = codes "OpenSent"
state_word state.OpenConfirm = codes "OpenConfirm"
state_word state.Established = codes "Established"

-- a neighbour in one line: its address, its AS number and its state
abbrev pub summary_text : Addr → ℕ → State → List ℕ
summary_text peer asn state = addr_text peer ++ (codes " AS " ++ (decimal asn ++ (codes " " ++ state_word state)))

-- the same, the hold time in seconds, and how many bytes wait to be sent
abbrev pub neighbour_text : Addr → ℕ → State → ℕ → ℕ → List ℕ
neighbour_text peer asn state hold outbox =
    summary_text peer asn state ++ (codes " hold " ++ (decimal hold ++ (codes " outbox " ++ decimal outbox)))

-- a kind of set as its statement is spelled
abbrev pub set_word : SetKind → List ℕ
set_word set.Prefix = codes "prefix-set"
set_word set.As = codes "as-set"
set_word set.Origin = codes "origin-set"

abbrev pub coupling_word : Coupling → List ℕ
coupling_word Coupled = codes "coupled"
coupling_word Decoupled = codes "decoupled"
coupling_word Lost = codes "lost"

abbrev pub valid_word : Bool → List ℕ
valid_word true = codes "valid"
valid_word false = codes "invalid"

abbrev pub row_text : Row → List ℕ
row_text (row.Route route) = route_text (codes "from") route
row_text (row.Told route) = route_text (codes "to") route
row_text (row.Summary peer asn state) = summary_text peer asn state
row_text (row.Neighbour peer asn state hold outbox) = neighbour_text peer asn state hold outbox
row_text (row.Set kind name count) = (set_word kind ++ codes " ") ++ (name ++ (codes " " ++ decimal count))
row_text (row.RoaSet count) = codes "roa-set - " ++ decimal count
row_text (row.KernelTable number rib state) = (decimal number ++ codes " ") ++ (rib ++ (codes " " ++ coupling_word state))
row_text (row.FibTable number) = codes "table " ++ decimal number
row_text (row.FibRow prefix hop) = prefix_text prefix ++ (codes " via " ++ addr_text hop)
row_text (row.Nexthop hop valid) = addr_text hop ++ (codes " " ++ valid_word valid)
row_text (row.Distinct count) = codes "distinct " ++ decimal count
