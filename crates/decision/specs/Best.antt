-- The choice among the routes to one prefix (RFC 4271 section 9.1.2.2, with the steps of this speaker and in their order).
use Rattle.std.specs.Prelude.{ℕ, Bool, true, false, not, ◌&&◌, ◌==◌, nat_lt, List, filter, Option, Some, None, unwrap_or, slice_get}
use Rattle.std.specs.List.{list_any, flat_map}
use Rattle.std.specs.Ordering.{is_lt}
use Rattle.attr_model.specs.declared.path.Segment.{Segment}
use Rattle.attr_model.specs.Path.{path_length}
use Rattle.attr_model.specs.Valid.{numbers_of}
use Rattle.net_base.specs.declared.addr.Addr.{Addr}
use Rattle.net_base.specs.Order.{addr_cmp}
use Rattle.decision.specs.declared.candidate.Origin.{Origin}
use Rattle.decision.specs.declared.candidate.Origin.TheVariants.{Local, External, Internal}
use Rattle.decision.specs.declared.candidate.Candidate.{Candidate}

-- ---- what candidates are compared by

-- the first number of a path, sets included
abbrev pub first_number : List Segment → Option ℕ
first_number path = slice_get (flat_map numbers_of path) 0

-- the neighbour AS of an empty path is the own one
abbrev pub neighbour_as : Candidate → ℕ
neighbour_as candidate = unwrap_or (first_number candidate.attrs.attrs.path) candidate.own_as

-- an absent LOCAL_PREF counts 100
abbrev pub local_pref_of : Candidate → ℕ
local_pref_of candidate = unwrap_or candidate.attrs.attrs.local_pref 100

-- an absent MULTI_EXIT_DISC counts 0
abbrev pub med_of : Candidate → ℕ
med_of candidate = unwrap_or candidate.attrs.attrs.med 0

-- local before external before internal
abbrev pub kind_of : Origin → ℕ
kind_of Local = 0
kind_of (External peer) = 1
kind_of (Internal peer) = 2

abbrev pub peer_of : Origin → Option Addr
peer_of Local = None
peer_of (External peer) = Some peer
peer_of (Internal peer) = Some peer

-- a network before neighbours, then the least address
abbrev pub comes_first : Option Addr → Option Addr → Bool
comes_first None None = false
comes_first None (Some peer) = true
comes_first (Some peer) None = false
comes_first (Some peer) (Some other) = is_lt (addr_cmp peer other)

-- ---- the points in which one candidate is better than another

abbrev pub is_preferred : Candidate → Candidate → Bool
is_preferred one other = nat_lt (local_pref_of other) (local_pref_of one)

abbrev pub has_shorter_path : Candidate → Candidate → Bool
has_shorter_path one other = nat_lt (path_length one.attrs.attrs.path) (path_length other.attrs.attrs.path)

abbrev pub has_lower_origin : Candidate → Candidate → Bool
has_lower_origin one other = nat_lt one.attrs.attrs.origin other.attrs.attrs.origin

abbrev pub has_lower_med : Candidate → Candidate → Bool
has_lower_med one other = nat_lt (med_of one) (med_of other)

-- MEDs of different neighbour ASes are compared only where all are
abbrev pub has_lower_med_among : Bool → Candidate → Candidate → Bool
has_lower_med_among true one other = has_lower_med one other
has_lower_med_among false one other = (neighbour_as one == neighbour_as other) && has_lower_med one other

abbrev pub has_nearer_origin : Candidate → Candidate → Bool
has_nearer_origin one other = nat_lt (kind_of one.from) (kind_of other.from)

abbrev pub is_heavier : Candidate → Candidate → Bool
is_heavier one other = nat_lt other.attrs.attrs.weight one.attrs.attrs.weight

abbrev pub has_lower_id : Candidate → Candidate → Bool
has_lower_id one other = nat_lt one.bgp_id other.bgp_id

abbrev pub has_lower_peer : Candidate → Candidate → Bool
has_lower_peer one other = comes_first (peer_of one.from) (peer_of other.from)

-- ---- the choice

-- what is left when each candidate goes that another one of them beats
abbrev pub unbeaten : (Candidate → Candidate → Bool) → List Candidate → List Candidate
unbeaten beats candidates = filter (λ candidate. not (list_any (λ other. beats other candidate) candidates)) candidates

abbrev pub eligible_of : List Candidate → List Candidate
eligible_of candidates = filter (λ candidate. candidate.eligible) candidates

-- the list thinned step by step, each step among those that the steps before it left
unfoldable pub thinned : Bool → List Candidate → List Candidate
thinned always candidates =
    let preferred = unbeaten is_preferred (eligible_of candidates) in
    let shortest = unbeaten has_shorter_path preferred in
    let lowest_origin = unbeaten has_lower_origin shortest in
    let lowest_med = unbeaten (has_lower_med_among always) lowest_origin in
    let nearest = unbeaten has_nearer_origin lowest_med in
    let heaviest = unbeaten is_heavier nearest in
    let lowest_id = unbeaten has_lower_id heaviest in
    unbeaten has_lower_peer lowest_id

-- The best candidate: the one that is left, of which there is at most one where no two come from one place.
unfoldable pub best_of : Bool → List Candidate → Option Candidate
best_of always candidates = slice_get (thinned always candidates) 0
