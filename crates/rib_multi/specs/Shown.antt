-- The rows of a RIB as routes are shown.
use Rattle.std.specs.Prelude.{Bool, true, false, List, map, Option, Some, None, if◌then◌else◌}
use Rattle.std.specs.List.{flat_map}
use Rattle.net_base.specs.declared.prefix.Prefix.{Prefix}
use Rattle.attr_model.specs.declared.row.Flag.{Flag}
use Rattle.attr_model.specs.declared.row.Flag.TheVariants.{Best, Eligible, Not}
use Rattle.attr_model.specs.declared.row.RouteRow.{RouteRow}
use Rattle.decision.specs.declared.candidate.Candidate.{Candidate}
use Rattle.decision.specs.contracts.candidate.OriginPartialEq.TheImpl.{eq-value as same_origin}
use Rattle.decision.specs.Best.{best_of, peer_of}
use Rattle.rib_multi.specs.Rows.{Kept, RibState}

-- whether a candidate comes from where the best does
abbrev pub is_best : Option Candidate → Candidate → Bool
is_best None candidate = false
is_best (Some best) candidate = same_origin.it candidate.from best.from

abbrev pub flag_of : Option Candidate → Candidate → Flag
flag_of best candidate = if is_best best candidate then Best else (if candidate.eligible then Eligible else Not)

abbrev pub route_of : Prefix → Option Candidate → Candidate → RouteRow
route_of prefix best candidate = record { flag = flag_of best candidate; prefix = prefix; who = peer_of candidate.from; attrs = candidate.attrs.attrs }

-- the routes of one row, in the order in which its candidates were given
abbrev pub routes_of : Prefix → Kept → List RouteRow
routes_of prefix row = map (route_of prefix (best_of row.always row.candidates)) row.candidates

-- by prefix
abbrev pub routes_in : RibState → List RouteRow
routes_in rib = flat_map (λ entry. routes_of entry.0 entry.1) rib.rows
