-- The routes of a RIB as they are shown, and how many different attributes the tables of a world hold.
use Rattle.std.specs.Prelude.{ℕ, zero, suc, Bool, true, false, List, [], ◌∷◌, ◌++◌, map, length, Option, Some, None, option_map, option_and_then, option_to_list, if◌then◌else◌}
use Rattle.std.specs.List.{flat_map, fold, list_any}
use Rattle.net_base.specs.declared.addr.Addr.{Addr}
use Rattle.net_base.specs.declared.prefix.Prefix.{Prefix}
use Rattle.attr_model.specs.declared.attrs.Attrs.{Attrs}
use Rattle.attr_model.specs.declared.row.Flag.{Flag}
use Rattle.attr_model.specs.declared.row.Flag.TheVariants.{Best, Eligible, Not}
use Rattle.attr_model.specs.declared.row.RouteRow.{RouteRow}
use Rattle.attr_model.specs.Routes.{route_at}
use Rattle.attr_model.specs.contracts.attrs.AttrsPartialEq.TheImpl.{eq-value as attrs_eq}
use Rattle.conf_tree.specs.declared.conf.Conf.{Conf}
use Rattle.decision.specs.declared.candidate.Candidate.{Candidate}
use Rattle.decision.specs.declared.candidate.Origin.{Origin}
use Rattle.decision.specs.Best.{best_of, peer_of}
use Rattle.filter_engine.specs.Conditions.{same_address}
use Rattle.route_world.specs.declared.world.World.{World}
use Rattle.route_world.specs.declared.world.Session.{Session}
use Rattle.route_world.specs.World.{known_prefixes}
use Rattle.route_world.specs.Import.{candidates}
use Rattle.route_world.specs.Tables.{told_at}

-- ---- the routes of a RIB

-- No two candidates of a prefix came from one place.
abbrev pub same_who : Option Addr → Option Addr → Bool
same_who None None = true
same_who None (Some other) = false
same_who (Some one) None = false
same_who (Some one) (Some other) = same_address one other

abbrev pub is_of : Option Origin → Origin → Bool
is_of None from = false
is_of (Some best) from = same_who (peer_of best) (peer_of from)

-- the best, one that may be chosen, or one that may not
abbrev pub flag_of : Option Origin → Candidate → Flag
flag_of best candidate = if is_of best candidate.from then Best else if candidate.eligible then Eligible else Not

abbrev pub row_of : Option Origin → Prefix → Candidate → RouteRow
row_of best prefix candidate = record {
  flag = flag_of best candidate;
  prefix = prefix;
  who = peer_of candidate.from;
  attrs = candidate.attrs.attrs;
}

abbrev pub rows_of : Bool → Prefix → List Candidate → List RouteRow
rows_of always prefix found = map (row_of (option_map (λ (best : Candidate). best.from) (best_of always found)) prefix) found

abbrev pub loc_at : World → ℕ → Prefix → List RouteRow
loc_at world rib prefix = rows_of world.conf.med_always prefix (candidates world rib prefix)

-- by prefix, the candidates of a RIB with the best among them
unfoldable pub loc : World → ℕ → List RouteRow
loc world rib = flat_map (loc_at world rib) (known_prefixes world)

-- ---- different attributes

-- those of a prefix: held, in the RIBs, and told
abbrev pub held_at : Prefix → Session → List Attrs
held_at prefix session = option_to_list (route_at session.held prefix)

abbrev pub rib_at : World → Prefix → ℕ → List Attrs
rib_at world prefix rib = map (λ (candidate : Candidate). candidate.attrs.attrs) (candidates world rib prefix)

abbrev pub told_to : World → Prefix → Session → List Attrs
told_to world prefix session = option_to_list (told_at world session prefix)

-- the numbers of the RIBs: Loc-RIB, and those of the configuration
abbrev pub below : ℕ → List ℕ
below zero = []
below (suc n) = below n ++ n ∷ []

abbrev pub rib_numbers : Conf → List ℕ
rib_numbers conf = below (suc (length conf.ribs))

abbrev pub attrs_at : World → Prefix → List Attrs
attrs_at world prefix =
    flat_map (held_at prefix) world.sessions
    ++ flat_map (rib_at world prefix) (rib_numbers world.conf)
    ++ flat_map (told_to world prefix) world.sessions

abbrev pub is_seen : List Attrs → Attrs → Bool
is_seen seen attrs = list_any (λ other. attrs_eq.it other attrs) seen

abbrev pub with_new : List Attrs → Attrs → List Attrs
with_new seen attrs = if is_seen seen attrs then seen else seen ++ attrs ∷ []

-- how many different attributes the held routes, the candidates of all RIBs and the told routes have
unfoldable pub distinct : World → ℕ
distinct world = length (fold with_new [] (flat_map (attrs_at world) (known_prefixes world)))
