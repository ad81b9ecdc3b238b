-- The candidates of a prefix, one session after the other.
use Rattle.std.proofs.Common.{◌≡◌, ℕ, List, [], ◌∷◌, ◌++◌, map, Option, Some, None, refl, sym, ap, ◌∙◌}
use Rattle.std.specs.Prelude.{option_map, option_to_list}
use Rattle.std.specs.List.{flat_map}
use Rattle.std.specs.Map.{values_of}
use Rattle.std.proofs.lemmas.List.{append_assoc}
use Rattle.std.proofs.lemmas.List.Concat.{flat_map-cons}
use Rattle.net_base.specs.declared.addr.Addr.{Addr}
use Rattle.net_base.specs.declared.prefix.Prefix.{Prefix}
use Rattle.adj_rib_in.specs.Held.{Held}
use Rattle.decision.specs.declared.candidate.Candidate.{Candidate}
use Rattle.decision.specs.declared.candidate.Found.{Found}
use Rattle.route_world.specs.declared.world.Session.{Session}
use Rattle.route_world.specs.Import.{import_at}
use Rattle.rde_view.specs.declared.live.Live.{Live}
use Rattle.rde_view.specs.View.{ViewState, session_of, world_of}
use Rattle.rde_view.specs.Import.{as_candidate}

-- the candidate of one session, as a list
abbrev pub import_of : ViewState → Held → ℕ → Prefix → Addr × Live → List Candidate
import_of view held rib prefix entry = option_to_list (import_at (world_of view held) rib (session_of view held entry.1) prefix)

pub flat_values : (f : Session → List Candidate) (view : ViewState) (held : Held) (es : List (Addr × Live))
    → flat_map f (map (session_of view held) (values_of es)) ≡ flat_map (λ (entry : Addr × Live). f (session_of view held entry.1)) es
flat_values f view held [] = refl
flat_values f view held (e ∷ es) =
    flat_map-cons f (session_of view held e.1) (map (session_of view held) (values_of es))
    ∙ ap (λ (xs : List Candidate). f (session_of view held e.1) ++ xs) (flat_values f view held es)
    ∙ sym (flat_map-cons (λ (entry : Addr × Live). f (session_of view held entry.1)) e es)

candidates_one : (found : List Found) (one : Option Found) → map as_candidate (found ++ option_to_list one) ≡ map as_candidate found ++ option_to_list (option_map as_candidate one)
candidates_one [] None = refl
candidates_one [] (Some c) = refl
candidates_one (x ∷ xs) one = ap (λ (ys : List Candidate). as_candidate x ∷ ys) (candidates_one xs one)

-- one session's candidate goes from those that are left to those that are found
pub found_step : (view : ViewState) (held : Held) (rib : ℕ) (prefix : Prefix) (e : Addr × Live) (es : List (Addr × Live)) (found : List Found) (one : Option Found)
    → option_map as_candidate one ≡ import_at (world_of view held) rib (session_of view held e.1) prefix
    → map as_candidate (found ++ option_to_list one) ++ flat_map (import_of view held rib prefix) es ≡ map as_candidate found ++ flat_map (import_of view held rib prefix) (e ∷ es)
found_step view held rib prefix e es found one is =
    ap (λ (xs : List Candidate). xs ++ flat_map (import_of view held rib prefix) es) (candidates_one found one)
    ∙ append_assoc (map as_candidate found) (option_to_list (option_map as_candidate one)) (flat_map (import_of view held rib prefix) es)
    ∙ ap (λ (o : Option Candidate). map as_candidate found ++ (option_to_list o ++ flat_map (import_of view held rib prefix) es)) is
    ∙ ap (λ (xs : List Candidate). map as_candidate found ++ xs) (sym (flat_map-cons (import_of view held rib prefix) e es))
