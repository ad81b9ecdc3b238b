-- What a session is told goes by the best of its RIB.
use Rattle.std.proofs.Common.{◌≡◌, ℕ, Option, Some, None, option_and_then, refl, sym, ap, subst, ◌∙◌}
use Rattle.net_base.specs.declared.addr.Addr.{Addr}
use Rattle.net_base.specs.declared.prefix.Prefix.{Prefix}
use Rattle.bgp_wire.specs.declared.open.OpenFacts.{OpenFacts}
use Rattle.attr_model.specs.declared.attrs.Attrs.{Attrs}
use Rattle.conf_tree.specs.declared.conf.Conf.{Conf}
use Rattle.conf_tree.specs.declared.neighbour.Neighbour.{Neighbour}
use Rattle.decision.specs.declared.candidate.Candidate.{Candidate}
use Rattle.route_world.specs.declared.world.World.{World}
use Rattle.route_world.specs.declared.world.Session.{Session}
use Rattle.route_world.specs.World.{neighbour_at}
use Rattle.route_world.specs.Export.{export}
use Rattle.route_world.specs.Tables.{best_at, told_at}

abbrev told_of : Conf → OpenFacts → Prefix → (Neighbour → Option Candidate) → Option Neighbour → Option Attrs
told_of conf facts prefix best found = option_and_then (λ (neighbour : Neighbour). option_and_then (export conf facts neighbour prefix) (best neighbour)) found

told_is : (world : World) (session : Session) (prefix : Prefix) →
    told_at world session prefix ≡ told_of world.conf session.facts prefix (λ (neighbour : Neighbour). best_at world neighbour.rib prefix) (neighbour_at world.conf session.peer)
unfolding told_at
told_is world session prefix = refl

same_best : (conf : Conf) (facts : OpenFacts) (prefix : Prefix) (ones others : Neighbour → Option Candidate) (found : Option Neighbour) → ((neighbour : Neighbour) → found ≡ Some neighbour → ones neighbour ≡ others neighbour)
    → told_of conf facts prefix ones found ≡ told_of conf facts prefix others found
same_best conf facts prefix ones others None same = refl
same_best conf facts prefix ones others (Some neighbour) same = ap (option_and_then (export conf facts neighbour prefix)) (same neighbour refl)

pub told_same : (one other : World) (session twin : Session) (prefix : Prefix) → one.conf ≡ other.conf → session.peer ≡ twin.peer → session.facts ≡ twin.facts
    → ((neighbour : Neighbour) → neighbour_at one.conf session.peer ≡ Some neighbour → best_at one neighbour.rib prefix ≡ best_at other neighbour.rib prefix)
    → told_at one session prefix ≡ told_at other twin prefix
told_same one other session twin prefix conf peer facts best =
    let ones : Neighbour → Option Candidate = λ (neighbour : Neighbour). best_at one neighbour.rib prefix in
    let others : Neighbour → Option Candidate = λ (neighbour : Neighbour). best_at other neighbour.rib prefix in
    told_is one session prefix
    ∙ (same_best one.conf session.facts prefix ones others (neighbour_at one.conf session.peer) best
    ∙ (ap (λ (c : Conf). told_of c session.facts prefix others (neighbour_at c session.peer)) conf
    ∙ (ap (λ (f : OpenFacts). told_of other.conf f prefix others (neighbour_at other.conf session.peer)) facts
    ∙ (ap (λ (p : Addr). told_of other.conf twin.facts prefix others (neighbour_at other.conf p)) peer
    ∙ sym (told_is other twin prefix)))))
