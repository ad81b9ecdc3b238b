-- Worlds that agree in what the candidates of a prefix go by.
use Rattle.std.specs.Prelude.{◌≡◌, ℕ, List, [], ◌∷◌, option_to_list}
use Rattle.std.specs.List.{AllByRecursion, flat_map}
use Rattle.net_base.specs.declared.addr.Addr.{Addr}
use Rattle.net_base.specs.declared.prefix.Prefix.{Prefix}
use Rattle.attr_model.specs.Routes.{route_at}
use Rattle.decision.specs.declared.candidate.Candidate.{Candidate}
use Rattle.route_world.specs.declared.world.World.{World}
use Rattle.route_world.specs.declared.world.Session.{Session}
use Rattle.route_world.specs.World.{is_valid}
use Rattle.route_world.specs.Import.{candidates}
use Rattle.route_world.specs.Tables.{hop_of}

-- one neighbour with the same facts, and the same route of the prefix
pub record HoldsSame (prefix : Prefix) (one other : Session) : Type 0 where
  pub peer : one.peer ≡ other.peer
  pub facts : one.facts ≡ other.facts
  pub route : route_at one.held prefix ≡ route_at other.held prefix

-- one after the other
abbrev pub HoldSame : Prefix → List Session → List Session → Type 0
HoldSame prefix [] [] = Unit {0}
HoldSame prefix [] (other ∷ others) = ⊥
HoldSame prefix (one ∷ ones) [] = ⊥
HoldSame prefix (one ∷ ones) (other ∷ others) = HoldsSame prefix one other × HoldSame prefix ones others

-- all that a prefix goes by, but for the answers for next hops
pub record AreSameAt (prefix : Prefix) (one other : World) : Type 0 where
  pub conf : one.conf ≡ other.conf
  pub sessions : HoldSame prefix one.sessions other.sessions

-- the next hops of the candidates that came from neighbours
abbrev pub hops_of : List Candidate → List Addr
hops_of found = flat_map (λ candidate. option_to_list (hop_of candidate)) found

abbrev pub hops_at : World → ℕ → Prefix → List Addr
hops_at world rib prefix = hops_of (candidates world rib prefix)

-- each of some next hops is valid in both or in none
abbrev pub HaveSameAnswers : World → World → List Addr → Type 0
HaveSameAnswers one other hops = AllByRecursion (λ hop. is_valid one hop ≡ is_valid other hop) hops
