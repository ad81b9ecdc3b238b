-- Which rules an evaluation can pass over: each stands in a bucket by its direction, RIB and neighbours.
use Rattle.std.specs.Prelude.{◌≡◌, ◌≢◌, ℕ, ◌+◌, ◌*◌, ◌%◌, ◌<◌, ◌≤◌, List, [], ◌∷◌, ◌++◌, length, map, slice_index, Option, Some, None, if◌then◌else◌}
use Rattle.std.specs.List.{fold}
use Rattle.conf_tree.specs.declared.rule.Peer.{Peer}
use Rattle.conf_tree.specs.declared.rule.Peer.TheVariants as peer
use Rattle.conf_tree.specs.declared.rule.Direction.{Direction}
use Rattle.conf_tree.specs.declared.rule.Direction.TheVariants as goes
use Rattle.conf_tree.specs.declared.rule.Rule.{Rule}
use Rattle.filter_engine.specs.declared.context.Context.{Context}
use Rattle.filter_engine.specs.declared.skips.SkipTable.{SkipTable}

-- ---- buckets

-- the RIB of the routes that come in, 256 where a rule speaks of each RIB, and 257 for routes that go out
abbrev pub way_number : Direction → Option ℕ → ℕ
way_number goes.To rib = 257
way_number goes.From None = 256
way_number goes.From (Some rib) = rib

-- names, and addresses below, by a remainder: rules of two neighbours may meet in one bucket
abbrev pub name_number : List ℕ → ℕ
name_number name = fold (λ number byte. (number * 31 + byte) % 4294967291) 0 name

abbrev pub peer_number : Peer → ℕ
peer_number peer.Any = 0
peer_number peer.Ebgp = 1
peer_number peer.Ibgp = 2
peer_number (peer.Address address) = 3 + 8 * (address.bits % 4294967291)
peer_number (peer.Group name) = 4 + 8 * name_number name
peer_number (peer.As asn) = 5 + 8 * asn

unfoldable pub bucket : ℕ → ℕ → ℕ → ℕ
bucket count way number = (way + 512 * number) % count

abbrev pub bucket_of : ℕ → Rule → ℕ
bucket_of count rule = bucket count (way_number rule.direction rule.rib) (peer_number rule.peer)

-- ---- what a route asks for

abbrev pub group_number : Option (List ℕ) → ℕ
group_number None = 0
group_number (Some name) = 4 + 8 * name_number name

-- the rules for each neighbour, for its kind, its address, its group and its AS
abbrev pub peers_wanted : Context → List ℕ
peers_wanted context =
    0 ∷ (if context.external then 1 else 2) ∷ (3 + 8 * (context.peer.bits % 4294967291)) ∷ group_number context.group
    ∷ (5 + 8 * context.peer_as) ∷ []

-- the rules for each RIB
abbrev pub wide_way : Context → ℕ
wide_way context = if context.to then 257 else 256

-- the rules for this RIB
abbrev pub narrow_way : Context → ℕ
narrow_way context = if context.to then 257 else context.rib

-- the buckets of the rules that can be for a route
abbrev pub wanted : ℕ → Context → List ℕ
wanted count context =
    map (bucket count (wide_way context)) (peers_wanted context) ++ map (bucket count (narrow_way context)) (peers_wanted context)

-- ---- the table

-- a place is that of the next rule in a bucket, or behind the rules where there is none
pub record IsNext (buckets : List ℕ) (wanted from place : ℕ) : Type 0 where
  pub ahead : from ≤ place
  pub clear : (at : ℕ) → from ≤ at → at < place → at < length buckets → slice_index buckets at ≢ wanted
  pub there : place < length buckets → slice_index buckets place ≡ wanted

-- the places in the ten buckets that a route asks for
abbrev pub AreNext : List ℕ → List ℕ → ℕ → List ℕ → Type 0
AreNext buckets wanted from places = (k : ℕ) → k < 10 → IsNext buckets (slice_index wanted k) from (slice_index places k)

-- from a rule on, each bucket leads to its next rule, and each rule to the next one in its bucket
pub record AreLinked (from : ℕ) (buckets heads next : List ℕ) : Type 0 where
  pub many : length next ≡ length buckets
  pub within : (at : ℕ) → at < length buckets → slice_index buckets at < length heads
  pub first : (wanted : ℕ) → wanted < length heads → IsNext buckets wanted from (slice_index heads wanted)
  pub later : (at : ℕ) → from ≤ at → at < length buckets → IsNext buckets (slice_index buckets at) (at + 1) (slice_index next at)

-- the table was built from the rules
pub record IsBuilt (table : SkipTable) (rules : List Rule) : Type 0 where
  pub some : 0 < length table.heads.items
  pub placed : table.buckets.items ≡ map (bucket_of (length table.heads.items)) rules
  pub linked : AreLinked 0 table.buckets.items table.heads.items table.next.items
