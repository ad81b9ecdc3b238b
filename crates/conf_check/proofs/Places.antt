-- The neighbours of a group as they are kept.
use Rattle.std.proofs.Common.{◌≡◌, map}
use Rattle.std.proofs.lemmas.Simd.{map-map}
use Rattle.conf_tree.specs.declared.draft.GroupBlock.{GroupBlock}
use Rattle.conf_tree.specs.declared.draft.Statement.TheVariants as says
use Rattle.conf_tree.specs.Flat.{placed_in}
use Rattle.conf_check.specs.Placed.{seen, members_of}

pub members_seen : (group : GroupBlock) → map seen (placed_in (says.Group group)) ≡ members_of group
members_seen group = map-map _ _ group.neighbours
