-- The neighbours of a text with the options that hold for them.
use Rattle.std.specs.Prelude.{ℕ, List, Option, Some, map}
use Rattle.conf_tree.specs.declared.draft.GroupBlock.{GroupBlock}
use Rattle.conf_tree.specs.declared.draft.NeighbourBlock.{NeighbourBlock}
use Rattle.conf_tree.specs.Flat.{Placed}
use Rattle.conf_check.specs.declared.options.Settings.{Settings}
use Rattle.conf_check.specs.declared.placed.PlacedNeighbour.{PlacedNeighbour}
use Rattle.conf_check.specs.Options.{settings_of, settings_or}

-- a neighbour in a group of this name and of these options
unfoldable pub placed_with : Option (List ℕ) → Settings → NeighbourBlock → PlacedNeighbour
placed_with group shared block = record {
  line = block.line;
  address = block.address;
  group = group;
  settings = settings_or (settings_of block.options) shared;
}

-- what is kept of a neighbour and its group
abbrev pub seen : Placed → PlacedNeighbour
seen n = placed_with n.group (settings_of n.shared) n.block

abbrev pub members_of : GroupBlock → List PlacedNeighbour
members_of group = map (placed_with (Some group.name) (settings_of group.options)) group.neighbours
