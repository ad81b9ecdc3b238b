-- A configuration with its neighbours and rules.
use Rattle.std.specs.Prelude.{List}
use Rattle.conf_tree.specs.declared.conf.Conf.{Conf}
use Rattle.conf_tree.specs.declared.draft.StatementLine.{StatementLine}
use Rattle.conf_tree.specs.Flat.{rules_of}
use Rattle.conf_check.specs.declared.placed.PlacedNeighbour.{PlacedNeighbour}
use Rattle.conf_check.specs.Neighbours.{neighbours_with}

unfoldable pub expanded : Conf → List StatementLine → List PlacedNeighbour → Conf
expanded conf lines all = record conf {
  neighbours = neighbours_with conf all;
  rules = rules_of conf lines;
}
