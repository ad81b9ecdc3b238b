-- A list in order, each item once.
use Rattle.std.specs.Prelude.{List, [], fold}
use Rattle.std.specs.declared.cmp.Ordering.{Ordering}
use Rattle.std.specs.BTreeSet.{insert_key}

-- the items, each put in its place unless it is there
abbrev pub ascending : {X : Type 0} → (X → X → Ordering) → List X → List X
ascending cmp items = fold (insert_key cmp) [] items
