-- A draft that has no more of anything than there is room for.
use Rattle.std.specs.Prelude.{◌≤◌, List, [], ◌∷◌, length}
use Rattle.conf_tree.specs.declared.draft.Statement.{Statement}
use Rattle.conf_tree.specs.declared.draft.Statement.TheVariants as says
use Rattle.conf_tree.specs.declared.draft.StatementLine.{StatementLine}
use Rattle.conf_tree.specs.RuleReading.{flat_rules_of}
use Rattle.conf_tree.specs.StatementReading.{Room, room_behind}

-- there is room for what the statement counts
abbrev pub Fits : Room → Statement → Type 0
Fits room (says.Listen listen) = 1 ≤ room.listens
Fits room (says.Rib name table) = 1 ≤ room.ribs
Fits room (says.PrefixSet name entries) = length entries ≤ room.entries
Fits room (says.AsSet name numbers) = length numbers ≤ room.entries
Fits room (says.OriginSet name entries) = length entries ≤ room.entries
Fits room (says.RoaSet entries) = length entries ≤ room.entries
Fits room (says.Network prefix set) = 1 ≤ room.networks
Fits room (says.Neighbour neighbour) = 1 ≤ room.neighbours
Fits room (says.Group group) = (1 ≤ room.groups) × (length group.neighbours ≤ room.neighbours)
Fits room (says.Rule rule) = flat_rules_of rule ≤ room.rules
Fits room _ = Unit {0}

-- each statement has the room that those before it leave
abbrev pub AllFit : Room → List StatementLine → Type 0
AllFit room [] = Unit {0}
AllFit room (line ∷ lines) = Fits room line.statement × AllFit (room_behind room line.statement) lines
