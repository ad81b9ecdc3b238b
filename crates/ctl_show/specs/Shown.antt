-- The rows that a show prints, each with its LF.
use Rattle.std.specs.Prelude.{ℕ, List, [], ◌∷◌, ◌++◌, flat_map, codes}
use Rattle.core_msgs.specs.declared.control.CtlCommand.{CtlCommand}
use Rattle.core_msgs.specs.declared.control.CtlCommand.TheVariants.{ShowSummary, ShowRibOut}
use Rattle.core_msgs.specs.declared.row.Row.{Row}
use Rattle.core_msgs.specs.declared.row.Row.TheVariants.{Route, Neighbour}
use Rattle.core_msgs.specs.RowText.{row_text, route_text, summary_text}

-- A row as a command shows it: `show summary` shows a neighbour without its session, and `show rib out` says where a
-- route went.
abbrev pub shown : CtlCommand → Row → List ℕ
shown ShowSummary (Neighbour peer asn state hold outbox) = summary_text peer asn state
shown ShowRibOut (Route route) = route_text (codes "to") route
shown command row = row_text row

abbrev pub shown_line : CtlCommand → Row → List ℕ
shown_line command row = shown command row ++ (10 ∷ [])
