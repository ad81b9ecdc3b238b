-- The text of an answer: report lines, and then the line that ends it, each with its LF.
use Rattle.std.specs.Prelude.{ℕ, List, [], ◌∷◌, ◌++◌, flat_map, codes, decimal}
use Rattle.hex.specs.Hex.{encode_lower}
use Rattle.net_base.specs.declared.addr.Addr.{Addr}
use Rattle.net_base.specs.Addr.{addr_text}
use Rattle.net_base.specs.Conf.{fault_text}
use Rattle.core_msgs.specs.declared.answer.Answer.{Answer}
use Rattle.core_msgs.specs.declared.answer.Line.{Line}
use Rattle.core_msgs.specs.declared.answer.Line.TheVariants as line
use Rattle.core_msgs.specs.declared.answer.Refusal.{Refusal}
use Rattle.core_msgs.specs.declared.answer.Refusal.TheVariants as refusal
use Rattle.core_msgs.specs.declared.parts.PartName.{PartName}
use Rattle.core_msgs.specs.declared.parts.PartName.TheVariants as part
use Rattle.core_msgs.specs.EventText.{link_word}
use Rattle.core_msgs.specs.RowText.{row_text}

abbrev pub refusal_text : Refusal → List ℕ
refusal_text refusal.UnknownNeighbour = codes "UnknownNeighbour"
refusal_text refusal.UnknownTable = codes "UnknownTable"
refusal_text refusal.UnknownRib = codes "UnknownRib"
refusal_text refusal.AdminDown = codes "AdminDown"
refusal_text refusal.AlreadyOpen = codes "AlreadyOpen"
refusal_text refusal.NoConnection = codes "NoConnection"
refusal_text refusal.NoRefresh = codes "NoRefresh"
refusal_text (refusal.BadWord position) = codes "BadWord " ++ decimal position
refusal_text (refusal.UnderWay generation) = codes "UnderWay " ++ decimal generation
refusal_text (refusal.TimeBack moment) = codes "TimeBack " ++ decimal moment
refusal_text refusal.NotBuilt = codes "NotBuilt"
refusal_text refusal.NoMemory = codes "NoMemory"

abbrev pub part_text : PartName → List ℕ
part_text (part.Link link) = codes "link " ++ link_word link
part_text part.Reload = codes "reload"
part_text (part.Rib name) = codes "rib " ++ name
part_text (part.Kernel table) = codes "kernel " ++ decimal table
part_text (part.Queue peer) = codes "queue " ++ addr_text peer
part_text (part.Outbox peer) = codes "outbox " ++ addr_text peer

-- addresses, with a blank before each
abbrev pub peers_text : List Addr → List ℕ
peers_text peers = flat_map (λ peer. codes " " ++ addr_text peer) peers

-- the code and the subcode of a NOTIFICATION
abbrev pub notification_text : ℕ → ℕ → List ℕ
notification_text code sub = decimal code ++ (codes " " ++ decimal sub)

abbrev pub line_text : Line → List ℕ
line_text (line.Up peer) = codes "up " ++ addr_text peer
line_text (line.Down peer code sub) = codes "down " ++ (addr_text peer ++ (codes " " ++ notification_text code sub))
line_text (line.DownMaxPrefix peer held most) =
    codes "down " ++ (addr_text peer ++ (codes " 6 1 held " ++ (decimal held ++ (codes " max " ++ decimal most))))
line_text (line.DownLost peer) = codes "down " ++ (addr_text peer ++ codes " lost")
line_text (line.DownReceived peer code sub) =
    codes "down " ++ (addr_text peer ++ (codes " received " ++ notification_text code sub))
line_text (line.Sent peer bytes) = codes "sent " ++ (addr_text peer ++ (codes " " ++ encode_lower bytes))
line_text (line.Last peer bytes) = codes "last " ++ (addr_text peer ++ (codes " " ++ encode_lower bytes))
line_text (line.Connect peer) = codes "connect " ++ addr_text peer
line_text (line.AppliedSession generation) = codes "applied s " ++ decimal generation
line_text (line.AppliedDecision generation) = codes "applied r " ++ decimal generation
line_text (line.Reloaded generation) = codes "reloaded " ++ decimal generation
line_text (line.KernelLost table) = codes "kernel lost " ++ decimal table
line_text (line.Row row) = row_text row
line_text line.Ok = codes "ok"
line_text (line.OkGeneration generation) = codes "ok " ++ decimal generation
line_text (line.RefusedText fault) = codes "refused " ++ fault_text fault
line_text (line.Refused why) = codes "refused " ++ refusal_text why
line_text line.Quiet = codes "quiet"
line_text (line.QuietExcept peers) = codes "quiet except" ++ peers_text peers
line_text (line.Pending part) = codes "pending " ++ part_text part

-- a line with its LF
abbrev pub ended_line : Line → List ℕ
ended_line l = line_text l ++ (10 ∷ [])

abbrev pub answer_text : Answer → List ℕ
answer_text answer = flat_map ended_line answer.lines ++ ended_line answer.last
