-- The words that stand for a fault of a configuration.
use Rattle.std.specs.Prelude.{ℕ, List, ◌++◌, codes, decimal}
use Rattle.net_base.specs.declared.conf.Counted.{Counted}
use Rattle.net_base.specs.declared.conf.Counted.TheVariants.{Neighbours, Groups, Ribs, Rules, Networks, Entries, Conditions, Items, Listens, Names}
use Rattle.net_base.specs.declared.conf.ConfKind.{ConfKind}
use Rattle.net_base.specs.declared.conf.ConfKind.TheVariants.{TooLong, BadByte, OpenQuote, UnknownMacro, NotInProfile, UnexpectedWord, NumberRange, TooMany, NoAs, NoRouterId, DoubleName, DoubleNeighbour, UnknownName, FamilyMismatch, NotBuilt}
use Rattle.net_base.specs.declared.conf.ConfFault.{ConfFault}

abbrev pub counted_word : Counted → List ℕ
counted_word Neighbours = codes "neighbours"
counted_word Groups = codes "groups"
counted_word Ribs = codes "ribs"
counted_word Rules = codes "rules"
counted_word Networks = codes "networks"
counted_word Entries = codes "entries"
counted_word Conditions = codes "conditions"
counted_word Items = codes "items"
counted_word Listens = codes "listens"
counted_word Names = codes "names"

-- each kind is its own name
abbrev pub kind_text : ConfKind → List ℕ
kind_text TooLong = codes "TooLong"
kind_text BadByte = codes "BadByte"
kind_text OpenQuote = codes "OpenQuote"
kind_text UnknownMacro = codes "UnknownMacro"
kind_text NotInProfile = codes "NotInProfile"
kind_text UnexpectedWord = codes "UnexpectedWord"
kind_text NumberRange = codes "NumberRange"
kind_text (TooMany counted) = codes "TooMany " ++ counted_word counted
kind_text NoAs = codes "NoAs"
kind_text NoRouterId = codes "NoRouterId"
kind_text DoubleName = codes "DoubleName"
kind_text DoubleNeighbour = codes "DoubleNeighbour"
kind_text UnknownName = codes "UnknownName"
kind_text FamilyMismatch = codes "FamilyMismatch"
kind_text NotBuilt = codes "NotBuilt"

abbrev pub fault_text : ConfFault → List ℕ
fault_text fault = decimal fault.line ++ (codes " " ++ kind_text fault.kind)
