-- How the program ends: the code of each status, and its text on standard error.
use Rattle.std.specs.Prelude.{◌≡◌, ◌⊎◌, ℕ, List, [], ◌++◌, codes, decimal}
use Rattle.net_base.specs.declared.conf.ConfFault.{ConfFault}
use Rattle.net_base.specs.Conf.{kind_text}
use Rattle.bgpd_top.specs.Outside.{ErrorOutput, Tells}
use Rattle.bgpd_top.specs.Words.{usage_text}
use Rattle.bgpd_top.specs.declared.status.Status.{Status}
use Rattle.bgpd_top.specs.declared.status.Status.TheVariants.{Done, Refused, Usage, BadEvent, ReadFault, WriteFault, NoMemory, TooLong}

abbrev pub status_code : Status → ℕ
status_code Done = 0
status_code (Refused found) = 1
status_code Usage = 2
status_code (BadEvent line) = 3
status_code ReadFault = 4
status_code WriteFault = 5
status_code NoMemory = 7
status_code TooLong = 8

-- the file, the line and the kind of a fault
abbrev pub refused_text : List ℕ → ConfFault → List ℕ
refused_text name found = name ++ (codes ":" ++ (decimal found.line ++ (codes ": " ++ (kind_text found.kind ++ codes "\n"))))

-- what stands on standard error, where this is the file of the command
abbrev pub status_text : List ℕ → Status → List ℕ
status_text name Done = []
status_text name (Refused found) = refused_text name found
status_text name Usage = usage_text
status_text name (BadEvent line) = codes "line " ++ (decimal line ++ codes ": bad event\n")
status_text name ReadFault = codes "read fault\n"
status_text name WriteFault = codes "write fault\n"
status_text name NoMemory = codes "no memory\n"
status_text name TooLong = codes "too long\n"

-- nothing is done with standard error where the command is done, and else the status is told
abbrev pub ToldAs : List ℕ → Status → ErrorOutput → ErrorOutput → Type 0
ToldAs name Done old new = new ≡ old
ToldAs name (Refused found) old new = Tells (status_text name (Refused found)) old new
ToldAs name Usage old new = Tells (status_text name Usage) old new
ToldAs name (BadEvent line) old new = Tells (status_text name (BadEvent line)) old new
ToldAs name ReadFault old new = Tells (status_text name ReadFault) old new
ToldAs name WriteFault old new = Tells (status_text name WriteFault) old new
ToldAs name NoMemory old new = Tells (status_text name NoMemory) old new
ToldAs name TooLong old new = Tells (status_text name TooLong) old new

-- the status told is the one found, but that want of memory is told where there was none for the text of a fault
abbrev pub IsToldOf : Status → Status → Type 0
IsToldOf (Refused found) told = (told ≡ Refused found) ⊎ (told ≡ NoMemory)
IsToldOf found told = told ≡ found
