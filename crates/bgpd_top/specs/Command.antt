-- The commands, by the words of the command line.
use Rattle.std.specs.Prelude.{◌&&◌, ℕ, true, false, List, [], ◌∷◌, Option, None, Some, codes, bytes_eq, if◌then◌else◌}
use Rattle.bgpd_top.specs.declared.program.Command.{Command}
use Rattle.bgpd_top.specs.declared.program.Command.TheVariants.{Help, Version, Replay, Check}

-- the command that one word is
abbrev pub word_command : List ℕ → Option Command
word_command word =
    if bytes_eq word (codes "replay") then Some Replay
    else (if bytes_eq word (codes "--help") then Some Help
    else (if bytes_eq word (codes "--version") then Some Version
    else None))

-- `-n -f`, and `-n -v -f`, before the name of a file
abbrev pub check_command : List ℕ → List ℕ → Option Command
check_command first second = if bytes_eq first (codes "-n") && bytes_eq second (codes "-f") then Some (Check false) else None

abbrev pub verbose_command : List ℕ → List ℕ → List ℕ → Option Command
verbose_command first second third =
    if (bytes_eq first (codes "-n") && bytes_eq second (codes "-v")) && bytes_eq third (codes "-f") then Some (Check true) else None

-- the command that the words are
abbrev pub command_of : List (List ℕ) → Option Command
command_of (word ∷ []) = word_command word
command_of (first ∷ second ∷ file ∷ []) = check_command first second
command_of (first ∷ second ∷ third ∷ file ∷ []) = verbose_command first second third
command_of _ = None

-- the file that the last word of a check names
abbrev pub file_named : List (List ℕ) → List ℕ
file_named (first ∷ second ∷ file ∷ []) = file
file_named (first ∷ second ∷ third ∷ file ∷ []) = file
file_named _ = []
