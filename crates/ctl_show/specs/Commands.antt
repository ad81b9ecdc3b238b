-- The control commands by their words (bgpctl(8)).
use Rattle.std.specs.Prelude.{◌≡◌, ℕ, ◌+◌, ◌^◌, max, Bool, true, false, ◌&&◌, List, [], ◌∷◌, ◌++◌, length, slice_get, Option, Some, None, Result, Ok, Err, is_some, option_map, option_and_then, ◌==◌, nat_le, bytes_eq, codes, if◌then◌else◌}
use Rattle.std.specs.Option.{ok_or, option_or}
use Rattle.std.specs.Result.{result_ok}
use Rattle.conf_tree.specs.Names.{is_name}
use Rattle.net_base.specs.Number.{read_number}
use Rattle.net_base.specs.declared.addr.Addr.{Addr}
use Rattle.net_base.specs.Addr.{read_addr}
use Rattle.core_msgs.specs.declared.control.CtlCommand.{CtlCommand}
use Rattle.core_msgs.specs.declared.control.CtlCommand.TheVariants as command
use Rattle.core_msgs.specs.declared.control.SessionAction.{SessionAction}
use Rattle.core_msgs.specs.declared.control.SessionAction.TheVariants as action
use Rattle.ctl_show.specs.declared.pieces.Piece.{Piece}
use Rattle.ctl_show.specs.declared.pieces.Piece.TheVariants as piece
use Rattle.ctl_show.specs.declared.read.CtlFault.{CtlFault}
use Rattle.ctl_show.specs.declared.read.CtlFault.TheVariants.{BadWord, NoMemory}

-- ---- what can stand at a place of a command

-- a name of the configuration, of at most 31 bytes
abbrev pub is_table_name : List ℕ → Bool
is_table_name word = is_name word && nat_le (length word) 31

-- a number below 2^32
abbrev pub number_of_word : List ℕ → Option ℕ
number_of_word word = result_ok (read_number (2 ^ 32) word)

-- the word can stand where this piece is
abbrev pub fits : Piece → List ℕ → Bool
fits piece.Show word = bytes_eq word (codes "show")
fits piece.Summary word = bytes_eq word (codes "summary")
fits piece.Neighbor word = bytes_eq word (codes "neighbor")
fits piece.Sets word = bytes_eq word (codes "sets")
fits piece.Tables word = bytes_eq word (codes "tables")
fits piece.Rib word = bytes_eq word (codes "rib")
fits piece.Table word = bytes_eq word (codes "table")
fits piece.In word = bytes_eq word (codes "in")
fits piece.Out word = bytes_eq word (codes "out")
fits piece.Memory word = bytes_eq word (codes "memory")
fits piece.Fib word = bytes_eq word (codes "fib")
fits piece.Nexthop word = bytes_eq word (codes "nexthop")
fits piece.Couple word = bytes_eq word (codes "couple")
fits piece.Decouple word = bytes_eq word (codes "decouple")
fits piece.Up word = bytes_eq word (codes "up")
fits piece.Down word = bytes_eq word (codes "down")
fits piece.Clear word = bytes_eq word (codes "clear")
fits piece.Refresh word = bytes_eq word (codes "refresh")
fits piece.Peer word = is_some (read_addr word)
fits piece.Name word = is_table_name word
fits piece.Number word = is_some (number_of_word word)

-- how many words, from the first on, follow a command of these pieces
unfoldable pub run : List Piece → List (List ℕ) → ℕ
run [] words = 0
run (p ∷ pieces) [] = 0
run (p ∷ pieces) (word ∷ words) = if fits p word then 1 + run pieces words else 0

-- the words are a command of these pieces
abbrev pub is_of : List Piece → List (List ℕ) → Bool
is_of pieces words = (run pieces words == length pieces) && (length words == length pieces)

-- ---- the values in a command

-- the address that is the word with this number, counted from 0
abbrev pub peer_at : ℕ → List (List ℕ) → Option Addr
peer_at n words = option_and_then read_addr (slice_get words n)

abbrev pub number_at : ℕ → List (List ℕ) → Option ℕ
number_at n words = option_and_then number_of_word (slice_get words n)

-- ---- the commands

-- a command: its pieces, and what words that are of them say
pub record Form : Type 0 where
  pub pieces : List Piece
  pub says : List (List ℕ) → Option CtlCommand

abbrev pub form : List Piece → (List (List ℕ) → Option CtlCommand) → Form
form pieces says = record { pieces = pieces; says = says }

abbrev pub plain : List Piece → CtlCommand → Form
plain pieces c = form pieces (λ words. Some c)

abbrev pub show_forms : List Form
show_forms =
    plain (piece.Show ∷ piece.Summary ∷ []) command.ShowSummary
    ∷ plain (piece.Show ∷ piece.Neighbor ∷ []) (command.ShowNeighbour None)
    ∷ form (piece.Show ∷ piece.Neighbor ∷ piece.Peer ∷ []) (λ words. option_map (λ peer. command.ShowNeighbour (Some peer)) (peer_at 2 words))
    ∷ plain (piece.Show ∷ piece.Sets ∷ []) command.ShowSets
    ∷ plain (piece.Show ∷ piece.Tables ∷ []) command.ShowTables
    ∷ plain (piece.Show ∷ piece.Nexthop ∷ []) command.ShowNexthop
    ∷ plain (piece.Show ∷ piece.Fib ∷ []) (command.ShowFib None)
    ∷ form (piece.Show ∷ piece.Fib ∷ piece.Table ∷ piece.Number ∷ []) (λ words. option_map (λ n. command.ShowFib (Some n)) (number_at 3 words))
    ∷ []

abbrev pub rib_forms : List Form
rib_forms =
    plain (piece.Show ∷ piece.Rib ∷ []) (command.ShowRib None)
    ∷ form (piece.Show ∷ piece.Rib ∷ piece.Table ∷ piece.Name ∷ []) (λ words. option_map (λ name. command.ShowRib (Some name)) (slice_get words 3))
    ∷ plain (piece.Show ∷ piece.Rib ∷ piece.In ∷ []) command.ShowRibIn
    ∷ plain (piece.Show ∷ piece.Rib ∷ piece.Out ∷ []) command.ShowRibOut
    ∷ plain (piece.Show ∷ piece.Rib ∷ piece.Memory ∷ []) command.ShowRibMemory
    ∷ []

abbrev pub fib_forms : List Form
fib_forms =
    plain (piece.Fib ∷ piece.Couple ∷ []) (command.Couple None true)
    ∷ plain (piece.Fib ∷ piece.Decouple ∷ []) (command.Couple None false)
    ∷ form (piece.Fib ∷ piece.Table ∷ piece.Number ∷ piece.Couple ∷ []) (λ words. option_map (λ n. command.Couple (Some n) true) (number_at 2 words))
    ∷ form (piece.Fib ∷ piece.Table ∷ piece.Number ∷ piece.Decouple ∷ []) (λ words. option_map (λ n. command.Couple (Some n) false) (number_at 2 words))
    ∷ []

-- `neighbor`, its address, and what is done to its session
abbrev pub neighbour_form : Piece → SessionAction → Form
neighbour_form word action =
    form (piece.Neighbor ∷ piece.Peer ∷ word ∷ []) (λ words. option_map (λ peer. command.Neighbour peer action) (peer_at 1 words))

abbrev pub neighbour_forms : List Form
neighbour_forms =
    neighbour_form piece.Up action.Up ∷ neighbour_form piece.Down action.Down
    ∷ neighbour_form piece.Clear action.Clear ∷ neighbour_form piece.Refresh action.Refresh ∷ []

abbrev pub forms : List Form
forms = show_forms ++ rib_forms ++ fib_forms ++ neighbour_forms

-- ---- reading

-- the command that the words are, if they are one of these
abbrev pub found : List Form → List (List ℕ) → Option CtlCommand
found [] words = None
found (f ∷ rest) words = option_or (if is_of f.pieces words then f.says words else None) (found rest words)

-- the longest run of words that follow one of these commands, if it is longer than this
abbrev pub longest : List Form → ℕ → List (List ℕ) → ℕ
longest [] most words = most
longest (f ∷ rest) most words = longest rest (max most (run f.pieces words)) words

-- The command that the words are. Otherwise the word behind the longest run of words that follow some command is the
-- first that can't follow, counted from 1; where the words end with that run, it is the one that is missing.
abbrev pub command_of : List (List ℕ) → Result CtlCommand ℕ
command_of words = ok_or (found forms words) (longest forms 0 words + 1)

-- what is read is that command, and a bad word stands at that place, unless memory was refused
abbrev pub ReadsCommand : Result CtlCommand ℕ → Result CtlCommand CtlFault → Type 0
ReadsCommand defined (Ok c) = defined ≡ Ok c
ReadsCommand defined (Err (BadWord position)) = defined ≡ Err position
ReadsCommand defined (Err NoMemory) = Unit {0}
