-- A configuration on its way to another core: the items of its stage, and what an assembly takes of them.
use Rattle.std.specs.Prelude.{◌≡◌, ◌≤◌, ℕ, zero, suc, ◌+◌, Bool, true, false, ◌&&◌, ◌==◌, nat_le, List, [], ◌∷◌, ◌++◌, length, take, drop, map, fold, Result, Ok, Err}
use Rattle.conf_tree.specs.declared.conf.Conf.{Conf}
use Rattle.conf_tree.specs.Canonical.{canonical}
use Rattle.conf_tree.specs.Language.{most_canonical_bytes, configuration_within}
use Rattle.reload_stage.specs.declared.item.StageItem.{StageItem}
use Rattle.reload_stage.specs.declared.item.StageItem.TheVariants.{Begin, Piece, Commit}
use Rattle.reload_stage.specs.declared.assembly.Progress.{Progress}
use Rattle.reload_stage.specs.declared.assembly.Progress.TheVariants.{Nothing, Begun, Whole}
use Rattle.reload_stage.specs.declared.fault.StageFault.{StageFault}
use Rattle.reload_stage.specs.declared.fault.StageFault.TheVariants as faults

-- A configuration that a text says: its canonical text is no longer than the text of a stage may be, and says it again.
pub record CanBeStaged (conf : Conf) : Type 0 where
  pub short : length (canonical conf) ≤ most_canonical_bytes
  pub reads_back : configuration_within most_canonical_bytes (canonical conf) ≡ Ok conf

-- the most bytes of a piece
abbrev pub most_piece_bytes : ℕ
most_piece_bytes = 16000

-- The first n parts of a text: all have so many bytes, but the last one of the text may have fewer.
unfoldable pub parts_in : ℕ → ℕ → List ℕ → List (List ℕ)
parts_in size zero text = []
parts_in size (suc n) [] = []
parts_in size (suc n) (b ∷ text) = take size (b ∷ text) ∷ parts_in size n (drop size (b ∷ text))

-- all parts of a text
abbrev pub parts : ℕ → List ℕ → List (List ℕ)
parts size text = parts_in size (length text) text

-- a text as the items between its Begin and its Commit
abbrev pub pieces : List ℕ → List StageItem
pieces text = map Piece (parts most_piece_bytes text)

-- The items of the stage of a generation with this text.
abbrev pub stage_items : ℕ → List ℕ → List StageItem
stage_items generation text = (Begin generation (length text) ∷ pieces text) ++ Commit generation ∷ []

-- What was taken of a stage: how far it is, and its text so far.
pub record Taken : Type 0 where
  pub progress : Progress
  pub text : List ℕ

-- before anything was taken
abbrev pub nothing_taken : Taken
nothing_taken = record { progress = Nothing; text = [] }

-- a stage of this generation, taken whole
abbrev pub taken_whole : ℕ → List ℕ → Taken
taken_whole generation text = record { progress = Whole generation; text = text }

-- Whether an item can follow what was taken: a Begin the start alone; a Piece a Begin, up to the length that it gave; a Commit
-- of the same generation at that length; nothing a Commit.
abbrev pub can_follow_by : Progress → ℕ → StageItem → Bool
can_follow_by Nothing size (Begin generation most) = true
can_follow_by (Begun generation most) size (Piece piece) = nat_le (size + length piece) most
can_follow_by (Begun generation most) size (Commit committed) = (committed == generation) && (size == most)
can_follow_by progress size item = false

unfoldable pub can_follow : Taken → StageItem → Bool
can_follow taken item = can_follow_by taken.progress (length taken.text) item

-- what was taken, and an item that can follow it
abbrev pub taken_then : Taken → StageItem → Taken
taken_then taken (Begin generation size) = record taken { progress = Begun generation size }
taken_then taken (Piece piece) = record taken { text = taken.text ++ piece }
taken_then taken (Commit generation) = record taken { progress = Whole generation }

-- The items that still come, each of which can follow those before it, make a stage of this generation and text whole.
unfoldable pub Completes : ℕ → List ℕ → Taken → List StageItem → Type 0
Completes generation text taken [] = taken ≡ taken_whole generation text
Completes generation text taken (item ∷ items) =
    (can_follow taken item ≡ true) × Completes generation text (taken_then taken item) items

-- What taking an item answers. Only an item that can follow is taken, or wants memory.
abbrev pub Takes : Taken → Taken → StageItem → Result (Unit {0}) StageFault → Type 0
Takes old new item (Ok _) = (can_follow old item ≡ true) × (new ≡ taken_then old item)
Takes old new item (Err faults.OutOfOrder) = (can_follow old item ≡ false) × (new ≡ old)
Takes old new item (Err faults.NoMemory) = (can_follow old item ≡ true) × (new ≡ old)
Takes old new item (Err (faults.BadText fault)) = ⊥

-- whether a Commit was taken
abbrev pub is_whole : Progress → Bool
is_whole (Whole generation) = true
is_whole progress = false

-- What a whole stage gives: its generation and the configuration of its text, or the first fault of its text.
abbrev pub GivesConf : Taken → Result (ℕ × Conf) StageFault → Type 0
GivesConf taken (Ok given) =
    (taken.progress ≡ Whole given.0) × (configuration_within most_canonical_bytes taken.text ≡ Ok given.1)
GivesConf taken (Err (faults.BadText fault)) = configuration_within most_canonical_bytes taken.text ≡ Err fault
GivesConf taken (Err faults.OutOfOrder) = ⊥
GivesConf taken (Err faults.NoMemory) = Unit {0}
