-- What files tell: their contents, and the readings of them.
use Rattle.std.specs.Prelude.{◌≡◌, ℕ, List, Option, None, Some, Result, Ok, Err}
use Rattle.std.specs.List.{find}
use Rattle.std.specs.Option.{option_map}
use Rattle.std.specs.Str.{bytes_eq}
use Rattle.io_edge.specs.Told.{with_entry}
use Rattle.io_edge.specs.declared.files.FileFault.{FileFault}
use Rattle.io_edge.specs.declared.files.FileFault.TheVariants.{Failed, NoMemory}
use Rattle.io_edge.specs.declared.files.FileReading.{FileReading}
use Rattle.io_edge.specs.declared.files.MemoryFile.{MemoryFile}

-- A call stands in the list of readings with its answer. After a want of memory it doesn't stand there.
abbrev pub NotesReading : Option (List FileReading) → Option (List FileReading) → List ℕ → ℕ → Result (List ℕ) FileFault → Type 0
NotesReading old new name limit (Ok bytes) = new ≡ with_entry old (record { name = name; limit = limit; bytes = Some bytes })
NotesReading old new name limit (Err Failed) = new ≡ with_entry old (record { name = name; limit = limit; bytes = None })
NotesReading old new name limit (Err NoMemory) = new ≡ old

-- the content of the first file of that name
abbrev pub content_of : List MemoryFile → List ℕ → Option (List ℕ)
content_of files name = option_map (λ file. file.content) (find (λ file. bytes_eq file.name name) files)
