-- What a source in memory has left.
use Rattle.std.specs.Prelude.{ℕ, List, drop}
use Rattle.io_edge.specs.declared.source.MemorySource.{MemorySource}

-- the bytes that aren't read yet
abbrev pub source_left : MemorySource → List ℕ
source_left s = drop s.at s.bytes
