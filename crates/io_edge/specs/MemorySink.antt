-- What a sink in memory holds.
use Rattle.std.specs.Prelude.{ℕ, List}
use Rattle.io_edge.specs.declared.sink.MemorySink.{MemorySink}

-- the bytes that were written
abbrev pub sink_written : MemorySink → List ℕ
sink_written s = s.written
