-- What a port in memory has left, and what it sent.
use Rattle.std.specs.Prelude.{ℕ, List, drop}
use Rattle.io_edge.specs.declared.port.MemoryPort.{MemoryPort}

-- the bytes that aren't read yet
abbrev pub port_left : MemoryPort → List ℕ
port_left s = drop s.at s.answers

-- the bytes that were sent
abbrev pub port_sent : MemoryPort → List ℕ
port_sent s = s.sent
