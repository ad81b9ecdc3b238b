-- What a net in memory tells.
use Rattle.std.specs.Prelude.{Bool, List, Option, None, Some, is_some, if◌then◌else◌}
use Rattle.std.specs.declared.cmp.Ordering.{Ordering}
use Rattle.std.specs.BTreeMap.{BTreeMap, get}
use Rattle.net_base.specs.declared.addr.Addr.{Addr}
use Rattle.net_base.specs.declared.way.Way.{Way}
use Rattle.io_edge.specs.declared.net.NetCall.{NetCall}
use Rattle.io_edge.specs.declared.net.memory.NetRecord.{NetRecord}

-- the calls, while there was memory for all of them
abbrev pub told_calls : NetRecord → Option (List NetCall)
told_calls record' = if record'.tells then Some record'.calls else None

-- whether a connection with the peer is held
abbrev pub holds : (Addr → Addr → Ordering) → BTreeMap Addr Way → Addr → Bool
holds order held peer = is_some (get order held peer)
