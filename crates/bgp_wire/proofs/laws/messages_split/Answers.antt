use Rattle.bgp_wire.proofs.Stream.{split_so, split_only, all_written, goes_on, stays}
use Rattle.bgp_wire.proofs.laws.messages_split.Goals as goal

pub returns-clause-there : goal.returns-clause-there
returns-clause-there c bytes are = split_so bytes are

pub returns-clause-only : goal.returns-clause-only
returns-clause-only c bytes ms s = split_only bytes ms s

pub returns-clause-written : goal.returns-clause-written
returns-clause-written c ms rest each = all_written ms rest each

pub returns-clause-goes_on : goal.returns-clause-goes_on
returns-clause-goes_on c bytes more are none = goes_on bytes more are none

pub returns-clause-stays : goal.returns-clause-stays
returns-clause-stays c bytes more are some = stays bytes more are some
