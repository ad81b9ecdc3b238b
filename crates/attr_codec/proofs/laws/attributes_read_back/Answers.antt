use Rattle.attr_codec.proofs.FieldSays.{plain_back, reach_back, unreach_back, nothing_back}
use Rattle.attr_codec.proofs.laws.attributes_read_back.Goals as goal

pub returns-clause-plain : goal.returns-clause-plain
returns-clause-plain c enc attrs is e = plain_back enc attrs is e

pub returns-clause-reach : goal.returns-clause-reach
returns-clause-reach c enc attrs prefixes is e v6 each short = reach_back enc attrs prefixes is e v6 each short

pub returns-clause-unreach : goal.returns-clause-unreach
returns-clause-unreach c enc prefixes v6 each short = unreach_back enc prefixes v6 each short

pub returns-clause-nothing : goal.returns-clause-nothing
returns-clause-nothing c enc = nothing_back enc
