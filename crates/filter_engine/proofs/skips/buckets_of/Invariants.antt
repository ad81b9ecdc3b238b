use Rattle.std.proofs.Common.{◌≡◌, map, take}
use Rattle.filter_engine.specs.Skips.{bucket_of}
use Rattle.filter_engine.proofs.skips.buckets_of.Given as goal

abbrev pub invariant-loop-rule : goal.invariant-loop-rule
invariant-loop-rule l = l.buckets.items ≡ map (bucket_of l.count) (take l.rule-index l.rules)
