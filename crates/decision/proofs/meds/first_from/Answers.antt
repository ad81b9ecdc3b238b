use Rattle.std.proofs.Common.{ltb, rules, arith}
use Rattle.std.proofs.lemmas.Bool.{ltb-true, ltb-false}
use Rattle.std.proofs.lemmas.List.Sorted.{IsPartitionPoint-from_clause, IsPartitionedBy-ltb}
use Rattle.decision.specs.declared.meds.NeighbourMed.{NeighbourMed}
use Rattle.decision.proofs.LowerMeds.{ases_rise}
use Rattle.decision.proofs.meds.first_from.Goals as goal

pub returns : goal.returns
returns c =
    let parted = IsPartitionedBy-ltb (λ (med : NeighbourMed). med.neighbour_as) c.args.meds.now c.args.asn (ases_rise c.args.meds.now c.requires) in
    let point = IsPartitionPoint-from_clause (λ (med : NeighbourMed). ltb med.neighbour_as c.args.asn) _ _ c.partition_point.ensures.partitioned parted (λ a r q k. search rules) in
    record {
      before = λ k d h. ltb-true _ _ (point.0 k d (omega arith) h);
      after = λ k d h w. ltb-false _ _ (point.1 k d h w);
    }
