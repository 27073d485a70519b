use Rattle.std.proofs.Common.{ltb, rules}
use Rattle.std.proofs.lemmas.Bool.{ltb-true, ltb-false}
use Rattle.std.proofs.lemmas.List.Sorted.{IsPartitionPoint-from_clause, IsPartitionedBy-ltb}
use Rattle.block_intervals.specs.declared.run.Run.{Run}
use Rattle.block_intervals.proofs.RunLemmas.{ends_rise}
use Rattle.block_intervals.proofs.places.ending_before.Goals as goal

pub returns-clause-before : goal.returns-clause-before
returns-clause-before c =
    let parted = IsPartitionedBy-ltb (λ (r : Run). r.end) c.args.runs.now c.args.block (ends_rise 0 c.args.runs.now c.requires) in
    let point = IsPartitionPoint-from_clause (λ (r : Run). ltb r.end c.args.block) _ _ c.partition_point.ensures.partitioned parted (λ a r q k. search rules) in
    λ k d low high. ltb-true _ _ (point.0 k d low high)

pub returns-clause-from_there : goal.returns-clause-from_there
returns-clause-from_there c =
    let parted = IsPartitionedBy-ltb (λ (r : Run). r.end) c.args.runs.now c.args.block (ends_rise 0 c.args.runs.now c.requires) in
    let point = IsPartitionPoint-from_clause (λ (r : Run). ltb r.end c.args.block) _ _ c.partition_point.ensures.partitioned parted (λ a r q k. search rules) in
    λ k d low high. ltb-false _ _ (point.1 k d low high)
