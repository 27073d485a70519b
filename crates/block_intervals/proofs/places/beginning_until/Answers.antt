use Rattle.std.proofs.Common.{leb, rules}
use Rattle.std.proofs.lemmas.Bool.{leb-true, leb-false}
use Rattle.std.proofs.lemmas.List.Sorted.{IsPartitionPoint-from_clause, IsPartitionedBy-leb}
use Rattle.block_intervals.specs.declared.run.Run.{Run}
use Rattle.block_intervals.proofs.RunLemmas.{firsts_rise}
use Rattle.block_intervals.proofs.places.beginning_until.Goals as goal

pub returns-clause-until : goal.returns-clause-until
returns-clause-until c =
    let parted = IsPartitionedBy-leb (λ (r : Run). r.first) c.args.runs.now c.args.block (firsts_rise 0 c.args.runs.now c.requires) in
    let point = IsPartitionPoint-from_clause (λ (r : Run). leb r.first c.args.block) _ _ c.partition_point.ensures.partitioned parted (λ a r q k. search rules) in
    λ k d low high. leb-true _ _ (point.0 k d low high)

pub returns-clause-after : goal.returns-clause-after
returns-clause-after c =
    let parted = IsPartitionedBy-leb (λ (r : Run). r.first) c.args.runs.now c.args.block (firsts_rise 0 c.args.runs.now c.requires) in
    let point = IsPartitionPoint-from_clause (λ (r : Run). leb r.first c.args.block) _ _ c.partition_point.ensures.partitioned parted (λ a r q k. search rules) in
    λ k d low high. leb-false _ _ (point.1 k d low high)
