use Rattle.std.proofs.Common.{arith}
use Rattle.block_intervals.proofs.RunLemmas.{rises_each}
use Rattle.block_intervals.proofs.blocks.Blocks.merged.Goals as goal

pub add-requires : goal.add-requires
add-requires c = rises_each 0 c.args.mine.now c.requires.mine_rise _ _ (omega arith)

pub add-requires-else-mine-at : goal.add-requires-else-mine-at
add-requires-else-mine-at c = rises_each 0 c.args.others.now c.requires.others_rise _ _ (omega arith)
