use Rattle.block_intervals.proofs.EndLemmas.{ends_by_blocks_law}
use Rattle.block_intervals.proofs.laws.ends_by_blocks.Goals as goal

pub returns : goal.returns
returns c = ends_by_blocks_law
