use Rattle.surface_damage.proofs.FilledLemmas.{filled_blocks_ascend_law}
use Rattle.surface_damage.proofs.laws.filled_blocks_ascend.Goals as goal

pub returns : goal.returns
returns c = filled_blocks_ascend_law
