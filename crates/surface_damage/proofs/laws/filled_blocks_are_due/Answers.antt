use Rattle.surface_damage.proofs.LawProofs.{filled_blocks_are_due_law}
use Rattle.surface_damage.proofs.laws.filled_blocks_are_due.Goals as goal

pub returns : goal.returns
returns c = filled_blocks_are_due_law
