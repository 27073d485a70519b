use Rattle.surface_damage.proofs.LawProofs.{due_bytes_are_filled_law}
use Rattle.surface_damage.proofs.laws.due_bytes_are_filled.Goals as goal

pub returns : goal.returns
returns c = due_bytes_are_filled_law
