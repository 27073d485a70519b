use Rattle.side_model.proofs.Runnings.{settles_by_part}
use Rattle.side_model.proofs.laws.run_is_part.Goals as goal

pub returns : goal.returns
returns c = settles_by_part
