use Rattle.side_model.proofs.Calms.{went_then_chooses, still_rests, up_rests}
use Rattle.side_model.proofs.laws.rest_is_kept.Goals as goal

pub returns-clause-went : goal.returns-clause-went
returns-clause-went c = went_then_chooses

pub returns-clause-still : goal.returns-clause-still
returns-clause-still c = still_rests

pub returns-clause-up : goal.returns-clause-up
returns-clause-up c = up_rests
