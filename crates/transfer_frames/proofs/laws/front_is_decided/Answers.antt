use Rattle.transfer_frames.proofs.FrontLaws.{front-spelled, front-is_frame, front-grows, front-proper}
use Rattle.transfer_frames.proofs.laws.front_is_decided.Goals as goal

pub returns-clause-spelled : goal.returns-clause-spelled
returns-clause-spelled c = front-spelled

pub returns-clause-found : goal.returns-clause-found
returns-clause-found c = front-is_frame

pub returns-clause-stays : goal.returns-clause-stays
returns-clause-stays c = front-grows

pub returns-clause-waits : goal.returns-clause-waits
returns-clause-waits c = front-proper
