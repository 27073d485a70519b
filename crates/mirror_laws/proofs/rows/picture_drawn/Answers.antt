use Rattle.mirror_laws.proofs.StoryRowProof.{picture_drawn}
use Rattle.mirror_laws.proofs.rows.picture_drawn.Goals as goal

pub returns : goal.returns
returns c = picture_drawn
