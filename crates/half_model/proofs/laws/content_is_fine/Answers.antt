use Rattle.half_model.proofs.ContentLaws.{content_is_fine}
use Rattle.half_model.proofs.laws.content_is_fine.Goals as goal

pub returns : goal.returns
returns c = content_is_fine
