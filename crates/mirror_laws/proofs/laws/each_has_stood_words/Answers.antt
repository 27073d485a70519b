use Rattle.mirror_laws.proofs.Messages.{each_has_stood_words}
use Rattle.mirror_laws.proofs.laws.each_has_stood_words.Goals as goal

pub returns : goal.returns
returns c = each_has_stood_words
