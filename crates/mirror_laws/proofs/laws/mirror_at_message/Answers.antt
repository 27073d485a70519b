use Rattle.mirror_laws.proofs.Mirrors.{mirror_at_message}
use Rattle.mirror_laws.proofs.laws.mirror_at_message.Goals as goal

pub returns : goal.returns
returns c = mirror_at_message
