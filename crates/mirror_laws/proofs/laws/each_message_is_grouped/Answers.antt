use Rattle.mirror_laws.proofs.Messages.{each_is_grouped}
use Rattle.mirror_laws.proofs.laws.each_message_is_grouped.Goals as goal

pub returns : goal.returns
returns c = each_is_grouped
