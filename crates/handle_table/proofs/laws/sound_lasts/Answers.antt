use Rattle.handle_table.proofs.Rids.{sound_lasts}
use Rattle.handle_table.proofs.laws.sound_lasts.Goals as goal

pub returns : goal.returns
returns c = sound_lasts
