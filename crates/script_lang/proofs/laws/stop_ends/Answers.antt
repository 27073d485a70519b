use Rattle.script_lang.proofs.GrammarLaws.{stop_ends}
use Rattle.script_lang.proofs.laws.stop_ends.Goals as goal

pub returns : goal.returns
returns c = stop_ends
