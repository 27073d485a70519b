use Rattle.script_lang.proofs.GrammarLaws.{one_step_each}
use Rattle.script_lang.proofs.laws.one_step_each.Goals as goal

pub returns : goal.returns
returns c = one_step_each c.text_is_visible.ensures.read
