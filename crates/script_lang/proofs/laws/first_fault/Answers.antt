use Rattle.script_lang.proofs.GrammarLaws.{first_fault}
use Rattle.script_lang.proofs.laws.first_fault.Goals as goal

pub returns : goal.returns
returns c = first_fault c.text_is_visible.ensures.read
