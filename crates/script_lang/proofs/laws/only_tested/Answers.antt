use Rattle.script_lang.proofs.GrammarLaws.{only_tested}
use Rattle.script_lang.proofs.laws.only_tested.Goals as goal

pub returns : goal.returns
returns c = only_tested c.text_is_visible.ensures.read
