use Rattle.script_lang.proofs.GrammarLaws.{too_many_lines}
use Rattle.script_lang.proofs.laws.too_many_lines.Goals as goal

pub returns : goal.returns
returns c = too_many_lines c.text_is_visible.ensures.read
